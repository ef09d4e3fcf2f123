-- What taking up a legal line asks for, and leaves.
use Rattle.std.proofs.Common.{◌≡◌, ℕ, Bool, Option, None, Some, Result, Ok, Err, List, length, arith, refl, sym, subst, ap, ◌∙◌}
use Rattle.std.specs.List.{All}
use Rattle.std.specs.Prelude.{OnOk}
use Rattle.scut_base.specs.Literal.{Literal}
use Rattle.pb_lin.specs.Constraint.{ConstraintValue, TermsUpTo, UpTo}
use Rattle.pb_lin.specs.CostRow.{CostRowValue}
use Rattle.pb_lin.specs.Problem.{ProblemValue, IsProblem}
use Rattle.cutting_planes.specs.declared.token.PolToken.{PolToken}
use Rattle.proof_laws.specs.WellFormed.{IsWellFormed}
use Rattle.proof_laws.specs.State.{StateValue, IsState, Fits}
use Rattle.proof_laws.specs.Steps.{with_line}
use Rattle.proof_laws.specs.Refusal.{assignment_of, misplaced}
use Rattle.proof_laws.specs.Legal.{IsLegal, IsNext, Makes}
use Rattle.proof_laws.specs.Laws.{StandsBefore}
use Rattle.proof_laws.specs.declared.line.Line.{Line}
use Rattle.proof_laws.specs.declared.line.Line.TheVariants.{Pol, Rup, Learn, Def, Red, Dom, Sol, Del, Reduce, End}
use Rattle.proof_laws.proofs.NextCovers.{legal_parts}
use Rattle.proof_laws.proofs.NextKept.{next_fits_law}
use Rattle.proof_laws.proofs.Ranges.{def_parts, terms_upto}
use Rattle.proof_rules.specs.Verdict.{IsValueMade}
use Rattle.proof_rules.proofs.Models.{length-assignment_of, placed_length}

-- after a legal line the state fits the problem
pub fits_after : (p : ProblemValue) (s : StateValue) (line : Line) (t : StateValue) → IsProblem p → IsState s → Fits p s → IsWellFormed line → IsNext p s line t → Fits p t
fits_after p s line t problem state fits formed next = (next_fits_law p s line t (record { problem = problem; state = state; fits = fits; formed = formed }) next).1

-- the same of what is known of a line that was taken up
pub fits_on_ok : {E : Type 0} (p : ProblemValue) (s : StateValue) (line : Line) (t : StateValue) (r : Result (Unit {0}) E) → IsProblem p → IsState s → Fits p s → IsWellFormed line → OnOk r (IsNext p s line t) → OnOk r (Fits p t)
fits_on_ok p s line t (Ok done) problem state fits formed next = fits_after p s line t problem state fits formed next
fits_on_ok p s line t (Err e) problem state fits formed next = tt

-- tokens make the constraint of no line but `pol`
pol_line : (s : StateValue) (line : Line) (c : ConstraintValue) → IsValueMade s line (Some c) → (tokens : List PolToken) × (line ≡ Pol tokens)
pol_line s (Pol tokens) c made = (tokens, refl)
pol_line s (Rup goal hints) c made = absurd cc
pol_line s (Learn goal hints) c made = absurd cc
pol_line s (Def var sum) c made = absurd cc
pol_line s (Red goal w proofs) c made = absurd cc
pol_line s (Dom goal w proofs) c made = absurd cc
pol_line s (Sol model cut ids) c made = absurd cc
pol_line s (Del ids) c made = absurd cc
pol_line s (Reduce ids) c made = absurd cc
pol_line s (End id) c made = absurd cc

module _ (p : ProblemValue) (s : StateValue) (line : Line) (before : StandsBefore p s line) (legal : IsLegal p s line) where
  -- what a legal line of this form makes is a state
  pub next_state : (form : Line) (t : StateValue) → line ≡ form → Makes p s form t → IsState t
  next_state form t is makes = (next_fits_law p s line t before (record { legal = legal; makes = subst (λ (l : Line). Makes p s l t) (sym is) makes })).0

  -- the constraint that tokens have made
  module _ (made : Option ConstraintValue) (c : ConstraintValue) (value : IsValueMade s line made) (some : made ≡ Some c) where
    pub makes_value : (t : StateValue) → t ≡ with_line s c → IsNext p s line t
    makes_value t is =
        let found : IsValueMade s line (Some c) = subst (λ (m : Option ConstraintValue). IsValueMade s line m) some value in
        let form = pol_line s line c found in
        let own = subst (λ (l : Line). IsValueMade s l (Some c)) form.1 found in
        let same : c ≡ own.0 = let both : Some c ≡ Some own.0 = own.1 in cc in
        record {
          legal = legal;
          makes = subst (λ (l : Line). Makes p s l t) (sym form.1) (own.0, own.2, is ∙ ap (with_line s) same);
        }

    pub value_state : IsState (with_line s c)
    value_state = (next_fits_law p s line (with_line s c) before (makes_value (with_line s c) refl)).0

  pub sum_upto : (var : ℕ) (sum : ConstraintValue) → line ≡ Def var sum → UpTo s.vars sum
  sum_upto var sum is =
      let own = subst (λ (l : Line). IsLegal p s l) is legal in
      terms_upto s.vars sum.terms (def_parts s var sum (sym (legal_parts p s (Def var sum) own).rule)).range

-- the values of a model are those of the problem's variables
pub model_long : (p : ProblemValue) (model : List Literal) → misplaced 1 p.vars model ≡ None → length model ≡ p.vars
model_long p model placed = let long = placed_length p.vars 1 model (omega arith) placed in omega arith

pub model_placed : (p : ProblemValue) (model : List Literal) → misplaced 1 p.vars model ≡ None → misplaced 1 (length model) model ≡ None
model_placed p model placed = subst (λ (n : ℕ). misplaced 1 n model ≡ None) (sym (model_long p model placed)) placed

pub costs_upto : (p : ProblemValue) (model : List Literal) (a : List Bool) (rows : List CostRowValue) → IsProblem p → misplaced 1 p.vars model ≡ None → a ≡ assignment_of model → rows ≡ p.costs → All (λ r. TermsUpTo (length a) r.terms) rows
costs_upto p model a rows problem placed is same =
    let long : p.vars ≡ length a = sym (ap length is ∙ length-assignment_of model ∙ model_long p model placed) in
    subst (λ (rs : List CostRowValue). All (λ r. TermsUpTo (length a) r.terms) rs) (sym same)
    (subst (λ (n : ℕ). All (λ r. TermsUpTo n r.terms) p.costs) long problem.cost_variables)
