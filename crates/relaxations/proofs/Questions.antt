-- Literals that deny excesses: what they say of costs.
use Rattle.std.proofs.Common.{◌≡◌, ⊎_elim, ℕ, ◌<◌, Bool, true, false, not, List, [], length, get_or, ap, sym, subst, ◌∙◌, arith, ℤ, pos, ◌+ℤ◌, ◌≤ℤ◌}
use Rattle.std.proofs.Math.ListN.{get_or-map}
use Rattle.std.specs.List.{All, Contains}
use Rattle.std.proofs.lemmas.Bool.{cases_Bool}
use Rattle.std.proofs.lemmas.Int.{ints}
use Rattle.std.proofs.lemmas.List.Elements.{All-contains, All-weaker}
use Rattle.scut_base.specs.Literal.{Literal}
use Rattle.scut_base.specs.Assignment.{lit_true}
use Rattle.front_set.specs.Vector.{IsBelow}
use Rattle.pb_lin.specs.Constraint.{Holds, IsVariable, opposite}
use Rattle.pb_lin.specs.CostRow.{CostRowValue, row_cost}
use Rattle.pb_lin.specs.Problem.{ProblemValue, problem_costs}
use Rattle.proof_laws.specs.State.{StateValue}
use Rattle.proof_laws.specs.Replay.{IsReplay}
use Rattle.proof_laws.specs.declared.line.Line.{Line}
use Rattle.instance_normal.proofs.Truth.{truth-opposite}
use Rattle.oracle.specs.Solving.{AreAssumptions}
use Rattle.sum_outputs.specs.Adding.{KeptHold}
use Rattle.totalizer.specs.declared.bound.Bound.{Bound}
use Rattle.totalizer.specs.declared.bound.Bound.TheVariants.{Always, Never, At}
use Rattle.relaxations.specs.Questions.{AreExcesses, Denies, IsDenial, IsExcess, IsRuledOut}
use Rattle.relaxations.specs.Telling.{number_at}
use Rattle.relaxations.proofs.Excesses.{LiveHold, IsMet, IsUnmet, row_reaches, row_stays, all_below}

-- the literal denies one of these
abbrev pub IsOf : List Bound → Literal → Type 0
IsOf bounds m = (b : Bound) × Contains bounds b × IsDenial b m

pub excess_there : (p : ProblemValue) (lines : List Line) (limits : List ℤ) (bounds : List Bound)
    → AreExcesses p lines limits bounds → (b : Bound) (place : Contains bounds b) → IsExcess p lines limits place.0 b
excess_there p lines limits bounds excesses b place =
    subst (λ (c : Bound). IsExcess p lines limits place.0 c) place.2 (excesses.each place.0 b place.1)

module _ (p : ProblemValue) (lines : List Line) (limits : List ℤ) (bounds : List Bound) (lits : List Literal)
    (s : StateValue) (reached : IsReplay p lines s)
    (excesses : AreExcesses p lines limits bounds) (denies : Denies bounds lits) where
  denial_variable : (b : Bound) (i : ℕ) (m : Literal) → IsExcess p lines limits i b → IsDenial b m
      → IsVariable s.vars m.var
  denial_variable (Always id) i m excess denial = absurd denial
  denial_variable Never i m excess denial = absurd denial
  denial_variable (At l id) i m excess denial =
      let is = excess (record { terms = []; offset = pos 0 }) (pos 0) in
      subst (λ (k : Literal). IsVariable s.vars k.var) (sym denial) (is s reached).variable

  pub are_assumptions : AreAssumptions s.vars lits
  are_assumptions = record {
    variables = All-weaker (IsOf bounds) (λ m. IsVariable s.vars m.var)
        (λ m is. denial_variable is.0 is.1.0 m (excess_there p lines limits bounds excesses is.0 is.1) is.2) lits denies.only;
    apart = denies.apart;
  }

  module _ (x : List Bool) where
    unmet : (b : Bound) → IsRuledOut lits b → All (λ l. lit_true x l ≡ true) lits → IsUnmet x b
    unmet (Always id) out all = absurd out
    unmet Never out all = tt
    unmet (At l id) out all =
        let truth : lit_true x (opposite l) ≡ true =
        All-contains (λ l. lit_true x l ≡ true) lits (opposite l) all out in
        let turned = truth-opposite x l in
        grind arith

    -- where they are true, no cost exceeds its limit
    pub asked_below : length bounds ≡ length limits → length limits ≡ length p.costs → All (Holds x) p.rows
        → KeptHold p lines s x → All (λ l. lit_true x l ≡ true) lits → IsBelow (problem_costs p x) limits
    asked_below whole long rows kept all = all_below x p.costs limits long (λ i d e short.
        let inside : i < length bounds = omega arith in
        let bound = get_or bounds i Never in
        let less = row_stays p lines s reached (get_or p.costs i d) (get_or limits i e +ℤ pos 1) bound x
        (excesses.each i Never inside d e) rows kept (unmet bound (denies.out i Never inside) all) in
        omega (arith, ints))

-- ---- costs within limits

module _ (p : ProblemValue) (lines : List Line) (limits : List ℤ) (s : StateValue) (reached : IsReplay p lines s)
    (x : List Bool) (hold : LiveHold s x) where
  -- where a cost is at most its limit, the bound isn't reached
  pub not_met : (i : ℕ) (b : Bound) → IsExcess p lines limits i b
      → number_at (problem_costs p x) i ≤ℤ number_at limits i → IsMet x b → ⊥
  not_met i b excess most met =
      let d : CostRowValue = record { terms = []; offset = pos 0 } in
      let row = get_or p.costs i d in
      let cost : number_at (problem_costs p x) i ≡ row_cost x row = get_or-map (row_cost x) p.costs i d in
      let least =
      row_reaches p lines s reached row (number_at limits i +ℤ pos 1) b x (excess d (pos 0)) hold met in
      omega (arith, ints)

  -- and what denies it is true
  pub denied : (i : ℕ) (b : Bound) (m : Literal) → IsExcess p lines limits i b
      → number_at (problem_costs p x) i ≤ℤ number_at limits i → IsDenial b m → lit_true x m ≡ true
  denied i (Always id) m excess most denial = absurd denial
  denied i Never m excess most denial = absurd denial
  denied i (At l id) m excess most denial =
      ap (lit_true x) denial ∙ truth-opposite x l ∙ ⊎_elim
      (λ (met : lit_true x l ≡ true). absurd (not_met i (At l id) excess most met))
      (λ (open' : lit_true x l ≡ false). ap not open')
      (cases_Bool (lit_true x l))
