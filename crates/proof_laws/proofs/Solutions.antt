-- A logged model bounds each objective from below where the cut's literals are false.
use Rattle.std.proofs.Common.{◌≡◌, ◌⊎◌, ℕ, ◌+◌, ◌≤◌, ◌==◌, Bool, true, false, not, if◌then◌else◌, Option, Some, None, List, [], ◌∷◌, map, get_or, refl, arith, sym, ◌∙◌, ⊎_elim}
use Rattle.std.specs.Prelude.{MatchOption, option_map}
use Rattle.std.specs.List.{All}
use Rattle.std.specs.FinMap.{get}
use Rattle.std.proofs.lemmas.Bool.{cases_Bool, cond-true, cond-false}
use Rattle.std.proofs.lemmas.List.Elements.{All-nil, All-cons, All-map}
use Rattle.scut_base.specs.Literal.{Literal}
use Rattle.scut_base.specs.Assignment.{lit_true, value_of}
use Rattle.pb_lin.specs.Constraint.{ConstraintValue, Holds, opposite, value}
use Rattle.pb_lin.specs.CostRow.{CostRowValue}
use Rattle.pb_lin.specs.Problem.{ProblemValue}
use Rattle.pb_lin.specs.Restriction.{restriction}
use Rattle.pb_lin.proofs.Laws.{Holds-restriction, Implies-covers}
use Rattle.proof_laws.specs.State.{StateValue, Satisfies}
use Rattle.proof_laws.specs.Refusal.{FirstOf, Bounds, IsCutFault, IsSolFault, line_or_none, misplaced, broken_row, range_fault, assignment_of}
use Rattle.proof_laws.specs.declared.why.Why.{Why}
use Rattle.proof_laws.specs.declared.why.Why.TheVariants.{NoSuchId, CutOpen, VarRange, SolRow}
use Rattle.proof_laws.proofs.Derivations.{first_of_none}
use Rattle.proof_laws.proofs.Ranges.{range_bounds}

opposite_true : (x : List Bool) (l : Literal) → lit_true x l ≡ false → lit_true x (opposite l) ≡ true
opposite_true x l e = by l.neg (value_of x l.var) e
  where
    by : (neg b : Bool) → (if neg then not b else b) ≡ false → (if not neg then not b else b) ≡ true
    by true true e = refl
    by true false e = cc
    by false true e = cc
    by false false e = refl

-- a line that bounds a row, and holds, keeps the row at its value at the model
bound_keeps : (cut : List Literal) (a : List Bool) (c : ConstraintValue) (r : CostRowValue) → Bounds cut a c r → (x : List Bool) → All (λ l. lit_true x l ≡ false) cut → Holds x c → value a r.terms ≤ value x r.terms
bound_keeps cut a c r bounds x all_false holds =
    let truths : List Literal = map opposite cut in
    let all_true : All (λ l. lit_true x l ≡ true) truths = All-map (λ l. lit_true x l ≡ true) opposite cut (λ k d short. opposite_true x (get_or cut k d) (all_false k d short)) in
    let left = (Holds-restriction c truths x all_true).1 holds in
    let right = Implies-covers (restriction c truths) (restriction (record { terms = r.terms; degree = value a r.terms }) truths) bounds x left in
    (Holds-restriction (record { terms = r.terms; degree = value a r.terms }) truths x all_true).0 right

-- a line of an id that may be named holds
named_holds : (p : ProblemValue) (s : StateValue) (x : List Bool) → Satisfies p s x → (id : ℕ) (c : ConstraintValue) → line_or_none s.live id ≡ Some c → Holds x c
named_holds p s x sat id c is = ⊎_elim
    (λ (none : (id == 0) ≡ true). let same : Some (record { terms = []; degree = 0 }) ≡ Some c = sym (cond-true (id == 0) (Some (record { terms = []; degree = 0 })) (get s.live id) none) ∙ is in
    let e : ConstraintValue.degree c ≡ 0 = cc in omega arith)
    (λ (some : (id == 0) ≡ false). sat.live id c (sym (cond-false (id == 0) (Some (record { terms = []; degree = 0 })) (get s.live id) some) ∙ is))
    (cases_Bool (id == 0))

module _ (p : ProblemValue) (s : StateValue) (x : List Bool) (sat : Satisfies p s x) (cut : List Literal) (all_false : All (λ l. lit_true x l ≡ false) cut) (a : List Bool) where
  abbrev Kept : CostRowValue → Type 0
  Kept r = value a r.terms ≤ value x r.terms

  -- the same for the first of them, where it names this line
  one_keeps : (i : ℕ) (r : CostRowValue) (rs : List CostRowValue) (ids : List ℕ) (id : ℕ) (named : Option ConstraintValue) → line_or_none s.live id ≡ named →
      (IsCutFault s.live cut a (i + 1) rs ids None → All Kept rs) →
      MatchOption named (None ≡ Some (NoSuchId id)) (λ c. (Bounds cut a c r × IsCutFault s.live cut a (i + 1) rs ids None) ⊎ ((Bounds cut a c r → ⊥) × (None ≡ Some (CutOpen i)))) → All Kept (r ∷ rs)
  one_keeps i r rs ids id None e rest m = cc
  one_keeps i r rs ids id (Some c) e rest m = ⊎_elim
      (λ (fine : Bounds cut a c r × IsCutFault s.live cut a (i + 1) rs ids None). All-cons Kept r rs (bound_keeps cut a c r fine.0 x all_false (named_holds p s x sat id c e)) (rest fine.1))
      (λ (bad : (Bounds cut a c r → ⊥) × (◌≡◌ {A = Option Why} None (Some (CutOpen i)))). let never = bad.1 in cc)
      m

  -- where no id is faulty, each objective is kept
  cut_keeps : (i : ℕ) (rs : List CostRowValue) (ids : List ℕ) → IsCutFault s.live cut a i rs ids None → All Kept rs
  cut_keeps i [] ids is = All-nil Kept
  cut_keeps i (r ∷ rs) [] is = cc
  cut_keeps i (r ∷ rs) (id ∷ ids) is = one_keeps i r rs ids id (line_or_none s.live id) refl (cut_keeps (i + 1) rs ids) is

-- the conditions on the model and on the cut's variables, and the ids
pub sol_parts : (p : ProblemValue) (s : StateValue) (model cut : List Literal) (ids : List ℕ) → IsSolFault p s model cut ids None →
    (option_map VarRange (misplaced 1 p.vars model) ≡ None) × (option_map SolRow (broken_row (assignment_of model) p.rows) ≡ None) × (All (λ v. v ≤ s.vars) (map (λ l. l.var) cut)) × IsCutFault s.live cut (assignment_of model) 1 p.costs ids None
sol_parts p s model cut ids is =
    let last = IsCutFault s.live cut (assignment_of model) 1 p.costs ids in
    let one = first_of_none (option_map VarRange (misplaced 1 p.vars model)) (FirstOf (option_map SolRow (broken_row (assignment_of model) p.rows)) (FirstOf (range_fault s.vars (map (λ l. l.var) cut)) last)) is in
    let two = first_of_none (option_map SolRow (broken_row (assignment_of model) p.rows)) (FirstOf (range_fault s.vars (map (λ l. l.var) cut)) last) one.1 in
    let three = first_of_none (range_fault s.vars (map (λ l. l.var) cut)) last two.1 in
    (one.0, two.0, range_bounds s.vars (map (λ l. l.var) cut) three.0, three.1)

pub solution_bounds : (p : ProblemValue) (s : StateValue) (model cut : List Literal) (ids : List ℕ) → IsSolFault p s model cut ids None →
    (x : List Bool) → Satisfies p s x → All (λ l. lit_true x l ≡ false) cut → All (λ r. value (assignment_of model) r.terms ≤ value x r.terms) p.costs
solution_bounds p s model cut ids is x sat all_false = cut_keeps p s x sat cut all_false (assignment_of model) 1 p.costs ids (sol_parts p s model cut ids is).3
