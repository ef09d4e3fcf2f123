-- What the requirements of a substitution give, where each is met.
use Rattle.std.proofs.Common.{◌≡◌, ◌⊎◌, ℕ, zero, suc, ◌+◌, ◌*◌, ◌<◌, ◌≤◌, ◌==◌, Bool, true, false, cond, Option, Some, None, List, [], ◌∷◌, ◌++◌, filter, length, get_or, sum_by, arith, sym, subst, ap, ◌∙◌, ⊎_elim, Ok, Err}
use Rattle.std.specs.Prelude.{MatchOption, nat_lt}
use Rattle.std.specs.List.{All, Contains}
use Rattle.std.specs.Ordering.{nat_cmp, eq_by_cmp}
use Rattle.std.specs.FinMap.{get, entries, get-entries, find}
use Rattle.std.specs.Cmp.{unsigned_tied}
use Rattle.std.proofs.lemmas.Bool.{ltb-true, eqb-true, eq-eqb, cases_Bool, cond-true, cond-false}
use Rattle.std.proofs.lemmas.List.{get_or-map, length-map}
use Rattle.std.proofs.lemmas.List.Elements.{All-nil, All-cons, All-head, All-tail, All-contains}
use Rattle.std.proofs.lemmas.List.Sums.{sum_by-le-sum_by}
use Rattle.std.proofs.lemmas.List.Folds.{list_any_at}
use Rattle.scut_base.proofs.Lists.{Contains-head, Contains-cons, Contains-map, Contains-filter}
use Rattle.scut_base.specs.Literal.{Literal}
use Rattle.scut_base.specs.Assignment.{lit_true}
use Rattle.pb_lin.specs.Constraint.{ConstraintValue, Holds, literals, negation, size, total, value, term_value}
use Rattle.pb_lin.specs.CostRow.{CostRowValue}
use Rattle.pb_lin.specs.Problem.{ProblemValue}
use Rattle.pb_lin.specs.Substitution.{Images, has_image, touches, value_under}
use Rattle.pb_lin.specs.Given.{Given, HoldsGiven}
use Rattle.cutting_planes.specs.Stack.{IsValueOn, Answer}
use Rattle.cutting_planes.specs.declared.token.PolToken.{PolToken}
use Rattle.proof_laws.specs.State.{StateValue, Satisfies, RowsLive, numbered}
use Rattle.proof_laws.specs.Substituted.{Requirement, IsGoalOf, holds_after, not_risen, none_risen, has_fallen, touched_hold, redundance, dominance}
use Rattle.proof_laws.specs.Refusal.{FirstOf, size_fault, given_in, contradiction_fault, proof_of, IsProofFault, IsOpenGoalFault, IsGoalFault, IsFirstGoalFault}
use Rattle.proof_laws.specs.declared.goal.Goal.{Goal}
use Rattle.proof_laws.specs.declared.goal.Goal.TheVariants.{Row, Itself}
use Rattle.proof_laws.specs.declared.goal.GoalProof.{GoalProof}
use Rattle.proof_laws.specs.declared.goal.GoalProof.TheVariants.{Rup as ByRup, Pol as ByPol}
use Rattle.proof_laws.specs.declared.why.Why.{Why}
use Rattle.proof_laws.specs.declared.why.Why.TheVariants.{GoalOpen, GoalMissing}
use Rattle.proof_laws.proofs.Semantics.{AreWithin, IsWithin, AreUntouched, Broken, StaysTrue, StaysLow, IsRedundant, IsDominated, weight}
use Rattle.proof_laws.proofs.Derivations.{first_of_none, unless_none, replayed_refutes, pol_implies}
use Rattle.proof_laws.proofs.KeptWithin.{rows_stay}
use Rattle.proof_laws.proofs.WitnessGoals.{conflict_closes, goal_stays, untouched_stays, cost_goal_is, strict_goal_is}

kept_or_none : (b : Bool) (n : ℕ) → cond b n 0 ≤ n
kept_or_none true n = omega arith
kept_or_none false n = omega arith

-- a value is at most the sum of the coefficients
value-le-total : (a : List Bool) (terms : List (Literal × ℕ)) → value a terms ≤ total terms
value-le-total a terms = sum_by-le-sum_by (term_value a) (λ t. t.1) terms (λ t. kept_or_none (lit_true a t.0) t.1)

-- tokens that make a constraint of too small coefficients refute what they may name
contradiction_refutes : (given : Given) (tokens : List PolToken) (why : Why) (answer : Answer) → IsValueOn given [] tokens answer → None ≡ contradiction_fault why answer → (a : List Bool) → HoldsGiven a given → ⊥
contradiction_refutes given tokens why (Ok c) is e a holds =
    let low : nat_lt (total c.terms) c.degree ≡ true = unless_none (nat_lt (total c.terms) c.degree) why (sym e) in
    let less : total c.terms < c.degree = ltb-true (total c.terms) c.degree low in
    let most = value-le-total a c.terms in
    let holds-c : Holds a c = pol_implies given tokens c is a holds in
    omega arith
contradiction_refutes given tokens why (Err f) is e a holds = cc

-- what a look-up finds is an entry
pub found_is_entry : (es : List (ℕ × ConstraintValue)) (id : ℕ) (d : ConstraintValue) → find nat_cmp id es ≡ Some d → Contains es (id, d)
found_is_entry [] id d is = cc
found_is_entry (e ∷ es) id d is = ⊎_elim
    (λ (here : eq_by_cmp nat_cmp id e.0 ≡ true).
    let key : id ≡ e.0 = eqb-true id e.0 (sym (unsigned_tied id e.0) ∙ here) in
    let value' : Some e.1 ≡ Some d = sym (cond-true (eq_by_cmp nat_cmp id e.0) (Some e.1) (find nat_cmp id es) here) ∙ is in
    let same : e.1 ≡ d = cc in
    let pair : e ≡ (id, d) = ap (λ (k : ℕ). (k, e.1)) (sym key) ∙ ap (λ (x : ConstraintValue). (id, x)) same in
    subst (λ (x : ℕ × ConstraintValue). Contains (e ∷ es) x) pair (Contains-head e es))
    (λ (later : eq_by_cmp nat_cmp id e.0 ≡ false). Contains-cons e (id, d) es (found_is_entry es id d (sym (cond-false (eq_by_cmp nat_cmp id e.0) (Some e.1) (find nat_cmp id es) later) ∙ is)))
    (cases_Bool (eq_by_cmp nat_cmp id e.0))

numbered_contains : (n : ℕ) (cs : List ConstraintValue) (k : ℕ) (d : ConstraintValue) → k < length cs → Contains (numbered n cs) (k + n, get_or cs k d)
numbered_contains n [] k d short = absurd (omega arith)
numbered_contains n (c ∷ cs) zero d short = subst (λ (m : ℕ). Contains (numbered n (c ∷ cs)) (m, c)) (let e : n ≡ 0 + n = omega arith in e) (Contains-head (n, c) (numbered (n + 1) cs))
numbered_contains n (c ∷ cs) (suc k) d short = subst (λ (m : ℕ). Contains (numbered n (c ∷ cs)) (m, get_or cs k d)) (let e : k + (n + 1) ≡ suc k + n = omega arith in e)
    (Contains-cons (n, c) (k + (n + 1), get_or cs k d) (numbered (n + 1) cs) (numbered_contains (n + 1) cs k d (omega arith)))

All-split : {X : Type 0} (P : X → Type 0) (xs ys : List X) → All P (xs ++ ys) → All P xs × All P ys
All-split P [] ys all = (All-nil P, all)
All-split P (x ∷ xs) ys all =
    let rest = All-split P xs ys (All-tail P x (xs ++ ys) all) in
    (All-cons P x xs (All-head P x (xs ++ ys) all) rest.0, rest.1)

module _ (p : ProblemValue) (s : StateValue) (c : ConstraintValue) (proofs : List (Goal × GoalProof)) where
  -- a proof without a fault shows the goal where the line's constraint is broken
  proof_closes : (name : Goal) (g : ConstraintValue) (proof : GoalProof) → IsProofFault s c name g proof None → Broken p s c (λ x. Holds x g)
  proof_closes name g (ByRup hints) is = conflict_closes p s c g (λ x sat negated denied. replayed_refutes s (negation g) (Some (negation c)) hints (GoalOpen name) is x (record { lines = sat.live; negated = negated; denied = denied }))
  proof_closes name g (ByPol tokens) is = conflict_closes p s c g (λ x sat negated denied.
      contradiction_refutes (given_in s (Some (negation g)) (Some (negation c))) tokens (GoalOpen name) is.0 is.1 is.2 x (record { lines = sat.live; negated = negated; denied = denied }))

  open_goal_closes : (name : Goal) (g : ConstraintValue) (proof : Option GoalProof) →
      MatchOption proof (None ≡ Some (GoalMissing name)) (λ q. FirstOf (size_fault (size (negation g))) (IsProofFault s c name g q) None) → Broken p s c (λ x. Holds x g)
  open_goal_closes name g None is = cc
  open_goal_closes name g (Some proof) is = proof_closes name g proof (first_of_none (size_fault (size (negation g))) (IsProofFault s c name g proof) is).1

  -- a constraint that is the requirement holds where the line's constraint is broken
  abbrev pub IsMet : Requirement → Type 0
  IsMet q = (g : ConstraintValue) × IsGoalOf g q × Broken p s c (λ x. Holds x g)

  abbrev JudgedGoal : Requirement → Option Why → Type 0
  JudgedGoal q f = (g : ConstraintValue) × IsGoalOf g q × (((g.degree ≡ 0) × (f ≡ None)) ⊎ ((0 < g.degree) × IsOpenGoalFault s c proofs q.goal g f))

  requirement_met : (q : Requirement) → IsGoalFault s c proofs q None → IsMet q
  requirement_met q is =
      let judged = (first_of_none (size_fault (2 * q.size)) (JudgedGoal q) is).1 in (
        judged.0,
        judged.1,
        ⊎_elim
            (λ (closed : (judged.0.degree ≡ 0) × (◌≡◌ {A = Option Why} None None)). λ x sat breaks. let zero' = closed.0 in omega arith)
            (λ (proved : (0 < judged.0.degree) × IsOpenGoalFault s c proofs q.goal judged.0 None). open_goal_closes q.goal judged.0 (proof_of q.goal proofs) proved.1)
            judged.2,
      )

  pub requirements_met : (qs : List Requirement) → IsFirstGoalFault s c proofs qs None → All IsMet qs
  requirements_met [] is = All-nil IsMet
  requirements_met (q ∷ qs) is =
      let both = first_of_none is.0 (IsFirstGoalFault s c proofs qs) is.2 in
      All-cons IsMet q qs (requirement_met q (subst (λ (f : Option Why). IsGoalFault s c proofs q f) both.0 is.1)) (requirements_met qs both.1)

  -- ---- what each requirement means

  module _ (w : Images) where
    stays_if_met : (name : Goal) (d : ConstraintValue) → AreWithin s.vars d.terms → IsMet (holds_after w name d) → StaysTrue p s c w d
    stays_if_met name d within met = goal_stays p s c w met.0 d within met.1.1 met.2

    low_if_met : (i : ℕ) (r : CostRowValue) → IsMet (not_risen w i r) → StaysLow p s c w r
    low_if_met i r met x sat breaks = (cost_goal_is met.0 w r met.1.1 x).0 (met.2 x sat breaks)

    falls_if_met : IsMet (has_fallen w p) → Broken p s c (λ x. sum_by (λ r. value_under w x r.terms) p.costs < weight p x)
    falls_if_met met x sat breaks = (strict_goal_is met.0 w p met.1.1 x).0 (met.2 x sat breaks)

    all_low : (i : ℕ) (rs : List CostRowValue) → All IsMet (none_risen w i rs) → All (StaysLow p s c w) rs
    all_low i [] met = All-nil (StaysLow p s c w)
    all_low i (r ∷ rs) met = All-cons (StaysLow p s c w) r rs (low_if_met i r (All-head IsMet (not_risen w i r) (none_risen w (i + 1) rs) met)) (all_low (i + 1) rs (All-tail IsMet (not_risen w i r) (none_risen w (i + 1) rs) met))

    untouched : (d : ConstraintValue) → touches w d ≡ false → AreUntouched w d.terms
    untouched d none k t short i e less same =
        let own : has_image w (get_or d.terms k t).0.var ≡ true = list_any_at (λ j. j.0 == (get_or d.terms k t).0.var) w i e less (eq-eqb (get_or w i e).0 (get_or d.terms k t).0.var same) in
        let literal : get_or (literals d.terms) k t.0 ≡ (get_or d.terms k t).0 = get_or-map (λ u. u.0) d.terms k t t.0 short in
        let inside : k < length (literals d.terms) = omega (arith, length-map d.terms (λ u. u.0)) in
        let some : touches w d ≡ true = list_any_at (λ l. has_image w l.var) (literals d.terms) k t.0 inside (ap (λ (l : Literal). has_image w l.var) literal ∙ own) in
        cc

    -- a constraint that holds, and whose requirement is met where it is touched, stays true
    stays : (name : Goal) (d : ConstraintValue) → AreWithin s.vars d.terms → ((x : List Bool) → Satisfies p s x → Holds x d) → (touches w d ≡ true → IsMet (holds_after w name d)) → StaysTrue p s c w d
    stays name d within holds met = ⊎_elim
        (λ (yes : touches w d ≡ true). stays_if_met name d within (met yes))
        (λ (no' : touches w d ≡ false). untouched_stays p s c w d within (untouched d no') holds)
        (cases_Bool (touches w d))

    touched_met : (lines : List (ℕ × ConstraintValue)) → All IsMet (touched_hold w lines) → (e : ℕ × ConstraintValue) → Contains lines e → touches w e.1 ≡ true → IsMet (holds_after w (Row e.0) e.1)
    touched_met lines met e there touched = All-contains IsMet (touched_hold w lines) (holds_after w (Row e.0) e.1) met
        (Contains-map (λ f. holds_after w (Row f.0) f.1) (filter (λ f. touches w f.1) lines) e (Contains-filter (λ f. touches w f.1) lines e there touched))

    pub redundance_is : IsWithin p s → RowsLive p s → AreWithin s.vars c.terms → All IsMet (redundance p s w c) → IsRedundant p s c w
    redundance_is within rows own met =
        let split = All-split IsMet (touched_hold w (entries s.live)) (holds_after w Itself c ∷ none_risen w 1 p.costs) met in
        let live : (id : ℕ) (d : ConstraintValue) → get s.live id ≡ Some d → StaysTrue p s c w d
        = λ id d is. stays (Row id) d (within.live id d is) (λ x sat. sat.live id d is) (touched_met (entries s.live) split.0 (id, d) (found_is_entry (entries s.live) id d (sym (get-entries s.live id) ∙ is))) in
        record {
          rows = rows_stay p s c w rows live;
          live = live;
          itself = stays_if_met Itself c own (All-head IsMet (holds_after w Itself c) (none_risen w 1 p.costs) split.1);
          costs = all_low 1 p.costs (All-tail IsMet (holds_after w Itself c) (none_risen w 1 p.costs) split.1);
        }

    pub dominance_is : IsWithin p s → All IsMet (dominance p w) → IsDominated p s c w
    dominance_is within met =
        let split = All-split IsMet (touched_hold w (numbered 1 p.rows)) (none_risen w 1 p.costs ++ (has_fallen w p ∷ [])) met in
        let costs = All-split IsMet (none_risen w 1 p.costs) (has_fallen w p ∷ []) split.1 in
        record {
          rows = λ k d short. stays (Row (k + 1)) (get_or p.rows k d) (λ i t less. let own = within.rows k d short i t less in let vars = within.vars in (own.0, omega arith)) (λ x sat. sat.rows k d short)
              (touched_met (numbered 1 p.rows) split.0 (k + 1, get_or p.rows k d) (numbered_contains 1 p.rows k d short));
          costs = all_low 1 p.costs costs.0;
          sum = falls_if_met (All-head IsMet (has_fallen w p) [] costs.1);
        }
