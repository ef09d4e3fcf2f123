-- The requirements of a substitution under new ids: fewer, each with its old proof.
use Rattle.std.specs.Prelude.{◌≡◌, ℕ, ◌+◌, ◌<◌, ◌≤◌, Bool, true, false, cond, nat_le, Option, Some, None, unwrap_or, List, [], ◌∷◌, ◌++◌, map, length, All, Contains, refl}
use Rattle.std.proofs.Common.{sym, ◌∙◌, ap, subst, arith}
use Rattle.std.specs.List.{filter}
use Rattle.std.specs.Ordering.{nat_cmp, eq_by_cmp}
use Rattle.std.specs.Cmp.{unsigned_tied}
use Rattle.std.specs.FinMap.{get, entries, get-entries, find}
use Rattle.std.proofs.lemmas.Bool.{cond-true, eqb-true, le-leb}
use Rattle.std.proofs.lemmas.List.Elements.{All-nil, All-cons, All-head, All-tail, All-contains, All-map, Contains-get_or, All-append}
use Rattle.scut_base.proofs.Lists.{Contains-head, Contains-cons, Contains-map, Contains-filter, Contains-from_filter}
use Rattle.pb_lin.specs.Constraint.{ConstraintValue}
use Rattle.pb_lin.specs.LineMap.{LineMap}
use Rattle.pb_lin.specs.CostRow.{CostRowValue}
use Rattle.pb_lin.specs.Problem.{ProblemValue}
use Rattle.pb_lin.specs.Substitution.{Images, touches}
use Rattle.proof_laws.specs.State.{StateValue, numbered}
use Rattle.proof_laws.specs.Substituted.{Requirement, holds_after, not_risen, none_risen, has_fallen, touched_hold, redundance, dominance}
use Rattle.proof_laws.specs.Refusal.{FirstOf, IsGoalFault, IsFirstGoalFault}
use Rattle.proof_laws.specs.declared.goal.Goal.{Goal}
use Rattle.proof_laws.specs.declared.goal.Goal.TheVariants.{Row, Itself}
use Rattle.proof_laws.specs.declared.goal.GoalProof.{GoalProof}
use Rattle.proof_laws.specs.declared.why.Why.{Why}
use Rattle.command_trim.specs.Trimmed.{Renaming, new_id, id_or_same, is_kept_goal, new_goal, new_proofs, proof_ids}
use Rattle.command_trim.specs.Simulation.{IsRenaming, Carries, AreCarried}
use Rattle.command_trim.proofs.Entered.{entry_live}
use Rattle.command_trim.proofs.Goals.{kept_id, goal_simulated}

-- ---- no requirement has a fault

module _ (s : StateValue) (c : ConstraintValue) (proofs : List (Goal × GoalProof)) where
  abbrev IsMet : Requirement → Type 0
  IsMet q = IsGoalFault s c proofs q None

  pub all_met : (qs : List Requirement) → IsFirstGoalFault s c proofs qs None → All IsMet qs
  all_met [] is = All-nil IsMet
  all_met (q ∷ qs) is = by_first is.0 is.1 is.2 (all_met qs)
    where
      by_first : (first : Option Why) → IsGoalFault s c proofs q first → FirstOf first (IsFirstGoalFault s c proofs qs) None → (IsFirstGoalFault s c proofs qs None → All IsMet qs) → All IsMet (q ∷ qs)
      by_first None fault rest more = All-cons IsMet q qs fault (more rest)
      by_first (Some why) fault rest more = cc

  pub none_faulty : (qs : List Requirement) → All IsMet qs → IsFirstGoalFault s c proofs qs None
  none_faulty [] all = refl
  none_faulty (q ∷ qs) all = (None, All-head IsMet q qs all, none_faulty qs (All-tail IsMet q qs all))

-- ---- the lists

found_entry : (es : List (ℕ × ConstraintValue)) (id : ℕ) (d : ConstraintValue) → find nat_cmp id es ≡ Some d → Contains es (id, d)
found_entry [] id d is = cc
found_entry (e ∷ es) id d is = by_test (eq_by_cmp nat_cmp id e.0) refl is (found_entry es id d)
  where
    by_test : (b : Bool) → eq_by_cmp nat_cmp id e.0 ≡ b → cond b (Some e.1) (find nat_cmp id es) ≡ Some d → (find nat_cmp id es ≡ Some d → Contains es (id, d)) → Contains (e ∷ es) (id, d)
    by_test true test here rest =
        let key : id ≡ e.0 = eqb-true id e.0 (sym (unsigned_tied id e.0) ∙ test) in
        let same : e.1 ≡ d = cc in
        let pair : e ≡ (id, d) = ap (λ (i : ℕ). (i, e.1)) (sym key) ∙ ap (λ (x : ConstraintValue). (id, x)) same in
        subst (λ (x : ℕ × ConstraintValue). Contains (e ∷ es) x) pair (Contains-head e es)
    by_test false test later rest = Contains-cons e (id, d) es (rest later)

-- what is live is an entry, and the other way round
pub live_entry : (lines : LineMap) (id : ℕ) (d : ConstraintValue) → get lines id ≡ Some d → Contains (entries lines) (id, d)
live_entry lines id d is = found_entry (entries lines) id d (sym (get-entries lines id) ∙ is)

prefix : {X : Type 0} (P : X → Type 0) (xs ys : List X) → All P (xs ++ ys) → All P xs
prefix P [] ys all = All-nil P
prefix P (x ∷ xs) ys all = All-cons P x xs (All-head P x (xs ++ ys) all) (prefix P xs ys (All-tail P x (xs ++ ys) all))

suffix : {X : Type 0} (P : X → Type 0) (xs ys : List X) → All P (xs ++ ys) → All P ys
suffix P [] ys all = all
suffix P (x ∷ xs) ys all = suffix P xs ys (All-tail P x (xs ++ ys) all)

-- a requirement that has no id keeps its name
pub record IsNamed (r : Renaming) (q : Requirement) : Type 0 where
  pub kept : is_kept_goal r q.goal ≡ true
  pub same : new_goal r q.goal ≡ q.goal

none_risen_named : (r : Renaming) (w : Images) (i : ℕ) (rs : List CostRowValue) → All (IsNamed r) (none_risen w i rs)
none_risen_named r w i [] = All-nil (IsNamed r)
none_risen_named r w i (c ∷ cs) = All-cons (IsNamed r) (not_risen w i c) (none_risen w (i + 1) cs) (record { kept = refl; same = refl }) (none_risen_named r w (i + 1) cs)

rows_named : (r : Renaming) (w : Images) (i : ℕ) (rows : List ConstraintValue) → 0 < i → i + length rows ≤ r.rows + 1 → All (IsNamed r) (touched_hold w (numbered i rows))
rows_named r w i [] positive most = All-nil (IsNamed r)
rows_named r w i (c ∷ cs) positive most =
    let low : i ≤ r.rows = omega arith in
    let row : new_id r i ≡ Some i = cond-true (nat_le i r.rows) (Some i) _ (le-leb i r.rows low) in
    let own : IsNamed r (holds_after w (Row i) c) = record { kept = kept_id r i i positive row; same = ap (λ (o : Option ℕ). Row (unwrap_or o i)) row } in
    by_test own (touches w c) (rows_named r w (i + 1) cs (omega arith) (omega arith))
  where
    by_test : IsNamed r (holds_after w (Row i) c) → (b : Bool) → All (IsNamed r) (touched_hold w (numbered (i + 1) cs)) → All (IsNamed r) (map (λ (e : ℕ × ConstraintValue). holds_after w (Row e.0) e.1) (cond b ((i, c) ∷ filter (λ (e : ℕ × ConstraintValue). touches w e.1) (numbered (i + 1) cs)) (filter (λ (e : ℕ × ConstraintValue). touches w e.1) (numbered (i + 1) cs))))
    by_test own true rest = All-cons (IsNamed r) (holds_after w (Row i) c) (touched_hold w (numbered (i + 1) cs)) own rest
    by_test own false rest = rest

module _ (r : Renaming) (n k : ℕ) (is : IsRenaming r n k) (s t : StateValue) (vars : t.vars ≡ s.vars) (positive : (id : ℕ) (c : ConstraintValue) → get s.live id ≡ Some c → 0 < id)
    (c : ConstraintValue) (proofs : List (Goal × GoalProof)) (carried : All (λ x. AreCarried r s t (proof_ids x.1)) proofs) where
  abbrev Old : Requirement → Type 0
  Old q = IsGoalFault s c proofs q None

  abbrev New : Requirement → Type 0
  New q = IsGoalFault t c (new_proofs r proofs) q None

  -- one that keeps its name
  named_met : (q : Requirement) → IsNamed r q → Old q → New q
  named_met q named met = subst (λ (g : Goal). New (record { goal = g; size = q.size; excess = q.excess })) named.same (goal_simulated r n k is s t vars positive c proofs q carried named.kept met)

  all_named_met : (qs : List Requirement) → All (IsNamed r) qs → All Old qs → All New qs
  all_named_met [] named met = All-nil New
  all_named_met (q ∷ qs) named met = All-cons New q qs (named_met q (All-head (IsNamed r) q qs named) (All-head Old q qs met)) (all_named_met qs (All-tail (IsNamed r) q qs named) (All-tail Old q qs met))

  module _ (live : Carries r s.live t.live) (w : Images) where
    old_entry : (e : ℕ × ConstraintValue) → get t.live e.0 ≡ Some e.1 → touches w e.1 ≡ true → All Old (touched_hold w (entries s.live)) → New (holds_after w (Row e.0) e.1)
    old_entry e there touched met =
        let source = live.known e.0 e.1 there in
        let id : ℕ = source.0 in
        let was : get s.live id ≡ Some e.1 = sym (live.kept id e.0 source.1) ∙ there in
        let among : Contains (touched_hold w (entries s.live)) (holds_after w (Row id) e.1) =
        Contains-map (λ (x : ℕ × ConstraintValue). holds_after w (Row x.0) x.1) (filter (λ (x : ℕ × ConstraintValue). touches w x.1) (entries s.live)) (id, e.1)
        (Contains-filter (λ (x : ℕ × ConstraintValue). touches w x.1) (entries s.live) (id, e.1) (live_entry s.live id e.1 was) touched) in
        let own : Old (holds_after w (Row id) e.1) = All-contains Old (touched_hold w (entries s.live)) (holds_after w (Row id) e.1) met among in
        let new : New (holds_after w (Row (id_or_same r id)) e.1) = goal_simulated r n k is s t vars positive c proofs (holds_after w (Row id) e.1) carried (kept_id r id e.0 (positive id e.1 was) source.1) own in
        subst (λ (o : Option ℕ). New (holds_after w (Row (unwrap_or o id)) e.1)) source.1 new

    touched_met : All Old (touched_hold w (entries s.live)) → All New (touched_hold w (entries t.live))
    touched_met met =
        All-map New (λ e. holds_after w (Row e.0) e.1) (filter (λ e. touches w e.1) (entries t.live)) (λ i d short.
        (let among = Contains-get_or (filter (λ (e : ℕ × ConstraintValue). touches w e.1) (entries t.live)) i d short in
        let parts = Contains-from_filter (λ (e : ℕ × ConstraintValue). touches w e.1) (entries t.live) _ among in
        old_entry _ (entry_live t.live _ parts.0) parts.1 met))

    pub redundance_met : (p : ProblemValue) → IsFirstGoalFault s c proofs (redundance p s w c) None → IsFirstGoalFault t c (new_proofs r proofs) (redundance p t w c) None
    redundance_met p fault =
        let met = all_met s c proofs (redundance p s w c) fault in
        let rest : List Requirement = holds_after w Itself c ∷ none_risen w 1 p.costs in
        none_faulty t c (new_proofs r proofs) (redundance p t w c)
        (All-append New (touched_hold w (entries t.live)) rest (touched_met (prefix Old (touched_hold w (entries s.live)) rest met))
        (all_named_met rest (All-cons (IsNamed r) (holds_after w Itself c) (none_risen w 1 p.costs) (record { kept = refl; same = refl }) (none_risen_named r w 1 p.costs))
        (suffix Old (touched_hold w (entries s.live)) rest met)))

  pub dominance_met : (p : ProblemValue) (w : Images) → length p.rows ≡ r.rows → IsFirstGoalFault s c proofs (dominance p w) None → IsFirstGoalFault t c (new_proofs r proofs) (dominance p w) None
  dominance_met p w rows fault =
      none_faulty t c (new_proofs r proofs) (dominance p w)
      (all_named_met (dominance p w)
      (All-append (IsNamed r) (touched_hold w (numbered 1 p.rows)) (none_risen w 1 p.costs ++ (has_fallen w p ∷ [])) (rows_named r w 1 p.rows (omega arith) (omega arith))
      (All-append (IsNamed r) (none_risen w 1 p.costs) (has_fallen w p ∷ []) (none_risen_named r w 1 p.costs) (All-cons (IsNamed r) (has_fallen w p) [] (record { kept = refl; same = refl }) (All-nil (IsNamed r)))))
      (all_met s c proofs (dominance p w) fault))
