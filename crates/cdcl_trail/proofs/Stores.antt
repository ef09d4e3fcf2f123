-- Trails of a search that are cut, and whose lines are added and dropped.
use Rattle.std.proofs.Common.{◌≡◌, ◌≢◌, ℕ, ◌<◌, ◌≤◌, Some, None, [], All, refl, arith, ap, sym, ◌∙◌}
use Rattle.std.specs.FinMap.{get, insert, remove, get-insert, get-remove}
use Rattle.std.specs.Ordering.{nat_cmp, eq_by_cmp}
use Rattle.std.specs.Cmp.{nat_cmp_total, unsigned_tied}
use Rattle.std.proofs.lemmas.Bool.{cond-true, cond-false, eq-eqb, ne_eqb}
use Rattle.std.proofs.lemmas.Option.{none-some}
use Rattle.pb_lin.specs.Constraint.{ConstraintValue}
use Rattle.pb_lin.specs.LineMap.{LineMap}
use Rattle.pb_lin.specs.Propagation.{IsClosedUnder}
use Rattle.pb_lin.proofs.AtPlace.{All_place}
use Rattle.proof_laws.proofs.Live.{live_insert, live_remove}
use Rattle.clause_prop.specs.Steps.{TrailValue, partial, cut}
use Rattle.clause_prop.specs.declared.step.Step.{Step}
use Rattle.cdcl_trail.specs.SearchTrail.{IsStepAt, IsSearchTrail, IsUndecided}
use Rattle.cdcl_trail.proofs.Places.{at_front, pairs_front, all_front}
use Rattle.cdcl_trail.proofs.Moves.{forced_moved, decision_moved, cut_of_cut}

-- ---- lines by their ids

-- a new line changes no other
pub get_other : (lines : LineMap) (id q : ℕ) (c : ConstraintValue) → q ≢ id → get (insert lines id c) q ≡ get lines q
get_other lines id q c other = get-insert nat_cmp_total lines id c q ∙ cond-false (eq_by_cmp nat_cmp q id) (Some c) (get lines q) (unsigned_tied q id ∙ ne_eqb q id other)

pub get_new : (lines : LineMap) (id : ℕ) (c : ConstraintValue) → get (insert lines id c) id ≡ Some c
get_new lines id c = get-insert nat_cmp_total lines id c id ∙ cond-true (eq_by_cmp nat_cmp id id) (Some c) (get lines id) (unsigned_tied id id ∙ eq-eqb id id refl)

-- one that was there stays, where the new one's id was free
pub get_added : (lines : LineMap) (id q : ℕ) (c d : ConstraintValue) → get lines id ≡ None → get lines q ≡ Some d → get (insert lines id c) q ≡ Some d
get_added lines id q c d free there = get_other lines id q c (λ same. none-some d (sym free ∙ ap (get lines) (sym same) ∙ there)) ∙ there

pub get_left : (lines : LineMap) (id q : ℕ) → q ≢ id → get (remove lines id) q ≡ get lines q
get_left lines id q other = get-remove nat_cmp_total lines id q ∙ cond-false (eq_by_cmp nat_cmp q id) None (get lines q) (unsigned_tied q id ∙ ne_eqb q id other)

-- ---- the laws

pub empty_law : (store : LineMap) (n : ℕ) → IsSearchTrail store (record { vars = n; steps = [] })
empty_law store n = record {
  steps = record { within = λ k d short. absurd (omega (arith, short)); apart = λ i j d less short. absurd (omega (arith, short)) };
  decided = λ p s at none. absurd (none-some s at);
  forced = λ p s at some. absurd (none-some s at);
  rising = λ i j d less short. absurd (omega (arith, short));
  low = λ p s at. absurd (none-some s at);
}

pub cut_law : (store : LineMap) (t : TrailValue) (keep : ℕ) → IsSearchTrail store t → IsSearchTrail store (cut t keep)
cut_law store t keep search = record {
  steps = record {
    within = all_front (λ (s : Step). (0 < s.lit.var) × (s.lit.var ≤ t.vars)) t.steps keep search.steps.within;
    apart = pairs_front (λ (r s : Step). r.lit.var ≢ s.lit.var) t.steps keep search.steps.apart;
  };
  decided = λ p s at none. let old = at_front t.steps keep p s at in decision_moved store store t (cut t keep) p s (cut_of_cut t keep p (omega (arith, old.0))) (λ closed. closed) (search.decided p s old.1 none);
  forced = λ p s at some. let old = at_front t.steps keep p s at in forced_moved store store t (cut t keep) p s (cut_of_cut t keep p (omega (arith, old.0))) (λ c there. there) (search.forced p s old.1 some);
  rising = pairs_front (λ (r s : Step). r.level ≤ s.level) t.steps keep search.rising;
  low = λ p s at. search.low p s (at_front t.steps keep p s at).1;
}

-- a line more, which is closed before each decision
pub added_line : (store : LineMap) (t : TrailValue) (id : ℕ) (c : ConstraintValue) → ((p : ℕ) (s : Step) → IsStepAt t p s → s.reason ≡ 0 → IsClosedUnder (partial (cut t p)) c) → get store id ≡ None → IsSearchTrail store t → IsSearchTrail (insert store id c) t
added_line store t id c wide free search = record {
  steps = search.steps;
  decided = λ p s at none. decision_moved store (insert store id c) t t p s refl
      (λ closed. live_insert (IsClosedUnder (partial (cut t p))) store id c (wide p s at none) closed) (search.decided p s at none);
  forced = λ p s at some. forced_moved store (insert store id c) t t p s refl (λ d there. get_added store id s.reason c d free there) (search.forced p s at some);
  rising = search.rising;
  low = search.low;
}

-- no step is a decision
pub never_decided : (t : TrailValue) (p : ℕ) (s : Step) → IsUndecided t → IsStepAt t p s → s.reason ≢ 0
never_decided t p s undecided at = All_place (λ (r : Step). r.reason ≢ 0) t.steps p s undecided at

pub added_line_law : (store : LineMap) (t : TrailValue) (id : ℕ) (c : ConstraintValue) → IsUndecided t → get store id ≡ None → IsSearchTrail store t → IsSearchTrail (insert store id c) t
added_line_law store t id c undecided free search = added_line store t id c (λ p s at none. absurd (never_decided t p s undecided at none)) free search

pub dropped_line_law : (store : LineMap) (t : TrailValue) (id : ℕ) → All (λ s. s.reason ≢ id) t.steps → IsSearchTrail store t → IsSearchTrail (remove store id) t
dropped_line_law store t id unused search = record {
  steps = search.steps;
  decided = λ p s at none. decision_moved store (remove store id) t t p s refl (λ closed q d there. closed q d (live_remove store id q d there)) (search.decided p s at none);
  forced = λ p s at some. forced_moved store (remove store id) t t p s refl
      (λ d there. get_left store id s.reason (All_place (λ (r : Step). r.reason ≢ id) t.steps p s unused at) ∙ there) (search.forced p s at some);
  rising = search.rising;
  low = search.low;
}
