-- What is known of a step holds in every trail with the same steps before it, and over every store that keeps the lines.
use Rattle.std.proofs.Common.{◌≡◌, ℕ, ◌<◌, ◌≤◌, List, ◌++◌, length, Some, ap, sym, ◌∙◌, subst, inl, inr}
use Rattle.std.specs.Prelude.{slice_get}
use Rattle.std.specs.FinMap.{get}
use Rattle.std.proofs.lemmas.List.{take-take, take-append-le}
use Rattle.pb_lin.specs.Constraint.{ConstraintValue}
use Rattle.pb_lin.specs.LineMap.{LineMap}
use Rattle.clause_prop.specs.Steps.{TrailValue, partial, cut}
use Rattle.clause_prop.specs.Propagating.{Forces, IsClosedFor}
use Rattle.clause_prop.specs.declared.step.Step.{Step}
use Rattle.cdcl_trail.specs.SearchTrail.{IsStepAt, IsDecision, IsForcedAt, IsLevelBefore}
use Rattle.cdcl_trail.proofs.Places.{slice_get-take}

-- a step before p of the one trail stands there in the other
pub step_moved : (t u : TrailValue) (p q : ℕ) (s : Step) → cut t p ≡ cut u p → q < p → IsStepAt t q s → IsStepAt u q s
step_moved t u p q s same before at =
    sym (slice_get-take u.steps p q before) ∙ ap (λ (v : TrailValue). slice_get v.steps q) (sym same) ∙ slice_get-take t.steps p q before ∙ at

pub level_moved : (t u : TrailValue) (p level : ℕ) → cut t p ≡ cut u p → IsLevelBefore t p level → IsLevelBefore u p level
level_moved t u p level same (inl zero_level) = inl zero_level
level_moved t u p level same (inr b) = inr (b.0, b.1, b.2, step_moved t u p b.0 b.1 same b.2 b.3, b.4)

pub forced_moved : (old new : LineMap) (t u : TrailValue) (p : ℕ) (s : Step) → cut t p ≡ cut u p → ((c : ConstraintValue) → get old s.reason ≡ Some c → get new s.reason ≡ Some c) → IsForcedAt old t p s → IsForcedAt new u p s
forced_moved old new t u p s same kept is = record {
  line = is.line;
  there = kept is.line is.there;
  forces = subst (λ (v : TrailValue). Forces (partial v) is.line s.lit) same is.forces;
  level = level_moved t u p s.level same is.level;
}

pub decision_moved : (old new : LineMap) (t u : TrailValue) (p : ℕ) (s : Step) → cut t p ≡ cut u p → (IsClosedFor old (cut t p) → IsClosedFor new (cut t p)) → IsDecision old t p s → IsDecision new u p s
decision_moved old new t u p s same kept is = record {
  closed = subst (IsClosedFor new) same (kept is.closed);
  positive = is.positive;
  above = λ q r before at. is.above q r before (step_moved u t p q r (sym same) before at);
}

-- ---- the trails that have the same steps before a place

pub cut_of_cut : (t : TrailValue) (keep p : ℕ) → p ≤ keep → cut t p ≡ cut (cut t keep) p
cut_of_cut t keep p before = ap (λ (ss : List Step). record { vars = t.vars; steps = ss }) (sym (take-take p keep t.steps before))

pub cut_of_longer : (t : TrailValue) (more : List Step) (p : ℕ) → p ≤ length t.steps → cut t p ≡ cut (record { vars = t.vars; steps = t.steps ++ more }) p
cut_of_longer t more p within = ap (λ (ss : List Step). record { vars = t.vars; steps = ss }) (sym (take-append-le p t.steps more within))
