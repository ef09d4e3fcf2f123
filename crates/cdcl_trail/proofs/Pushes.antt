-- Trails of a search that get one more step.
use Rattle.std.proofs.Common.{◌≡◌, ◌≢◌, ◌⊎◌, ℕ, suc, ◌+◌, ◌<◌, ◌≤◌, Some, None, List, [], ◌∷◌, ◌++◌, length, AllPairs, refl, arith, ap, sym, ◌∙◌, subst, inl, inr, ⊎_elim}
use Rattle.std.specs.List.{fold}
use Rattle.std.specs.Prelude.{slice_get}
use Rattle.std.proofs.lemmas.Bool.{cases_eq}
use Rattle.std.proofs.lemmas.List.{take_all}
use Rattle.std.proofs.lemmas.List.Elements.{All-push}
use Rattle.std.proofs.lemmas.List.Quantifiers.{all_pairs_push}
use Rattle.std.proofs.lemmas.Option.{same_Some, slice_get_within}
use Rattle.scut_base.specs.Literal.{Literal}
use Rattle.scut_base.specs.Assignment.{partial_truth}
use Rattle.pb_lin.specs.LineMap.{LineMap}
use Rattle.clause_prop.specs.Steps.{TrailValue, AreSteps, partial, cut, with_step, last_level}
use Rattle.clause_prop.specs.Propagating.{IsClosedFor}
use Rattle.clause_prop.specs.declared.step.Step.{Step}
use Rattle.cdcl_trail.specs.SearchTrail.{IsStepAt, IsSearchTrail, IsDecision, IsForcedAt, IsLevelBefore, decision}
use Rattle.cdcl_trail.proofs.Places.{at_push, all_places, pair_places}
use Rattle.cdcl_trail.proofs.Moves.{forced_moved, decision_moved, cut_of_longer}
use Rattle.cdcl_trail.proofs.Truths.{open_apart}

-- a first part that is the whole
pub cut_whole : (t : TrailValue) → cut t (length t.steps) ≡ t
cut_whole t = ap (λ (ss : List Step). record { vars = t.vars; steps = ss }) (take_all (length t.steps) t.steps (omega arith))

-- ---- the level of the last step

last_from : (level : ℕ) (steps : List Step)
    → ((length steps ≡ 0) × (fold (λ level s. s.level) level steps ≡ level)) ⊎ ((k : ℕ) × (s : Step) × (k + 1 ≡ length steps) × (slice_get steps k ≡ Some s) × (s.level ≡ fold (λ level s. s.level) level steps))
last_from level [] = inl (refl, refl)
last_from level (s ∷ steps) = elim (last_from s.level steps) [
  | inl none ↦ inr (0, s, omega (arith, none.0), refl, sym none.1)
  | inr found ↦ inr (suc found.0, found.1, omega (arith, found.2), found.3, found.4)
]

-- there is no step, or a last one
pub last_cases : (steps : List Step) → ((length steps ≡ 0) × (last_level steps ≡ 0)) ⊎ ((k : ℕ) × (s : Step) × (k + 1 ≡ length steps) × (slice_get steps k ≡ Some s) × (s.level ≡ last_level steps))
last_cases steps = last_from 0 steps

pub last_before : (t : TrailValue) → IsLevelBefore t (length t.steps) (last_level t.steps)
last_before t = elim (last_cases t.steps) [
  | inl none ↦ inl none.1
  | inr found ↦ inr (found.0, found.1, omega (arith, found.2), found.3, found.4)
]

-- where levels rise no step is above the last
pub last_top : (steps : List Step) → AllPairs (λ r s. r.level ≤ s.level) steps → (p : ℕ) (s : Step) → slice_get steps p ≡ Some s → s.level ≤ last_level steps
last_top steps rising p s at = ⊎_elim
    (λ (none : (length steps ≡ 0) × (last_level steps ≡ 0)). absurd (let within = slice_get_within steps p s at in omega (arith, within, none.0)))
    (λ (found : (k : ℕ) × (r : Step) × (k + 1 ≡ length steps) × (slice_get steps k ≡ Some r) × (r.level ≡ last_level steps)). ⊎_elim
    (λ (e : p ≡ found.0). let same : s ≡ found.1 = same_Some s found.1 (sym at ∙ ap (slice_get steps) e ∙ found.3) in omega (arith, ap (λ (x : Step). x.level) same, found.4))
    (λ (other : p ≢ found.0).
    let within = slice_get_within steps p s at in
    let up = pair_places (λ (a b : Step). a.level ≤ b.level) steps p found.0 s found.1 rising (omega (arith, within, found.2, other)) at found.3 in
    omega (arith, up, found.4))
    (cases_eq p found.0))
    (last_cases steps)

pub last_low : (store : LineMap) (t : TrailValue) → IsSearchTrail store t → last_level t.steps ≤ length t.steps
last_low store t search = elim (last_cases t.steps) [
  | inl none ↦ omega (arith, none.1)
  | inr found ↦ (let low = search.low found.0 found.1 found.3 in omega (arith, low, found.2, found.4))
]

-- ---- a step more

steps_pushed : (n : ℕ) (steps : List Step) (s : Step) → AreSteps n steps → 0 < s.lit.var → s.lit.var ≤ n → ((p : ℕ) (r : Step) → slice_get steps p ≡ Some r → r.lit.var ≢ s.lit.var) → AreSteps n (steps ++ s ∷ [])
steps_pushed n steps s are from_one within apart = record {
  within = All-push (λ (r : Step). (0 < r.lit.var) × (r.lit.var ≤ n)) steps s are.within (from_one, within);
  apart = all_pairs_push (λ (r x : Step). r.lit.var ≢ x.lit.var) steps s are.apart (all_places (λ (r : Step). r.lit.var ≢ s.lit.var) steps apart);
}

pub pushed : (store : LineMap) (t : TrailValue) (s : Step) → IsSearchTrail store t → 0 < s.lit.var → s.lit.var ≤ t.vars → partial_truth (partial t) s.lit ≡ None
    → (s.reason ≡ 0 → IsDecision store t (length t.steps) s) → (s.reason ≢ 0 → IsForcedAt store t (length t.steps) s)
    → ((p : ℕ) (r : Step) → IsStepAt t p r → r.level ≤ s.level) → s.level ≤ length t.steps + 1 → IsSearchTrail store (with_step t s)
pushed store t s search from_one within none decides forces above low = record {
  steps = steps_pushed t.vars t.steps s search.steps from_one within (λ p r at. open_apart t.vars t.steps s.lit p r search.steps none at);
  decided = λ p r at zero_reason. elim (at_push t.steps s p r at) [
    | inl old ↦ decision_moved store store t (with_step t s) p r (same_front p (omega (arith, old.0))) (λ closed. closed) (search.decided p r old.1 zero_reason)
    | inr new ↦ at_end (IsDecision store) p r new.0 new.1 (λ u e. decision_moved store store t u (length t.steps) s e (λ closed. closed) (decides (ap (λ (x : Step). x.reason) new.1 ∙ zero_reason)))
  ];
  forced = λ p r at some_reason. elim (at_push t.steps s p r at) [
    | inl old ↦ forced_moved store store t (with_step t s) p r (same_front p (omega (arith, old.0))) (λ c there. there) (search.forced p r old.1 some_reason)
    | inr new ↦ at_end (IsForcedAt store) p r new.0 new.1 (λ u e. forced_moved store store t u (length t.steps) s e (λ c there. there) (forces (λ zero_reason. some_reason (sym (ap (λ (x : Step). x.reason) new.1) ∙ zero_reason))))
  ];
  rising = all_pairs_push (λ (r x : Step). r.level ≤ x.level) t.steps s search.rising (all_places (λ (r : Step). r.level ≤ s.level) t.steps above);
  low = λ p r at. elim (at_push t.steps s p r at) [
    | inl old ↦ search.low p r old.1
    | inr new ↦ omega (arith, low, new.0, ap (λ (x : Step). x.level) new.1)
  ];
}
  where
    same_front : (p : ℕ) → p ≤ length t.steps → cut t p ≡ cut (with_step t s) p
    same_front p inside = cut_of_longer t (s ∷ []) p inside

    at_end : (P : TrailValue → ℕ → Step → Type 0) (p : ℕ) (r : Step) → p ≡ length t.steps → s ≡ r → ((u : TrailValue) → cut t (length t.steps) ≡ cut u (length t.steps) → P u (length t.steps) s) → P (with_step t s) p r
    at_end P p r place same holds =
        subst (λ (q : ℕ). P (with_step t s) q r) (sym place) (subst (λ (x : Step). P (with_step t s) (length t.steps) x) same (holds (with_step t s) (same_front (length t.steps) (omega arith))))

pub decision_law : (store : LineMap) (t : TrailValue) (l : Literal) → IsSearchTrail store t → IsClosedFor store t → 0 < l.var → l.var ≤ t.vars → partial_truth (partial t) l ≡ None → IsSearchTrail store (with_step t (decision t l))
decision_law store t l search closed from_one within none = pushed store t (decision t l) search from_one within none
    (λ zero_reason. record {
      closed = subst (IsClosedFor store) (sym (cut_whole t)) closed;
      positive = omega arith;
      above = λ q r before at. (let top = last_top t.steps search.rising q r at in omega (arith, top));
    })
    (λ some_reason. absurd (some_reason refl))
    (λ p r at. let top = last_top t.steps search.rising p r at in omega (arith, top))
    (let low = last_low store t search in omega (arith, low))
