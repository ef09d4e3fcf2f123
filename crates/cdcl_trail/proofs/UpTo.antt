-- How the steps up to a level are counted, from the last step back.
use Rattle.std.proofs.Common.{◌≡◌, ℕ, ◌-◌, ◌<◌, ◌≤◌, List, length, Some, AllPairs, arith, ap, sym, ◌∙◌, subst, ⊎_elim}
use Rattle.std.specs.Prelude.{slice_get}
use Rattle.std.proofs.lemmas.Bool.{cases_eq}
use Rattle.std.proofs.lemmas.Option.{same_Some, slice_get_within}
use Rattle.clause_prop.specs.Steps.{TrailValue}
use Rattle.clause_prop.specs.declared.step.Step.{Step}
use Rattle.cdcl_trail.specs.SearchTrail.{IsStepAt, IsUpTo}
use Rattle.cdcl_trail.proofs.Places.{pair_places}

-- the steps from `keep` on are above the level
pub record IsAbove (t : TrailValue) (level keep : ℕ) : Type 0 where
  pub within : keep ≤ length t.steps
  pub high : (p : ℕ) (s : Step) → keep ≤ p → IsStepAt t p s → level < s.level

pub above_none : (t : TrailValue) (level keep : ℕ) → keep ≡ length t.steps → IsAbove t level keep
above_none t level keep is = record {
  within = omega (arith, is);
  high = λ p s past at. absurd (let within = slice_get_within t.steps p s at in omega (arith, within, past, is));
}

-- two reads of one place
same_step : (steps : List Step) (p q : ℕ) (r s : Step) → p ≡ q → slice_get steps p ≡ Some r → slice_get steps q ≡ Some s → r ≡ s
same_step steps p q r s same at_r at_s = same_Some r s (sym at_r ∙ ap (slice_get steps) same ∙ at_s)

pub above_step : (t : TrailValue) (level keep : ℕ) (s : Step) → IsAbove t level keep → 0 < keep → IsStepAt t (keep - 1) s → level < s.level → IsAbove t level (keep - 1)
above_step t level keep s above some at high = record {
  within = (let within = above.within in omega (arith, within));
  high = λ p r past at_r. ⊎_elim
      (λ (e : p ≡ keep - 1). subst (λ (x : Step). level < x.level) (same_step t.steps (keep - 1) p s r (sym e) at at_r) high)
      (λ other. above.high p r (omega (arith, past, other)) at_r)
      (cases_eq p (keep - 1));
}

pub up_to_step : (t : TrailValue) (level keep : ℕ) (s : Step) → AllPairs (λ r s. r.level ≤ s.level) t.steps → IsAbove t level keep → 0 < keep → IsStepAt t (keep - 1) s → s.level ≤ level → IsUpTo t level keep
up_to_step t level keep s rising above some at low = record {
  low = λ p r before at_r. ⊎_elim
      (λ (e : p ≡ keep - 1). subst (λ (x : Step). x.level ≤ level) (same_step t.steps (keep - 1) p s r (sym e) at at_r) low)
      (λ other. let up = pair_places (λ (a b : Step). a.level ≤ b.level) t.steps p (keep - 1) r s rising (omega (arith, before, other)) at_r at in omega (arith, up, low))
      (cases_eq p (keep - 1));
  high = above.high;
}

pub up_to_none : (t : TrailValue) (level keep : ℕ) → IsAbove t level keep → keep ≤ 0 → IsUpTo t level keep
up_to_none t level keep above none = record {
  low = λ p r before at. absurd (omega (arith, before, none));
  high = above.high;
}
