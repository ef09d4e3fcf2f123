-- Conflicts, one constraint after another.
use Rattle.std.specs.Prelude.{◌≡◌, ◌⊎◌, Bool, true, false, Option, List, [], ◌∷◌, pos, ◌<ℤ◌}
use Rattle.std.proofs.Common.{inl, inr, sym, subst}
use Rattle.std.specs.List.{zip}
use Rattle.scut_base.proofs.Lists.{any_none, any_first, any_later, any_cases}
use Rattle.pb_lin.specs.Constraint.{ConstraintValue, slack}
use Rattle.hint_rup.specs.Propagation.{forced, partials, Conflicts}

abbrev IsViolated : List (Option Bool) × ConstraintValue → Type 0
IsViolated x = slack x.0 x.1 <ℤ pos 0

pub conflicts_none : (p : List (Option Bool)) → Conflicts p [] → ⊥
unfolding Conflicts
conflicts_none p found = any_none IsViolated found

pub conflicts_here : (p : List (Option Bool)) (c : ConstraintValue) (cs : List ConstraintValue) → slack p c <ℤ pos 0 → Conflicts p (c ∷ cs)
unfolding Conflicts
conflicts_here p c cs violated = any_first IsViolated (p, c) (zip (partials (forced p c) cs) cs) violated

pub conflicts_later : (p : List (Option Bool)) (c : ConstraintValue) (cs : List ConstraintValue) → Conflicts (forced p c) cs → Conflicts p (c ∷ cs)
unfolding Conflicts
conflicts_later p c cs later = any_later IsViolated (p, c) (zip (partials (forced p c) cs) cs) later

pub conflicts_cases : (p : List (Option Bool)) (c : ConstraintValue) (cs : List ConstraintValue) → Conflicts p (c ∷ cs) → (slack p c <ℤ pos 0) ⊎ Conflicts (forced p c) cs
unfolding Conflicts
conflicts_cases p c cs found = any_cases IsViolated (p, c) (zip (partials (forced p c) cs) cs) found.0 found.1 found.2 found.3 found.4

-- What is left of a replay: it conflicts exactly where the whole does.
pub record IsRest (start : List (Option Bool)) (all : List ConstraintValue) (here : List (Option Bool)) (rest : List ConstraintValue) : Type 0 where
  pub onward : Conflicts start all → Conflicts here rest
  pub back : Conflicts here rest → Conflicts start all

pub rest_whole : (p : List (Option Bool)) (cs : List ConstraintValue) → IsRest p cs p cs
rest_whole p cs = record { onward = λ found. found; back = λ found. found }

-- past a constraint that isn't violated
pub rest_more : (start p q : List (Option Bool)) (all : List ConstraintValue) (c : ConstraintValue) (cs : List ConstraintValue) → IsRest start all p (c ∷ cs) → (slack p c <ℤ pos 0 → ⊥) → q ≡ forced p c → IsRest start all q cs
rest_more start p q all c cs rest kept is =
    subst (λ (r : List (Option Bool)). IsRest start all r cs) (sym is)
    (let onward : Conflicts (forced p c) cs → Conflicts start all = λ found. rest.back (conflicts_later p c cs found) in
    record { onward = λ found. by_cases (conflicts_cases p c cs (rest.onward found)); back = onward })
  where
    by_cases : (slack p c <ℤ pos 0) ⊎ Conflicts (forced p c) cs → Conflicts (forced p c) cs
    by_cases (inl violated) = absurd (kept violated)
    by_cases (inr later) = later

-- what a test that fails decides doesn't hold
pub fails : {P : Type 0} (b : Bool) → (P → b ≡ true) → b ≡ false → P → ⊥
fails b decides is holds = let so : b ≡ true = decides holds in cc
