-- The partial assignment of a trail's steps, by its places.
use Rattle.std.proofs.Common.{◌≡◌, ◌≢◌, ◌⊎◌, ℕ, zero, suc, ◌-◌, ◌<◌, ◌≤◌, Bool, not, List, [], ◌∷◌, ◌++◌, length, get_or, replicate, Option, None, Some, All, AllPairs, refl, arith, sym, ◌∙◌, inl, inr, ⊎_elim, length-set, get_or-set_other, get_or-set_same}
use Rattle.std.specs.List.{fold}
use Rattle.std.proofs.lemmas.Bool.{cases_eq, cases_lt}
use Rattle.std.proofs.lemmas.List.{length-replicate, get_or-replicate, get_or_past}
use Rattle.std.proofs.lemmas.List.Sums.{fold-append}
use Rattle.std.proofs.lemmas.Option.{none-some}
use Rattle.std.proofs.lemmas.List.Elements.{All-head, All-tail}
use Rattle.clause_prop.specs.Steps.{AreSteps, assigned, with_true}
use Rattle.clause_prop.specs.declared.step.Step.{Step}

abbrev pub Values : Type 0
Values = List (Option Bool)

-- the place of a step's variable
abbrev pub index : Step → ℕ
index s = s.lit.var - 1

length-from : (p : Values) (steps : List Step) → length (fold with_true p steps) ≡ length p
length-from p [] = refl
length-from p (s ∷ steps) = length-from (with_true p s) steps ∙ length-set p (index s) (Some (not s.lit.neg))

pub length-assigned : (n : ℕ) (steps : List Step) → length (assigned n steps) ≡ n
length-assigned n steps = length-from (replicate n None) steps ∙ length-replicate {A = Option Bool} n None

pub assigned-push : (n : ℕ) (steps : List Step) (s : Step) → assigned n (steps ++ s ∷ []) ≡ with_true (assigned n steps) s
assigned-push n steps s = fold-append with_true (replicate n None) steps (s ∷ [])

-- a place that is no step's keeps its value
from_other : (p : Values) (steps : List Step) (i : ℕ) → All (λ s. index s ≢ i) steps → get_or (fold with_true p steps) i None ≡ get_or p i None
from_other p [] i apart = refl
from_other p (s ∷ steps) i apart =
    from_other (with_true p s) steps i (All-tail (λ r. index r ≢ i) s steps apart) ∙ get_or-set_other p (index s) i (Some (not s.lit.neg)) None (λ e. All-head (λ r. index r ≢ i) s steps apart (sym e))

-- a step's place has its value
from_at : (p : Values) (steps : List Step) (k : ℕ) (d : Step) → All (λ s. index s < length p) steps → AllPairs (λ r s. index r ≢ index s) steps → k < length steps
    → get_or (fold with_true p steps) (index (get_or steps k d)) None ≡ Some (not (get_or steps k d).lit.neg)
from_at p [] k d within apart short = absurd (omega arith)
from_at p (s ∷ steps) zero d within apart short =
    from_other (with_true p s) steps (index s) (λ j e less. λ same. apart zero (suc j) e (omega arith) (omega (arith, less)) (sym same))
    ∙ get_or-set_same p (index s) (Some (not s.lit.neg)) None (All-head (λ r. index r < length p) s steps within)
from_at p (s ∷ steps) (suc k) d within apart short =
    from_at (with_true p s) steps k d
    (λ j e less. let one = All-tail (λ r. index r < length p) s steps within j e less in omega (arith, one, length-set p (index s) (Some (not s.lit.neg))))
    (λ i j e less short'. apart (suc i) (suc j) e (omega (arith, less)) (omega (arith, short')))
    (omega (arith, short))

-- a value is a step's, or was there before
from_cases : (p : Values) (steps : List Step) (i : ℕ) (d : Step) → (get_or (fold with_true p steps) i None ≡ get_or p i None) ⊎ ((k : ℕ) × (k < length steps) × (index (get_or steps k d) ≡ i))
from_cases p [] i d = inl refl
from_cases p (s ∷ steps) i d = ⊎_elim
    (λ (same : get_or (fold with_true (with_true p s) steps) i None ≡ get_or (with_true p s) i None). ⊎_elim
    (λ (here : i ≡ index s). inr (zero, omega arith, sym here))
    (λ (other : i ≢ index s). inl (same ∙ get_or-set_other p (index s) i (Some (not s.lit.neg)) None other))
    (cases_eq i (index s)))
    (λ (later : (k : ℕ) × (k < length steps) × (index (get_or steps k d) ≡ i)). inr (suc later.0, let short = later.1 in omega arith, later.2))
    (from_cases (with_true p s) steps i d)

-- ---- steps of distinct variables

indices_apart : (n : ℕ) (steps : List Step) → AreSteps n steps → AllPairs (λ r s. index r ≢ index s) steps
indices_apart n steps are i j d less short = λ same.
    let ri = are.within i d (omega arith) in
    let rj = are.within j d short in
    are.apart i j d less short (omega (arith, ri.0, rj.0, same))

pub assigned-at : (n : ℕ) (steps : List Step) (k : ℕ) (d : Step) → AreSteps n steps → k < length steps → get_or (assigned n steps) (index (get_or steps k d)) None ≡ Some (not (get_or steps k d).lit.neg)
assigned-at n steps k d are short = from_at (replicate n None) steps k d
    (λ j e less. let w = are.within j e less in omega (arith, w.0, w.1, length-replicate {A = Option Bool} n None))
    (indices_apart n steps are) short

-- all is open where nothing was set
get_or-replicate_default : (n i : ℕ) → get_or (replicate {A = Option Bool} n None) i None ≡ None
get_or-replicate_default n i = ⊎_elim
    (λ (less : i < n). get_or-replicate {A = Option Bool} n i None None less)
    (λ (past : n ≤ i). get_or_past (replicate n None) i None (omega (arith, past, length-replicate {A = Option Bool} n None)))
    (cases_lt i n)

-- a value is that of a step
pub assigned-found : (n : ℕ) (steps : List Step) (i : ℕ) (b : Bool) (d : Step) → get_or (assigned n steps) i None ≡ Some b → (k : ℕ) × (k < length steps) × (index (get_or steps k d) ≡ i)
assigned-found n steps i b d is = ⊎_elim
    (λ (same : get_or (assigned n steps) i None ≡ get_or (replicate n None) i None). absurd (none_here (sym same ∙ is)))
    (λ found. found)
    (from_cases (replicate n None) steps i d)
  where
    none_here : get_or (replicate n None) i None ≡ Some b → ⊥
    none_here e = none-some b (sym (get_or-replicate_default n i) ∙ e)

-- a place that is no step's is open
pub assigned-none : (n : ℕ) (steps : List Step) (i : ℕ) → All (λ s. index s ≢ i) steps → get_or (assigned n steps) i None ≡ None
assigned-none n steps i apart = from_other (replicate n None) steps i apart ∙ get_or-replicate_default n i
