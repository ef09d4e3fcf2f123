-- Trails of level 0.
use Rattle.std.specs.Prelude.{◌≡◌, ℕ, List, [], ◌∷◌, ◌++◌, fold, take, All, refl}
use Rattle.std.proofs.Common.{zero, suc, sym, ◌∙◌, subst, get_or, arith, append-nil, append_assoc}
use Rattle.std.proofs.lemmas.List.Elements.{All-nil, All-cons, All-head, All-tail, All-append}
use Rattle.std.proofs.lemmas.Option.{slice_get-get_or}
use Rattle.pb_lin.specs.LineMap.{LineMap}
use Rattle.clause_prop.specs.declared.step.Step.{Step}
use Rattle.clause_prop.specs.Steps.{TrailValue, cut}
use Rattle.clause_prop.specs.Propagating.{Extends, AreForced}
use Rattle.cdcl_trail.specs.SearchTrail.{IsSearchTrail, IsUndecided}
use Rattle.command_elaborate.specs.Kept.{IsFlat}

abbrev AtZero : Step → Type 0
AtZero s = s.level ≡ 0

last_from : (base : ℕ) (steps : List Step) → base ≡ 0 → All AtZero steps → fold (λ level (s : Step). s.level) base steps ≡ 0
last_from base [] low all = low
last_from base (s ∷ steps) low all = last_from s.level steps (All-head AtZero s steps all) (All-tail AtZero s steps all)

-- the steps that are forced, one after another
flat_more : (store : LineMap) (n : ℕ) (old first more : List Step) → AreForced store n old (first ++ more) → All AtZero (old ++ first) → All AtZero more
flat_more store n old first [] forced low = All-nil AtZero
flat_more store n old first (s ∷ more) forced low =
    let step = forced first s more refl in
    let zero_level : s.level ≡ 0 = step.level ∙ last_from 0 (old ++ first) refl low in
    All-cons AtZero s more zero_level
    (flat_more store n old (first ++ s ∷ []) more (subst (AreForced store n old) (sym (append_assoc first (s ∷ []) more)) forced)
    (subst (All AtZero) (append_assoc old first (s ∷ [])) (All-append AtZero (old ++ first) (s ∷ []) low (All-cons AtZero s [] zero_level (All-nil AtZero)))))

pub longer_law : (store : LineMap) (old new : TrailValue) → IsFlat old → Extends store old new → IsFlat new
longer_law store old new flat extends =
    subst (All AtZero) (sym extends.is) (All-append AtZero old.steps extends.more flat
    (flat_more store old.vars old.steps [] extends.more extends.forced (subst (All AtZero) (sym (append-nil old.steps)) flat)))

pub shorter_law : (t : TrailValue) (keep : ℕ) → IsFlat t → IsFlat (cut t keep)
shorter_law t keep flat = front keep t.steps flat
  where
    front : (k : ℕ) (steps : List Step) → All AtZero steps → All AtZero (take k steps)
    front zero steps all = All-nil AtZero
    front (suc k) [] all = All-nil AtZero
    front (suc k) (s ∷ steps) all = All-cons AtZero s (take k steps) (All-head AtZero s steps all) (front k steps (All-tail AtZero s steps all))

pub undecided_law : (store : LineMap) (t : TrailValue) → IsSearchTrail store t → IsFlat t → IsUndecided t
undecided_law store t search flat = λ k d inside none.
    (let decision = search.decided k (get_or t.steps k d) (slice_get-get_or t.steps k d inside) none in
    let low = flat k d inside in
    let high = decision.positive in
    omega arith)
