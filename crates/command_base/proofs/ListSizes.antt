-- When a front is empty.
use Rattle.std.proofs.Common.{◌≡◌, ◌∷◌, List, [], length, refl, ◌↔◌, ap}
use Rattle.front_set.specs.declared.entry.Entry.{Entry}
use Rattle.instance.specs.Shape.{InstanceValue}
use Rattle.instance.specs.ParetoFront.{IsFront}
use Rattle.instance.proofs.EmptyFront.{empty_exactly}
use Rattle.command_base.specs.ListSizes.{HasNoModel}

no_entries : (entries : List Entry) → length entries ≡ 0 → entries ≡ []
no_entries [] none = refl
no_entries (e ∷ entries) none = absurd cc

-- the list of the front is empty exactly where there is no model
pub size_zero : (i : InstanceValue) (entries : List Entry) → IsFront i entries → (length entries ≡ 0) ↔ HasNoModel i
size_zero i entries front =
    let law = empty_exactly i entries front in
    (λ none. law.0 (no_entries entries none), λ none. ap length (law.1 none))
