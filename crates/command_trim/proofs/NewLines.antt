-- Lists under new ids, item by item.
use Rattle.std.proofs.Common.{◌≡◌, ℕ, zero, suc, ◌<◌, Bool, true, false, ◌&&◌, Option, Some, None, List, [], ◌∷◌, ◌++◌, length, get_or, refl, sym, ap, ◌∙◌, arith}
use Rattle.std.specs.List.{flat_map, list_all}
use Rattle.std.proofs.lemmas.List.Folds.{list_all-append}
use Rattle.std.proofs.lemmas.List.Concat.{flat_map-cons}
use Rattle.hint_rup.specs.declared.hint.Hint.{Hint}
use Rattle.hint_rup.specs.declared.hint.Hint.TheVariants.{Id as IdHint, Negated, Denied}
use Rattle.command_trim.specs.Trimmed.{Renaming, hint_in_front, in_front, new_hints, new_id, new_ids}

-- the new id of one, if it has one
abbrev pub ids_of : Renaming → ℕ → List ℕ
ids_of r id = in_front (new_id r id) []

abbrev pub hints_of : Renaming → Hint → List Hint
hints_of r (IdHint id) = hint_in_front (new_id r id) []
hints_of r hint = hint ∷ []

in_front_of : (o : Option ℕ) (ids : List ℕ) → in_front o ids ≡ in_front o [] ++ ids
in_front_of None ids = refl
in_front_of (Some id) ids = refl

hint_in_front_of : (o : Option ℕ) (hints : List Hint) → hint_in_front o hints ≡ hint_in_front o [] ++ hints
hint_in_front_of None hints = refl
hint_in_front_of (Some id) hints = refl

pub new_ids_flat : (r : Renaming) (ids : List ℕ) → new_ids r ids ≡ flat_map (ids_of r) ids
new_ids_flat r [] = refl
new_ids_flat r (id ∷ ids) = in_front_of (new_id r id) (new_ids r ids) ∙ ap (λ more. in_front (new_id r id) [] ++ more) (new_ids_flat r ids) ∙ sym (flat_map-cons (ids_of r) id ids)

pub new_hints_flat : (r : Renaming) (hints : List Hint) → new_hints r hints ≡ flat_map (hints_of r) hints
new_hints_flat r [] = refl
new_hints_flat r (IdHint id ∷ hints) =
    hint_in_front_of (new_id r id) (new_hints r hints) ∙ ap (λ more. hint_in_front (new_id r id) [] ++ more) (new_hints_flat r hints) ∙ sym (flat_map-cons (hints_of r) (IdHint id) hints)
new_hints_flat r (Negated ∷ hints) = ap (λ more. Negated ∷ more) (new_hints_flat r hints) ∙ sym (flat_map-cons (hints_of r) Negated hints)
new_hints_flat r (Denied ∷ hints) = ap (λ more. Denied ∷ more) (new_hints_flat r hints) ∙ sym (flat_map-cons (hints_of r) Denied hints)

and_false : (a : Bool) → (a && false) ≡ false
and_false true = refl
and_false false = refl

-- one that fails makes all fail
pub fails_at : {X Y : Type 0} (p : Y → Bool) (g : X → List Y) (xs : List X) (i : ℕ) (d : X) → i < length xs → list_all p (g (get_or xs i d)) ≡ false → list_all p (flat_map g xs) ≡ false
fails_at p g [] i d short fails = absurd (omega (arith, short))
fails_at p g (x ∷ xs) zero d short fails =
    ap (list_all p) (flat_map-cons g x xs) ∙ list_all-append p (g x) (flat_map g xs) ∙ ap (λ (b : Bool). b && list_all p (flat_map g xs)) fails
fails_at p g (x ∷ xs) (suc i) d short fails =
    ap (list_all p) (flat_map-cons g x xs) ∙ list_all-append p (g x) (flat_map g xs) ∙ ap (λ (b : Bool). list_all p (g x) && b) (fails_at p g xs i d (omega (arith, short)) fails) ∙ and_false (list_all p (g x))
