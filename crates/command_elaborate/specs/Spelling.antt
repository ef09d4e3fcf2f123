-- Hints as a line spells them.
use Rattle.std.specs.Prelude.{ℕ, Bool, true, false, not, ◌||◌, ◌==◌, if◌then◌else◌, List, [], ◌∷◌, map}
use Rattle.hint_rup.specs.declared.hint.Hint.{Hint}
use Rattle.hint_rup.specs.declared.hint.Hint.TheVariants.{Id as IdHint, Negated, Denied}

-- a hint over lines of which one, of this id, is the negation
abbrev pub respelled : ℕ → Hint → Hint
respelled id (IdHint i) = if i == id then Negated else IdHint i
respelled id Negated = Negated
respelled id Denied = Denied

-- whether two hints name the same line
abbrev pub same_hint : Hint → Hint → Bool
same_hint (IdHint i) (IdHint j) = i == j
same_hint Negated Negated = true
same_hint Denied Denied = true
same_hint g h = false

-- the hints without those that name the same line as the one before, after this one
abbrev pub squeezed : Hint → List Hint → List Hint
squeezed last [] = []
squeezed last (h ∷ hints) = if same_hint last h then squeezed last hints else h ∷ squeezed h hints

-- the hints, without those of the negation unless it may propagate again
abbrev pub told : Bool → List Hint → List Hint
told again [] = []
told again (h ∷ hints) = if again || not (same_hint Negated h) then h ∷ told again hints else told again hints

-- The hints with the negation in place of this id, where it may propagate again, and each once where it comes several times in
-- turn. A replay begins with the negation, so it isn't told at the front.
abbrev pub spelled_hints : Bool → ℕ → List Hint → List Hint
spelled_hints again id hints = squeezed Negated (told again (map (respelled id) hints))
