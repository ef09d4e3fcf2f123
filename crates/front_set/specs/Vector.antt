-- Cost vectors: lists of whole numbers, compared number by number and lexicographically.
use Rattle.std.specs.Prelude.{◌≡◌, ◌≢◌, Bool, true, false, ◌&&◌, not, List, [], ◌∷◌, ℤ, int_lt}
use Rattle.std.specs.declared.cmp.Ordering.{Ordering}
use Rattle.std.specs.declared.cmp.Ordering.TheVariants.{Less}
use Rattle.std.specs.Ordering.{int_cmp}
use Rattle.std.specs.Cmp.Lexicographic.{slice_cmp}

-- u is below v: they are equally long, and each number of u is at most that of v
abbrev pub is_below : List ℤ → List ℤ → Bool
is_below [] [] = true
is_below [] (y ∷ ys) = false
is_below (x ∷ xs) [] = false
is_below (x ∷ xs) (y ∷ ys) = not (int_lt y x) && is_below xs ys

abbrev pub IsBelow : List ℤ → List ℤ → Type 0
IsBelow u v = is_below u v ≡ true

-- u is below v, and they differ
abbrev pub IsStrictlyBelow : List ℤ → List ℤ → Type 0
IsStrictlyBelow u v = IsBelow u v × (u ≢ v)

-- the lexicographic order
abbrev pub vector_cmp : List ℤ → List ℤ → Ordering
vector_cmp u v = slice_cmp int_cmp u v

-- each vector is lexicographically before the next
abbrev pub AreRising : List (List ℤ) → Type 0
AreRising [] = Unit {0}
AreRising (u ∷ []) = Unit {0}
AreRising (u ∷ v ∷ vs) = (vector_cmp u v ≡ Less) × AreRising (v ∷ vs)
