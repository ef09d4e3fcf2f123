-- All assignments of some variables.
use Rattle.std.proofs.Common.{◌≡◌, inl, inr, ℕ, zero, suc, Bool, true, false, List, [], ◌∷◌, ◌++◌, length, map, sym, ap, ◌∙◌}
use Rattle.std.specs.Prelude.{Contains}
use Rattle.std.proofs.lemmas.List.Elements.{Contains-append_left, Contains-append_right, Contains-append_cases}
use Rattle.scut_base.proofs.Lists.{Contains-nil, Contains-head, Contains-cons_cases, Contains-map, Contains-from_map}

-- every list of n truth values
abbrev pub assignments : ℕ → List (List Bool)
assignments zero = [] ∷ []
assignments (suc n) = map (λ a. true ∷ a) (assignments n) ++ map (λ a. false ∷ a) (assignments n)

-- each assignment is among those of its length
pub among_assignments : (a : List Bool) → Contains (assignments (length a)) a
among_assignments [] = Contains-head [] []
among_assignments (true ∷ a) =
    Contains-append_left (map (λ b. true ∷ b) (assignments (length a))) (map (λ b. false ∷ b) (assignments (length a))) (true ∷ a)
    (Contains-map (λ b. true ∷ b) (assignments (length a)) a (among_assignments a))
among_assignments (false ∷ a) =
    Contains-append_right (map (λ b. true ∷ b) (assignments (length a))) (map (λ b. false ∷ b) (assignments (length a))) (false ∷ a)
    (Contains-map (λ b. false ∷ b) (assignments (length a)) a (among_assignments a))

-- and nothing else is
pub length_among_assignments : (n : ℕ) (a : List Bool) → Contains (assignments n) a → length a ≡ n
length_among_assignments zero a among = elim (Contains-cons_cases [] a [] among) [
  | inl same ↦ ap length (sym same)
  | inr later ↦ absurd (Contains-nil a later)
]
length_among_assignments (suc n) a among = elim (Contains-append_cases (map (λ b. true ∷ b) (assignments n)) (map (λ b. false ∷ b) (assignments n)) a among) [
  | inl left ↦ (let found = Contains-from_map (λ b. true ∷ b) (assignments n) a left in ap length (sym found.2) ∙ ap suc (length_among_assignments n found.0 found.1))
  | inr right ↦ (let found = Contains-from_map (λ b. false ∷ b) (assignments n) a right in ap length (sym found.2) ∙ ap suc (length_among_assignments n found.0 found.1))
]
