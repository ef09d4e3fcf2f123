-- Words put at the end of a text, one item after the other.
use Rattle.std.proofs.Common.{◌≡◌, ℕ, ◌+◌, ◌≤◌, List, [], ◌∷◌, ◌++◌, length, map, take, Some, refl, sym, ap, ◌∙◌}
use Rattle.std.specs.Prelude.{slice_get}
use Rattle.std.specs.List.{flat_map}
use Rattle.std.specs.Fmt.{decimal}
use Rattle.std.proofs.lemmas.List.{append_assoc, append-nil, flat_map_more, take_all, take_more}
use Rattle.std.proofs.lemmas.List.Concat.{flat_map-append}
use Rattle.std.proofs.lemmas.Option.{slice_get_within, get_or_from_slice_get}
use Rattle.scut_base.specs.Literal.{Literal}
use Rattle.proof_lines.specs.LineText.{literal_word}
use Rattle.proof_lines.specs.Reading.{term_words}
use Rattle.proof_lines.specs.Spaces.{after_space, after_spaces}

-- a word of each item
after_each : {X : Type 0} (f : X → List ℕ) (xs : List X) → after_spaces (map f xs) ≡ flat_map (λ x. after_space (f x)) xs
after_each f [] = refl
after_each f (x ∷ xs) = ap (λ t. after_space (f x) ++ t) (after_each f xs)

-- some words of each item
after_all : {X : Type 0} (f : X → List (List ℕ)) (xs : List X) → after_spaces (flat_map f xs) ≡ flat_map (λ x. after_spaces (f x)) xs
after_all f [] = refl
after_all f (x ∷ xs) = flat_map-append after_space (f x) (flat_map f xs) ∙ ap (λ t. after_spaces (f x) ++ t) (after_all f xs)

-- all items are put
pub each_put : {X : Type 0} (f : X → List ℕ) (xs : List X) (i : ℕ) (start now : List ℕ) → length xs ≤ i → now ≡ start ++ flat_map (λ x. after_space (f x)) (take i xs) → now ≡ start ++ after_spaces (map f xs)
each_put {X} f xs i start now past put =
    put ∙ ap (λ (ys : List X). start ++ flat_map (λ x. after_space (f x)) ys) (take_all i xs past) ∙ ap (λ t. start ++ t) (sym (after_each f xs))

pub all_put : {X : Type 0} (f : X → List (List ℕ)) (xs : List X) (i : ℕ) (start now : List ℕ) → length xs ≤ i → now ≡ start ++ flat_map (λ x. after_spaces (f x)) (take i xs) → now ≡ start ++ after_spaces (flat_map f xs)
all_put {X} f xs i start now past put =
    put ∙ ap (λ (ys : List X). start ++ flat_map (λ x. after_spaces (f x)) ys) (take_all i xs past) ∙ ap (λ t. start ++ t) (sym (after_all f xs))

-- one term more is put
pub term_put : (terms : List (Literal × ℕ)) (at : ℕ) (t : Literal × ℕ) (start now wide next : List ℕ) → slice_get terms at ≡ Some t → now ≡ start ++ flat_map (λ u. after_spaces (term_words u)) (take at terms) → wide ≡ now ++ after_space (decimal t.1) → next ≡ wide ++ after_space (literal_word t.0) → next ≡ start ++ flat_map (λ u. after_spaces (term_words u)) (take (at + 1) terms)
term_put terms at t start now wide next found put number literal =
    let words : List ℕ = after_spaces (term_words t) in
    let joined : next ≡ now ++ words = literal ∙ ap (λ w. w ++ after_space (literal_word t.0)) number ∙ append_assoc now (after_space (decimal t.1)) (after_space (literal_word t.0)) ∙ ap (λ w. now ++ (after_space (decimal t.1) ++ w)) (sym (append-nil (after_space (literal_word t.0)))) in
    let more : take (at + 1) terms ≡ take at terms ++ t ∷ [] = take_more terms at t (slice_get_within terms at t found) ∙ ap (λ (u : Literal × ℕ). take at terms ++ u ∷ []) (get_or_from_slice_get terms at t t found) in
    joined ∙ ap (λ w. w ++ words) put ∙ flat_map_more (λ u. after_spaces (term_words u)) start (take at terms) t ∙ ap (λ (us : List (Literal × ℕ)). start ++ flat_map (λ u. after_spaces (term_words u)) us) (sym more)
