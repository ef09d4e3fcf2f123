-- Commands that are given files alone.
use Rattle.std.proofs.Common.{◌≡◌, ◌≢◌, ◌||◌, ℕ, ◌+◌, ◌<◌, Bool, List, [], ◌∷◌, ◌++◌, Bor, map, length, take, get_or, slice_index_or, not, true, false, refl, sym, ap, ◌∙◌, subst, arith}
use Rattle.std.specs.List.{list_any}
use Rattle.std.specs.Str.{bytes_eq}
use Rattle.std.proofs.lemmas.Bool.{and_parts}
use Rattle.std.proofs.lemmas.List.{map-append, take_more}
use Rattle.std.proofs.lemmas.Slice.Eq.{bytes_eq-Decides}
use Rattle.clap.specs.Words.{App, Text, new_app, with_rule}
use Rattle.command_base.specs.CommandWords.{file_rule}
use Rattle.command_base.specs.FileWords.{all_differ, files_app, with_files}

-- one file more
with_one_more : (app : App) (ids : List Text) (id : Text) → with_files app (ids ++ id ∷ []) ≡ with_rule (with_files app ids) (file_rule id)
with_one_more app [] id = refl
with_one_more app (first ∷ ids) id = with_one_more (with_rule app (file_rule first)) ids id

pub files_more : (name : Text) (ids : List (Bor (List ℕ))) (i : ℕ) (other : Bor (List ℕ)) → i < length ids → with_rule (files_app name (map (λ s. s.now) (take i ids))) (file_rule (get_or ids i other).now) ≡ files_app name (map (λ s. s.now) (take (i + 1) ids))
files_more name ids i other less =
    sym
    (ap (λ (some : List (Bor (List ℕ))). files_app name (map (λ s. s.now) some)) (take_more ids i other less)
    ∙ ap (files_app name) (map-append (λ (s : Bor (List ℕ)). s.now) (take i ids) (get_or ids i other ∷ []))
    ∙ with_one_more (new_app name) (map (λ s. s.now) (take i ids)) (get_or ids i other).now)

-- of three names that all differ, the last two do
pub last_differ : (names : List (Bor (List ℕ))) (other : Bor (List ℕ)) → all_differ (map (λ s. s.now) names) ≡ true → 2 < length names → (slice_index_or names 1 other).now ≢ (slice_index_or names 2 other).now
last_differ [] other differ long same = absurd (omega (arith, long))
last_differ (a ∷ []) other differ long same = absurd (omega (arith, long))
last_differ (a ∷ b ∷ []) other differ long same = absurd (omega (arith, long))
last_differ (a ∷ b ∷ c ∷ rest) other differ long same =
    let yes : bytes_eq b.now c.now ≡ true = (bytes_eq-Decides b.now c.now).1 same in
    let none : not (bytes_eq b.now c.now || list_any (bytes_eq b.now) (map (λ s. s.now) rest)) ≡ true = (and_parts _ _ (and_parts _ _ differ).1).0 in
    let wrong : false ≡ true = subst (λ (t : Bool). not (t || list_any (bytes_eq b.now) (map (λ s. s.now) rest)) ≡ true) yes none in
    cc
