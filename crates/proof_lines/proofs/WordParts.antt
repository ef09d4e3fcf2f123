-- Parts of a line whose items are single words.
use Rattle.std.proofs.Common.{◌≡◌, ℕ, List, [], ◌∷◌, ◌++◌, map, Option, Some, None, Err, refl, sym, ap, subst, ◌∙◌}
use Rattle.std.specs.List.{All, flat_map}
use Rattle.scut_base.proofs.Lists.{head_same, tail_same}
use Rattle.proof_lines.specs.declared.reader.LineFault.TheVariants.{Syntax}
use Rattle.proof_lines.specs.Reading.{EndsPart, IsValueOf, ReadsPart, Takes}
use Rattle.proof_lines.proofs.Items.{Ended, IsCode, ItemsSoFar, Words, one_item_more, no_item_here, one_list}
use Rattle.proof_lines.proofs.Codes.{IsWordCode, AnyFollows, one_word}

pub words_map : {X : Type 0} (word : X → List ℕ) (xs : List X) → flat_map (one_word word) xs ≡ map word xs
words_map word [] = refl
words_map word (x ∷ xs) = ap (λ ws. word x ∷ ws) (words_map word xs)

pub part_code : {X : Type 0} (word : X → List ℕ) (IsValid : X → Type 0) → IsWordCode word IsValid → IsCode (one_word word) IsValid AnyFollows EndsPart
part_code word IsValid code = record {
  one = λ x y r s valid other first second e. (code.one x y valid other (head_same _ _ _ _ e), tail_same _ _ _ _ e);
  joins = λ x y r valid other. tt;
  stops = λ x r valid ends. tt;
  no_end = λ x r valid ends. code.no_mark x valid ends;
}

-- the items so far, and what follows them
abbrev pub WordsSoFar : {X : Type 0} → (X → List ℕ) → (X → Type 0) → Words → Words → List X → Type 0
WordsSoFar word IsValid old new items = ItemsSoFar (one_word word) IsValid AnyFollows old new items

-- anything may follow items of which each may be followed by anything
pub any_ended : {X : Type 0} (xs : List X) (r : Words) → Ended AnyFollows xs r
any_ended [] r = tt
any_ended (x ∷ []) r = tt
any_ended (x ∷ y ∷ xs) r = any_ended (y ∷ xs) r

-- items that were read at once, and their words
pub words_read : {X : Type 0} (word : X → List ℕ) (IsValid : X → Type 0) (old new : Words) (items : List X) → All IsValid items × (old ≡ map word items ++ new) → WordsSoFar word IsValid old new items
words_read word IsValid old new items read = record {
  is = read.1 ∙ ap (λ ws. ws ++ new) (sym (words_map word items));
  valid = read.0;
  ended = any_ended items new;
}

pub words_taken : {X : Type 0} (word : X → List ℕ) (IsValid : X → Type 0) (old new : Words) (items : List X) → WordsSoFar word IsValid old new items → All IsValid items × (old ≡ map word items ++ new)
words_taken word IsValid old new items so_far = (so_far.valid, so_far.is ∙ ap (λ ws. ws ++ new) (words_map word items))

pub one_word_more : {X : Type 0} (word : X → List ℕ) (IsValid : X → Type 0) (old here new : Words) (items more : List X) (x : X) (next : List ℕ) → WordsSoFar word IsValid old here items → here ≡ next ∷ new → IsValueOf word IsValid next (Some x) → more ≡ items ++ x ∷ [] → WordsSoFar word IsValid old new more
one_word_more word IsValid old here new items more x next so_far follows value is =
    subst (WordsSoFar word IsValid old new) (sym is) (one_item_more (one_word word) IsValid AnyFollows old here new items x so_far value.0 (follows ∙ ap (λ w. w ∷ new) value.1) tt)

-- where the next word spells no item
pub part_wrong : {X : Type 0} (word : X → List ℕ) (IsValid : X → Type 0) → IsWordCode word IsValid → (old here next_words new : Words) (items : List X) (next : List ℕ) → WordsSoFar word IsValid old here items → here ≡ next ∷ next_words → (next ≡ 58 ∷ [] → ⊥) → IsValueOf word IsValid next None → ReadsPart (map word) (All IsValid) old new (Err Syntax)
part_wrong word IsValid code old here next_words new items next so_far follows no_mark none ys s valid ends e =
    no_item_here (one_word word) IsValid AnyFollows EndsPart (part_code word IsValid code) old here items so_far
    (λ ended. no_mark (subst EndsPart follows ended))
    (λ x r x_valid any is. none x x_valid (head_same _ _ _ _ (sym follows ∙ is)))
    ys s valid ends (e ∙ ap (λ ws. ws ++ s) (sym (words_map word ys)))

-- the same of words that begin with no item
pub part_unread : {X : Type 0} (word : X → List ℕ) (IsValid : X → Type 0) → IsWordCode word IsValid → (old here after new : Words) (items : List X) → WordsSoFar word IsValid old here items → (EndsPart here → ⊥) → Takes (one_word word) IsValid here after None → ReadsPart (map word) (All IsValid) old new (Err Syntax)
part_unread word IsValid code old here after new items so_far unended none ys s valid ends e =
    no_item_here (one_word word) IsValid AnyFollows EndsPart (part_code word IsValid code) old here items so_far
    unended
    (λ x r x_valid any is. none x r x_valid is)
    ys s valid ends (e ∙ ap (λ ws. ws ++ s) (sym (words_map word ys)))

-- what the next word spells is taken
pub word_taken : {X : Type 0} (word : X → List ℕ) (IsValid : X → Type 0) (old new : Words) (next : List ℕ) (r : Option X) → old ≡ next ∷ new → IsValueOf word IsValid next r → Takes (one_word word) IsValid old new r
word_taken word IsValid old new next None is none = λ x rest valid spelled. none x valid (head_same _ _ _ _ (sym is ∙ spelled))
word_taken word IsValid old new next (Some x) is value = (value.0, is ∙ ap (λ w. w ∷ new) value.1)

-- one list is spelled up to an end
pub one_part : {X : Type 0} (word : X → List ℕ) (IsValid : X → Type 0) → IsWordCode word IsValid → (xs ys : List X) (r s : Words) → All IsValid xs → All IsValid ys → EndsPart r → EndsPart s → map word xs ++ r ≡ map word ys ++ s → (xs ≡ ys) × (r ≡ s)
one_part word IsValid code xs ys r s left right ends_r ends_s e =
    one_list (one_word word) IsValid AnyFollows EndsPart (part_code word IsValid code) xs ys r s left right ends_r ends_s (ap (λ ws. ws ++ r) (words_map word xs) ∙ e ∙ ap (λ ws. ws ++ s) (sym (words_map word ys)))

-- the list that was read is the only one
pub only_part : {X : Type 0} (word : X → List ℕ) (IsValid : X → Type 0) → IsWordCode word IsValid → (old new : Words) (xs : List X) → All IsValid xs × (old ≡ map word xs ++ new) × EndsPart new → (ys : List X) (s : Words) → All IsValid ys → EndsPart s → old ≡ map word ys ++ s → ys ≡ xs
only_part word IsValid code old new xs read ys s valid ends e = (one_part word IsValid code ys xs s new valid read.0 ends read.2 (sym e ∙ read.1)).0
