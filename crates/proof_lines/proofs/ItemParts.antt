-- Parts of a line whose items are of several words each.
use Rattle.std.proofs.Common.{◌≡◌, ℕ, List, [], ◌∷◌, ◌++◌, None, Ok, sym, subst, ◌∙◌}
use Rattle.std.specs.List.{All, flat_map}
use Rattle.proof_lines.specs.Reading.{EndsPart, ReadsPart, Takes}
use Rattle.proof_lines.proofs.Items.{IsCode, ItemsSoFar, Words, one_item_more, no_item_here, one_list}

-- one item more is read
pub item_pushed : {X : Type 0} (words : X → Words) (IsValid : X → Type 0) (Follows : X → Words → Type 0) (old here new : Words) (items more : List X) (x : X) → ItemsSoFar words IsValid Follows old here items → IsValid x → here ≡ words x ++ new → Follows x new → more ≡ items ++ x ∷ [] → ItemsSoFar words IsValid Follows old new more
item_pushed words IsValid Follows old here new items more x so_far valid is follows pushed =
    subst (ItemsSoFar words IsValid Follows old new) (sym pushed) (one_item_more words IsValid Follows old here new items x so_far valid is follows)

-- where the next words spell no item
pub item_wrong : {X : Type 0} (words : X → Words) (IsValid : X → Type 0) (Follows : X → Words → Type 0) → IsCode words IsValid Follows EndsPart → (old here next_words new : Words) (items : List X) (next : List ℕ) → ItemsSoFar words IsValid Follows old here items → here ≡ next ∷ next_words → (next ≡ 58 ∷ [] → ⊥) → Takes words IsValid (next ∷ next_words) new None → (xs : List X) (rest : Words) → All IsValid xs → EndsPart rest → old ≡ flat_map words xs ++ rest → ⊥
item_wrong words IsValid Follows code old here next_words new items next so_far follows no_mark none xs rest valid ends is =
    no_item_here words IsValid Follows EndsPart code old here items so_far
    (λ ended. no_mark (subst EndsPart follows ended))
    (λ x r x_valid after spelled. none x r x_valid (sym follows ∙ spelled))
    xs rest valid ends is

-- the items that were read are those of any list that begins there
pub only_items : {X : Type 0} (words : X → Words) (IsValid : X → Type 0) (Follows : X → Words → Type 0) → IsCode words IsValid Follows EndsPart → (old new : Words) (items : List X) → ReadsPart (flat_map words) (All IsValid) old new (Ok items) → (xs : List X) (rest : Words) → All IsValid xs → EndsPart rest → old ≡ flat_map words xs ++ rest → xs ≡ items
only_items words IsValid Follows code old new items read xs rest valid ends is =
    (one_list words IsValid Follows EndsPart code xs items rest new valid read.0 ends read.2 (sym is ∙ read.1)).0
