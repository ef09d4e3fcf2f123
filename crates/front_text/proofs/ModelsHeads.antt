-- A text begins with one line that counts at most.
use Rattle.std.proofs.Common.{◌≡◌, ℕ, Bool, true, false, List, [], ◌∷◌, ◌++◌, get_or, drop, refl, sym, ap, subst, ◌∙◌}
use Rattle.std.specs.Prelude.{codes}
use Rattle.std.proofs.lemmas.List.{append_assoc}
use Rattle.scut_base.proofs.Lists.{tail_same}
use Rattle.front_text.specs.Spelling.{IsCount}
use Rattle.front_text.specs.Reading.{IsWord, BeginsWithNone}
use Rattle.front_text.proofs.Words.{numbers_apart, one_cut}
use Rattle.front_text.proofs.Numbers.{count_joins}
use Rattle.front_text.specs.ModelsSpelling.{head_with}
use Rattle.front_text.specs.ModelsReading.{kind_text, kind_with}

-- ---- digits and the end of their line

digits_end : (begin digits rest : List ℕ) → (begin ++ (digits ++ 10 ∷ [])) ++ rest ≡ begin ++ (digits ++ 10 ∷ rest)
digits_end begin digits rest = append_assoc begin (digits ++ 10 ∷ []) rest ∙ ap (λ t. begin ++ t) (append_assoc digits (10 ∷ []) rest)

one_count : (ds es r s : List ℕ) → IsCount ds → IsCount es → ds ++ 10 ∷ r ≡ es ++ 10 ∷ s → (ds ≡ es) × (r ≡ s)
one_count ds es r s left right e =
    let cut = one_cut ds es (10 ∷ r) (10 ∷ s) (count_joins ds left) (count_joins es right) refl refl e in
    (cut.0, tail_same 10 10 r s cut.1)

-- a word that is cut off stands where digits stand
word_is_count : (next word new digits rest : List ℕ) → IsWord word next new → IsCount digits → next ≡ digits ++ 10 ∷ rest → IsCount word × (new ≡ 10 ∷ rest)
word_is_count next word new digits rest taken count is =
    let cut = one_cut word digits new (10 ∷ rest) taken.whole (count_joins digits count) taken.ends refl (sym taken.is ∙ is) in
    (subst IsCount (sym cut.0) count, cut.1)

-- ---- the first line

head_with_is : (digits rest : List ℕ) → head_with digits ++ rest ≡ codes "s MODELS " ++ (digits ++ 10 ∷ rest)
head_with_is digits rest = digits_end (codes "s MODELS ") digits rest

pub one_head : (ds es r s : List ℕ) → IsCount ds → IsCount es → head_with ds ++ r ≡ head_with es ++ s → (ds ≡ es) × (r ≡ s)
one_head ds es r s left right e = one_count ds es r s left right (ap (drop 9) (sym (head_with_is ds r) ∙ e ∙ head_with_is es s))

pub no_head_begin : (old : List ℕ) → ((rest : List ℕ) → old ≡ codes "s MODELS " ++ rest → ⊥) → (digits rest : List ℕ) → IsCount digits → old ≡ head_with digits ++ rest → ⊥
no_head_begin old none digits rest count is = none (digits ++ 10 ∷ rest) (is ∙ head_with_is digits rest)

-- where the digits aren't a count, or no line feed follows, no first line begins
pub no_head : (old next word new : List ℕ) → old ≡ codes "s MODELS " ++ next → IsWord word next new → (IsCount word → (rest : List ℕ) → new ≡ 10 ∷ rest → ⊥) → (digits rest : List ℕ) → IsCount digits → old ≡ head_with digits ++ rest → ⊥
no_head old next word new begun taken none digits rest count is =
    let same : next ≡ digits ++ 10 ∷ rest = ap (drop 9) (sym begun ∙ is ∙ head_with_is digits rest) in
    let one = word_is_count next word new digits rest taken count same in
    none one.0 rest one.1

-- ---- an entry's first line

one_kind : (b c : Bool) (r s : List ℕ) → kind_text b ++ r ≡ kind_text c ++ s → (b ≡ c) × (r ≡ s)
one_kind true true r s e = (refl, ap (drop 6) e)
one_kind false false r s e = (refl, ap (drop 8) e)
one_kind true false r s e = absurd (numbers_apart 65 70 refl (ap (λ t. get_or t 2 0) e))
one_kind false true r s e = absurd (numbers_apart 70 65 refl (ap (λ t. get_or t 2 0) e))

kind_with_is : (all : Bool) (digits rest : List ℕ) → kind_with all digits ++ rest ≡ kind_text all ++ (digits ++ 10 ∷ rest)
kind_with_is all digits rest = digits_end (kind_text all) digits rest

pub one_kind_line : (b c : Bool) (ds es r s : List ℕ) → IsCount ds → IsCount es → kind_with b ds ++ r ≡ kind_with c es ++ s → (b ≡ c) × (ds ≡ es) × (r ≡ s)
one_kind_line b c ds es r s left right e =
    let kind = one_kind b c _ _ (sym (kind_with_is b ds r) ∙ e ∙ kind_with_is c es s) in
    let count = one_count ds es r s left right kind.1 in
    (kind.0, count.0, count.1)

pub no_kind : (old next : List ℕ) → next ≡ old → ((rest : List ℕ) → old ≡ kind_text true ++ rest → ⊥) → ((rest : List ℕ) → next ≡ kind_text false ++ rest → ⊥) → BeginsWithNone kind_text (λ _. Unit {0}) old
no_kind old next same first second true rest valid is = first rest is
no_kind old next same first second false rest valid is = second rest (same ∙ is)

pub no_kind_begin : (old : List ℕ) → BeginsWithNone kind_text (λ _. Unit {0}) old → (all : Bool) (digits rest : List ℕ) → IsCount digits → old ≡ kind_with all digits ++ rest → ⊥
no_kind_begin old none all digits rest count is = none all (digits ++ 10 ∷ rest) tt (is ∙ kind_with_is all digits rest)

-- where the digits aren't a count, or no line feed follows, no first line of an entry begins
pub no_kind_line : (old next word new : List ℕ) (kind : Bool) → old ≡ kind_text kind ++ next → IsWord word next new → (IsCount word → (rest : List ℕ) → new ≡ 10 ∷ rest → ⊥) → (all : Bool) (digits rest : List ℕ) → IsCount digits → old ≡ kind_with all digits ++ rest → ⊥
no_kind_line old next word new kind begun taken none all digits rest count is =
    let one = one_kind kind all next (digits ++ 10 ∷ rest) (sym begun ∙ is ∙ kind_with_is all digits rest) in
    let cut = word_is_count next word new digits rest taken count one.1 in
    none cut.0 rest cut.1
