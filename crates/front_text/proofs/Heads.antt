-- A text begins with one head line at most.
use Rattle.std.proofs.Common.{◌≡◌, ℕ, Bool, true, false, List, [], ◌∷◌, ◌++◌, get_or, drop, refl, sym, ap, subst, ◌∙◌}
use Rattle.std.proofs.lemmas.List.{append_assoc}
use Rattle.scut_base.proofs.Lists.{tail_same}
use Rattle.front_text.specs.Spelling.{IsCount, kind_text, head_with}
use Rattle.front_text.specs.Reading.{IsWord, BeginsWithNone}
use Rattle.front_text.proofs.Words.{numbers_apart, one_cut}
use Rattle.front_text.proofs.Numbers.{count_joins}

pub one_kind : (b c : Bool) (r s : List ℕ) → kind_text b ++ r ≡ kind_text c ++ s → (b ≡ c) × (r ≡ s)
one_kind true true r s e = (refl, ap (drop 11) e)
one_kind false false r s e = (refl, ap (drop 13) e)
one_kind true false r s e = absurd (numbers_apart 67 73 refl (ap (λ t. get_or t 2 0) e))
one_kind false true r s e = absurd (numbers_apart 73 67 refl (ap (λ t. get_or t 2 0) e))

pub head_with_is : (complete : Bool) (digits rest : List ℕ) → head_with complete digits ++ rest ≡ kind_text complete ++ (digits ++ 10 ∷ rest)
head_with_is complete digits rest = append_assoc (kind_text complete) (digits ++ 10 ∷ []) rest ∙ ap (λ t. kind_text complete ++ t) (append_assoc digits (10 ∷ []) rest)

pub one_head : (b c : Bool) (ds es r s : List ℕ) → IsCount ds → IsCount es → head_with b ds ++ r ≡ head_with c es ++ s → (b ≡ c) × (ds ≡ es) × (r ≡ s)
one_head b c ds es r s left right e =
    let kind = one_kind b c _ _ (sym (head_with_is b ds r) ∙ e ∙ head_with_is c es s) in
    let cut = one_cut ds es (10 ∷ r) (10 ∷ s) (count_joins ds left) (count_joins es right) refl refl kind.1 in
    (kind.0, cut.0, tail_same 10 10 r s cut.1)

-- ---- the reader of a head line

pub no_kind : (old next : List ℕ) → next ≡ old → ((rest : List ℕ) → old ≡ kind_text true ++ rest → ⊥) → ((rest : List ℕ) → next ≡ kind_text false ++ rest → ⊥) → BeginsWithNone kind_text (λ _. Unit {0}) old
no_kind old next same first second true rest valid is = first rest is
no_kind old next same first second false rest valid is = second rest (same ∙ is)

-- where the digits aren't a count, or no line feed follows, no head line begins
pub no_head : (old next word new : List ℕ) (kind : Bool) → old ≡ kind_text kind ++ next → IsWord word next new → (IsCount word → (rest : List ℕ) → new ≡ 10 ∷ rest → ⊥) → (complete : Bool) (digits rest : List ℕ) → IsCount digits → old ≡ head_with complete digits ++ rest → ⊥
no_head old next word new kind begun taken none complete digits rest count is =
    let one = one_kind kind complete next (digits ++ 10 ∷ rest) (sym begun ∙ is ∙ head_with_is complete digits rest) in
    let cut = one_cut word digits new (10 ∷ rest) taken.whole (count_joins digits count) taken.ends refl (sym taken.is ∙ one.1) in
    none (subst IsCount (sym cut.0) count) rest cut.1
