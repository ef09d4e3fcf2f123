-- A text is cut into a word and its rest in one way.
use Rattle.std.proofs.Common.{◌≡◌, ℕ, suc, ◌+◌, ◌==◌, Bool, true, false, not, cond, List, [], ◌∷◌, ◌++◌, take, drop, refl, sym, ap, subst, ◌∙◌, arith}
use Rattle.std.specs.List.{position_or_len}
use Rattle.std.proofs.lemmas.Bool.{eq-eqb}
use Rattle.scut_base.proofs.Lists.{head_same, tail_same}
use Rattle.std.proofs.lemmas.List.{take-append-drop}
use Rattle.front_text.proofs.Parts.{cons_same}
use Rattle.front_text.specs.Reading.{is_separator, HasNoSeparator, EndsWord, IsWord}

-- two numbers that the test tells apart
pub numbers_apart : (a b : ℕ) → (a == b) ≡ false → a ≡ b → ⊥
numbers_apart a b apart same = by (a == b) (eq-eqb a b same) apart
  where
    by : (v : Bool) → v ≡ true → v ≡ false → ⊥
    by v passed failed = cc

pub heads_apart : (a b : ℕ) (xs ys : List ℕ) → (a == b) ≡ false → a ∷ xs ≡ b ∷ ys → ⊥
heads_apart a b xs ys apart e = numbers_apart a b apart (head_same a b xs ys e)

pub one_cut : (xs ys rs ss : List ℕ) → HasNoSeparator xs → HasNoSeparator ys → EndsWord rs → EndsWord ss → xs ++ rs ≡ ys ++ ss → (xs ≡ ys) × (rs ≡ ss)
one_cut [] [] rs ss nx ny er es e = (refl, e)
one_cut [] (y ∷ ys) [] ss nx ny er es e = cc
one_cut [] (y ∷ ys) (r ∷ rs) ss nx ny er es e =
    let same : is_separator r ≡ is_separator y = ap is_separator (head_same r y rs (ys ++ ss) e) in
    let no : is_separator y ≡ false = ny.0 in
    absurd (clash _ _ same er no)
  where
    clash : (a b : Bool) → a ≡ b → a ≡ true → b ≡ false → ⊥
    clash a b e p q = cc
one_cut (x ∷ xs) [] rs [] nx ny er es e = cc
one_cut (x ∷ xs) [] rs (s ∷ ss) nx ny er es e =
    let same : is_separator x ≡ is_separator s = ap is_separator (head_same x s (xs ++ rs) ss e) in
    let no : is_separator x ≡ false = nx.0 in
    absurd (clash _ _ same no es)
  where
    clash : (a b : Bool) → a ≡ b → a ≡ false → b ≡ true → ⊥
    clash a b e p q = cc
one_cut (x ∷ xs) (y ∷ ys) rs ss nx ny er es e =
    let rest = one_cut xs ys rs ss nx.1 ny.1 er es (tail_same x y (xs ++ rs) (ys ++ ss) e) in
    (cons_same x y xs ys (head_same x y (xs ++ rs) (ys ++ ss) e) rest.0, rest.1)

-- the place of the first separator cuts off a word
pub cut_at_first : (text : List ℕ) → HasNoSeparator (take (position_or_len is_separator text) text) × EndsWord (drop (position_or_len is_separator text) text)
cut_at_first [] = (tt, tt)
cut_at_first (b ∷ bs) = by (is_separator b) refl (cut_at_first bs)
  where
    first : (n : ℕ) → 1 + n ≡ suc n
    first n = omega arith

    by : (v : Bool) → is_separator b ≡ v → HasNoSeparator (take (position_or_len is_separator bs) bs) × EndsWord (drop (position_or_len is_separator bs) bs) → HasNoSeparator (take (cond (not v) (1 + position_or_len is_separator bs) 0) (b ∷ bs)) × EndsWord (drop (cond (not v) (1 + position_or_len is_separator bs) 0) (b ∷ bs))
    by true is rest = (tt, is)
    by false is rest = subst (λ n. HasNoSeparator (take n (b ∷ bs)) × EndsWord (drop n (b ∷ bs))) (sym (first (position_or_len is_separator bs))) ((is, rest.0), rest.1)

-- what stands before the first separator is a word
pub word_before_first : (text old word new : List ℕ) (n : ℕ) → text ≡ old → n ≡ position_or_len is_separator text → word ≡ take n text → new ≡ drop n text → IsWord word old new
word_before_first text old word new n same place front rest =
    let cut = cut_at_first text in
    let word_is : word ≡ take (position_or_len is_separator text) text = front ∙ ap (λ m. take m text) place in
    let new_is : new ≡ drop (position_or_len is_separator text) text = rest ∙ ap (λ m. drop m text) place in
    record {
      is = sym same ∙ sym (take-append-drop n text) ∙ ap (λ t. t ++ drop n text) (sym front) ∙ ap (λ t. word ++ t) (sym rest);
      whole = subst HasNoSeparator (sym word_is) cut.0;
      ends = subst EndsWord (sym new_is) cut.1;
    }
