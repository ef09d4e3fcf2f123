-- Bytes, cut at line feeds.
use Rattle.std.proofs.Common.{◌≡◌, ◌⊎◌, inl, inr, ⊎_elim, ℕ, suc, ◌+◌, ◌<◌, ◌==◌, false, cond, List, [], ◌∷◌, ◌++◌, length, get_or, take, drop, Option, None, Some, MatchOption, refl, sym, ap, subst, ◌∙◌, arith}
use Rattle.std.specs.List.{Contains}
use Rattle.std.proofs.lemmas.Bool.{eq-eqb, eqb-true, ne_eqb, cases_eq, cond-false}
use Rattle.std.proofs.Math.Seq.{drop-cons}
use Rattle.std.proofs.lemmas.List.{append-nil, append_assoc, get_or-take, length-take-le, take-append-drop}
use Rattle.std.proofs.lemmas.List.Sums.{sum_by-cons, sum_by-append}
use Rattle.scut_base.specs.Bytes.{newline}
use Rattle.scut_base.proofs.Lists.{Contains-nil, Contains-head, Contains-cons, Contains-cons_cases, head_same, tail_same}
use Rattle.memchr.specs.Find.{IsFirstByte, is_byte}
use Rattle.proof_text.specs.Cutting.{IsLineOf}
use Rattle.proof_text.specs.LogText.{IsOneLine, IsWholeLines, newlines}

pub cons_same : {X : Type 0} (a b : X) (xs ys : List X) → a ≡ b → xs ≡ ys → a ∷ xs ≡ b ∷ ys
cons_same a b xs ys head tail = cc

-- ---- texts with no line feed

pub one_nil : IsOneLine []
one_nil = λ found. Contains-nil newline found

pub one_cons : (b : ℕ) (bs : List ℕ) → (b ≡ newline → ⊥) → IsOneLine bs → IsOneLine (b ∷ bs)
one_cons b bs other rest = λ found. ⊎_elim other rest (Contains-cons_cases b newline bs found)

pub one_tail : (b : ℕ) (bs : List ℕ) → IsOneLine (b ∷ bs) → IsOneLine bs
one_tail b bs one = λ found. one (Contains-cons b newline bs found)

pub one_head : (b : ℕ) (bs : List ℕ) → IsOneLine (b ∷ bs) → b ≡ newline → ⊥
one_head b bs one is = one (subst (λ (x : ℕ). Contains (b ∷ bs) x) is (Contains-head b bs))

pub one_append : (a b : List ℕ) → IsOneLine a → IsOneLine b → IsOneLine (a ++ b)
one_append [] b one_a one_b = one_b
one_append (c ∷ a) b one_a one_b = one_cons c (a ++ b) (one_head c a one_a) (one_append a b (one_tail c a one_a) one_b)

pub one_front : (a b : List ℕ) → IsOneLine (a ++ b) → IsOneLine a
one_front [] b one = one_nil
one_front (c ∷ a) b one = one_cons c a (one_head c (a ++ b) one) (one_front a b (one_tail c (a ++ b) one))

pub not_one : (a b : List ℕ) → IsOneLine (a ++ newline ∷ b) → ⊥
not_one [] b one = one_head newline b one refl
not_one (c ∷ a) b one = not_one a b (one_tail c (a ++ newline ∷ b) one)

-- ---- the first line feed

-- a text is cut at its first line feed in one way
pub same_line : (a b x y : List ℕ) → IsOneLine a → IsOneLine b → a ++ newline ∷ x ≡ b ++ newline ∷ y → (a ≡ b) × (x ≡ y)
same_line [] [] x y one_a one_b e = (refl, tail_same newline newline x y e)
same_line [] (c ∷ b) x y one_a one_b e = absurd (one_head c b one_b (sym (head_same newline c x (b ++ newline ∷ y) e)))
same_line (c ∷ a) [] x y one_a one_b e = absurd (one_head c a one_a (head_same c newline (a ++ newline ∷ x) y e))
same_line (c ∷ a) (d ∷ b) x y one_a one_b e =
    let rest = same_line a b x y (one_tail c a one_a) (one_tail d b one_b) (tail_same c d (a ++ newline ∷ x) (b ++ newline ∷ y) e) in
    (cons_same c d a b (head_same c d (a ++ newline ∷ x) (b ++ newline ∷ y) e) rest.0, rest.1)

pub not_empty : (a b : List ℕ) → a ++ newline ∷ b ≡ [] → ⊥
not_empty [] b e = cc
not_empty (c ∷ a) b e = cc

-- ---- the place of the first line feed

one_from : (bytes : List ℕ) → ((k : ℕ) → k < length bytes → get_or bytes k 0 ≡ newline → ⊥) → IsOneLine bytes
one_from [] none = one_nil
one_from (b ∷ bs) none = one_cons b bs (none 0 (omega arith)) (one_from bs (λ k lt. none (suc k) (omega arith)))

pub first_feed : (bytes : List ℕ) (r : Option ℕ) → IsFirstByte (is_byte newline) bytes r → MatchOption r (IsOneLine bytes) (IsLineOf bytes)
first_feed bytes None nowhere = one_from bytes (λ k lt is. nowhere k (omega arith) lt (eq-eqb (get_or bytes k 0) newline is))
first_feed bytes (Some n) found =
    let short : n < length bytes = found.0.high in
    let next : suc n ≡ n + 1 = omega arith in
    let feed : get_or bytes n 0 ≡ newline = eqb-true (get_or bytes n 0) newline found.1 in
    record {
      short = short;
      line = record {
        one = one_from (take n bytes) (λ k lt is.
            let here : k < n = omega (arith, length-take-le n bytes (omega arith)) in
            found.0.before k (omega arith) here (eq-eqb (get_or bytes k 0) newline (sym (get_or-take n bytes k 0 here) ∙ is)));
        is = sym (take-append-drop n bytes) ∙ ap (λ (t : List ℕ). take n bytes ++ t) (drop-cons bytes n 0 short ∙ ap (λ (b : ℕ). b ∷ drop (suc n) bytes) feed ∙ ap (λ (m : ℕ). newline ∷ drop m bytes) next);
      };
    }

-- ---- the last line feed

pub nil_right : (a b : List ℕ) → a ++ b ≡ [] → b ≡ []
nil_right [] b e = e
nil_right (c ∷ a) b e = cc

-- bytes that end with a line feed, and with a text that has none: this text is empty
pub ends_one : (a text front : List ℕ) → IsOneLine text → a ++ text ≡ front ++ newline ∷ [] → text ≡ []
ends_one [] text front one e = absurd (not_one front [] (subst (λ (t : List ℕ). IsOneLine t) e one))
ends_one (c ∷ a) text [] one e = nil_right a text (tail_same c newline (a ++ text) [] e)
ends_one (c ∷ a) text (d ∷ front) one e = ends_one a text front one (tail_same c d (a ++ text) (front ++ newline ∷ []) e)

-- bytes, cut behind their last line feed
pub record LastCut (bytes : List ℕ) : Type 0 where
  pub before : List ℕ
  pub text : List ℕ
  pub is : bytes ≡ before ++ text
  pub whole : IsWholeLines before
  pub one : IsOneLine text

behind_feed : (b : ℕ) (bs before text : List ℕ) → bs ≡ before ++ text → before ≡ [] → IsOneLine text → (b ≡ newline) ⊎ (b ≡ newline → ⊥) → LastCut (b ∷ bs)
behind_feed b bs before text is none one (inl feed) = record {
  before = newline ∷ [];
  text = text;
  is = cons_same b newline bs text feed (is ∙ ap (λ (t : List ℕ). t ++ text) none);
  whole = inr ([], refl);
  one = one;
}
behind_feed b bs before text is none one (inr other) = record {
  before = [];
  text = b ∷ text;
  is = cons_same b b bs text refl (is ∙ ap (λ (t : List ℕ). t ++ text) none);
  whole = inl refl;
  one = one_cons b text other one;
}

cut_more : (b : ℕ) (bs before text : List ℕ) → bs ≡ before ++ text → IsWholeLines before → IsOneLine text → LastCut (b ∷ bs)
cut_more b bs before text is (inl none) one = behind_feed b bs before text is none one (cases_eq b newline)
cut_more b bs before text is (inr front) one = record {
  before = b ∷ before;
  text = text;
  is = cons_same b b bs (before ++ text) refl is;
  whole = inr (b ∷ front.0, cons_same b b before (front.0 ++ newline ∷ []) refl front.1);
  one = one;
}

pub cut_last : (bytes : List ℕ) → LastCut bytes
cut_last [] = record { before = []; text = []; is = refl; whole = inl refl; one = one_nil }
cut_last (b ∷ bs) = let cut = cut_last bs in cut_more b bs cut.before cut.text cut.is cut.whole cut.one

-- whole lines, one after another
pub whole_append : (a b : List ℕ) → IsWholeLines a → IsWholeLines b → IsWholeLines (a ++ b)
whole_append a b whole_a (inr front) = inr (a ++ front.0, ap (λ (t : List ℕ). a ++ t) front.1 ∙ sym (append_assoc a front.0 (newline ∷ [])))
whole_append a b (inl none) (inl empty) = inl (ap (λ (t : List ℕ). t ++ b) none ∙ empty)
whole_append a b (inr front) (inl empty) = inr (front.0, ap (λ (t : List ℕ). a ++ t) empty ∙ append-nil a ∙ front.1)

-- ---- how many line feeds there are

pub newlines-append : (a b : List ℕ) → newlines (a ++ b) ≡ newlines a + newlines b
newlines-append a b = sum_by-append (λ (c : ℕ). cond (c == newline) 1 0) a b

pub newlines-one : (text : List ℕ) → IsOneLine text → newlines text ≡ 0
newlines-one [] one = refl
newlines-one (b ∷ bs) one =
    let test : (b == newline) ≡ false = ne_eqb b newline (one_head b bs one) in
    let first : cond {A = ℕ} (b == newline) 1 0 ≡ 0 = cond-false {A = ℕ} (b == newline) 1 0 test in
    let rest : newlines bs ≡ 0 = newlines-one bs (one_tail b bs one) in
    let sum : newlines (b ∷ bs) ≡ cond {A = ℕ} (b == newline) 1 0 + newlines bs = sum_by-cons (λ (c : ℕ). cond {A = ℕ} (c == newline) 1 0) b bs in
    omega arith
