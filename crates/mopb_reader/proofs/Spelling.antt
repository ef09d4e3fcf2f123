-- What the tokens that were taken spell.
use Rattle.std.proofs.Common.{◌≡◌, ◌≢◌, ℕ, ◌+◌, ◌<◌, ◌≤◌, ◌^◌, Bool, true, false, max, List, [], ◌∷◌, ◌++◌, length, Option, Some, None, inl, inr, refl, sym, ap, ◌∙◌, subst, ℤ, to_z, of_z, arith}
use Rattle.std.specs.Prelude.{unsigned_abs}
use Rattle.std.proofs.lemmas.Int.{ints}
use Rattle.std.specs.Int.{w64}
use Rattle.std.proofs.lemmas.Bool.{cases_Bool}
use Rattle.std.proofs.lemmas.List.Sums.{sum_by_push}
use Rattle.instance.specs.Shape.{terms_magnitude}
use Rattle.instance.specs.declared.row.Linear.{Linear}
use Rattle.instance.specs.declared.row.Rel.{Rel}
use Rattle.scut_base.specs.Literal.{Literal as Lit}
use Rattle.scut_base.specs.Number.{signed_value}
use Rattle.mopb_reader.specs.Tokens.{plain}
use Rattle.mopb_reader.specs.Grammar.{Term, term_of, FurtherTerms, TermsThen, BoundThen, RowThen, largest_of, EndThen}
use Rattle.mopb_reader.specs.Streams.{Stream, ahead, begins_term, begins_literal}
use Rattle.mopb_reader.specs.Steps.{IsLeft, IsAhead, BeginsWithTerm, BeginsUnsigned, BeginsWithBound}
use Rattle.mopb_reader.specs.declared.token.Token.{Token}
use Rattle.mopb_reader.specs.declared.token.Token.TheVariants.{Sign, Number, Literal, Relation, Semicolon}

-- ---- one term

pub term_is : (minus : Bool) (n : ℕ) (t : Term) (l : Lit) → t.0 ≡ signed_value minus n → t.1 ≡ l → t ≡ term_of minus n l.var l.neg
term_is minus n t l coefficient lit = ap (λ x. (x, t.1)) coefficient ∙ ap (λ x. (signed_value minus n, x)) lit

-- digits and a literal
pub unsigned_digits : (minus : Bool) (n : ℕ) (first next : Option Token) (t : Term) (l : Lit) (old new : Stream)
    → first ≡ Some (Number (Some n)) → plain old.left ≡ ahead next new → next ≡ Some (Literal (Some l.var) l.neg)
    → t ≡ term_of minus n l.var l.neg → BeginsUnsigned minus first old new t
unsigned_digits minus n first next t l old new is_number left is_literal is =
    let front : ahead first old ≡ Number (Some n) ∷ Literal (Some l.var) l.neg ∷ plain new.left =
    ap (λ f. ahead f old) is_number ∙ ap (λ ts. Number (Some n) ∷ ts) (left ∙ ap (λ f. ahead f new) is_literal) in
    subst (λ (ts : List Token). FurtherTerms (IsLeft new) (Sign minus ∷ ts) (t ∷ [])) (sym front) (is, refl)

-- a literal by itself
pub unsigned_lone : (minus : Bool) (n : ℕ) (first : Option Token) (t : Term) (l : Lit) (old : Stream)
    → first ≡ Some (Literal (Some l.var) l.neg) → Some 1 ≡ Some n → t ≡ term_of minus n l.var l.neg → BeginsUnsigned minus first old old t
unsigned_lone minus n first t l old is_literal one is =
    let same : n ≡ 1 = cc in
    subst (λ (ts : List Token). FurtherTerms (IsLeft old) (Sign minus ∷ ts) (t ∷ [])) (sym (ap (λ f. ahead f old) is_literal))
    (is ∙ ap (λ k. term_of minus k l.var l.neg) same, refl)

pub term_signed : (first next : Option Token) (minus : Bool) (old middle new : Stream) (t : Term) → first ≡ Some (Sign minus)
    → plain old.left ≡ ahead next middle → BeginsUnsigned minus next middle new t → BeginsWithTerm first old new t
term_signed first next minus old middle new t is_sign left unsigned =
    subst (λ (ts : List Token). TermsThen (IsLeft new) ts (t ∷ []))
    (sym (ap (λ f. ahead f old) is_sign ∙ ap (λ ts. Sign minus ∷ ts) left)) unsigned

-- a missing sign is a plus
unsigned_bare : (P : List Token → Type 0) (tokens : List Token) (t : Term) (terms : List Term)
    → FurtherTerms P (Sign false ∷ tokens) (t ∷ terms) → TermsThen P tokens (t ∷ terms)
unsigned_bare P (Literal (Some v) neg ∷ tokens) t terms is = is
unsigned_bare P (Number (Some n) ∷ Literal (Some v) neg ∷ tokens) t terms is = is
unsigned_bare P tokens t terms is = absurd is

pub term_bare : (first : Option Token) (old new : Stream) (t : Term) → BeginsUnsigned false first old new t → BeginsWithTerm first old new t
term_bare first old new t unsigned = unsigned_bare (IsLeft new) (ahead first old) t [] unsigned

-- ---- terms

-- where the first of further terms has a sign or digits, it may be the first of all
pub may_be_first : (P : List Token → Type 0) (tokens : List Token) (terms : List Term) → FurtherTerms P tokens terms → TermsThen P tokens terms
may_be_first P tokens [] is = is
may_be_first P (Number n ∷ tokens) (t ∷ terms) is = is
may_be_first P (Sign minus ∷ tokens) (t ∷ terms) is = is
may_be_first P tokens (t ∷ terms) is = absurd is

-- what follows may be said otherwise
further_map : (S P : List Token → Type 0) → ((tokens : List Token) → S tokens → P tokens) → (tokens : List Token) (terms : List Term)
    → FurtherTerms S tokens terms → FurtherTerms P tokens terms
further_map S P more tokens [] is = more tokens is
further_map S P more (Number (Some n) ∷ Literal (Some v) neg ∷ tokens) (t ∷ terms) is = (is.0, further_map S P more tokens terms is.1)
further_map S P more (Sign minus ∷ Literal (Some v) neg ∷ tokens) (t ∷ terms) is = (is.0, further_map S P more tokens terms is.1)
further_map S P more (Sign minus ∷ Number (Some n) ∷ Literal (Some v) neg ∷ tokens) (t ∷ terms) is =
    (is.0, further_map S P more tokens terms is.1)
further_map S P more tokens (t ∷ terms) is = absurd is

pub terms_map : (S P : List Token → Type 0) → ((tokens : List Token) → S tokens → P tokens) → (tokens : List Token) (terms : List Term)
    → TermsThen S tokens terms → TermsThen P tokens terms
terms_map S P more tokens [] is = more tokens is
terms_map S P more (Literal (Some v) neg ∷ tokens) (t ∷ terms) is = (is.0, further_map S P more tokens terms is.1)
terms_map S P more tokens (t ∷ terms) is = may_be_first P tokens (t ∷ terms) (further_map S P more tokens (t ∷ terms) is)

-- a term more at the end
abbrev Are : List Token → List Token → Type 0
Are now tokens = tokens ≡ now

further_push : (P : List Token → Type 0) (now tokens : List Token) (items : List Term) (t : Term)
    → FurtherTerms (Are now) tokens items → FurtherTerms P now (t ∷ []) → FurtherTerms P tokens (items ++ t ∷ [])
further_push P now tokens [] t is one = subst (λ (ts : List Token). FurtherTerms P ts (t ∷ [])) (sym is) one
further_push P now (Number (Some n) ∷ Literal (Some v) neg ∷ tokens) (item ∷ items) t is one = (is.0, further_push P now tokens items t is.1 one)
further_push P now (Sign minus ∷ Literal (Some v) neg ∷ tokens) (item ∷ items) t is one = (is.0, further_push P now tokens items t is.1 one)
further_push P now (Sign minus ∷ Number (Some n) ∷ Literal (Some v) neg ∷ tokens) (item ∷ items) t is one =
    (is.0, further_push P now tokens items t is.1 one)
further_push P now tokens (item ∷ items) t is one = absurd is

terms_push : (P : List Token → Type 0) (now tokens : List Token) (items : List Term) (t : Term) → TermsThen (Are now) tokens items
    → TermsThen P now (t ∷ []) → (items ≢ [] → FurtherTerms P now (t ∷ [])) → TermsThen P tokens (items ++ t ∷ [])
terms_push P now tokens [] t is one more = subst (λ (ts : List Token). TermsThen P ts (t ∷ [])) (sym is) one
terms_push P now (Literal (Some v) neg ∷ tokens) (item ∷ items) t is one more =
    (is.0, further_push P now tokens items t is.1 (more (λ e. absurd cc)))
terms_push P now tokens (item ∷ items) t is one more =
    may_be_first P tokens (item ∷ items ++ t ∷ []) (further_push P now tokens (item ∷ items) t is (more (λ e. absurd cc)))

-- a term that begins with no literal may follow another
not_lone : (P : List Token → Type 0) (first : Option Token) (s : Stream) (t : Term) → begins_term first ≡ true → begins_literal first ≡ false
    → TermsThen P (ahead first s) (t ∷ []) → FurtherTerms P (ahead first s) (t ∷ [])
not_lone P None s t begins other is = absurd cc
not_lone P (Some (Literal v neg)) s t begins other is = absurd cc
not_lone P (Some token) s t begins other is = is

not_literal : (first : Option Token) (items : List Term) → (begins_literal first ≡ true → items ≡ []) → items ≢ [] → begins_literal first ≡ false
not_literal first items none some = elim (cases_Bool (begins_literal first)) [ inl e ↦ absurd (some (none e)) | inr e ↦ e ]

pub more_terms : (first next further : Option Token) (items : List Term) (t : Term) (start old middle new : Stream)
    → TermsThen (IsAhead next old) (ahead first start) items → begins_term next ≡ true → (begins_literal next ≡ true → items ≡ [])
    → BeginsWithTerm next old middle t → plain middle.left ≡ ahead further new
    → TermsThen (IsAhead further new) (ahead first start) (items ++ t ∷ [])
more_terms first next further items t start old middle new so_far begins none read left =
    let one = terms_map (IsLeft middle) (IsAhead further new) (λ ts is. is ∙ left) (ahead next old) (t ∷ []) read in
    terms_push (IsAhead further new) (ahead next old) (ahead first start) items t so_far one
    (λ some. not_lone (IsAhead further new) next old t begins (not_literal next items none some) one)

-- sums with one term more
pub largest_push : (items : List Term) (t : Term) → largest_of (items ++ t ∷ []) ≡ max (largest_of items) t.1.var
largest_push [] t = omega arith
largest_push (item ∷ items) t = omega (arith, largest_push items t)

pub magnitude_push : (items : List Term) (t : Term) → terms_magnitude (items ++ t ∷ []) ≡ terms_magnitude items + unsigned_abs t.0
magnitude_push items t = sum_by_push (λ x. unsigned_abs x.0) items t

-- a number that was passed on
pub same_number : (x : ℤ) → unsigned_abs x < 2 ^ 63 → to_z w64 (of_z w64 x) ≡ x
same_number x small = omega (arith, ints)

-- how many tokens are left, with the one that was taken
abbrev pub count_left : Option Token → Stream → ℕ
count_left None s = length (plain s.left)
count_left (Some token) s = length (plain s.left) + 1

pub taken_fewer : (next : Option Token) (old new : Stream) → plain old.left ≡ ahead next new → length (plain new.left) ≤ length (plain old.left)
taken_fewer None old new left = omega (arith, ap length left)
taken_fewer (Some token) old new left = omega (arith, ap length left)

-- ---- statements

ended : (next : Option Token) (s : Stream) → next ≡ Some Semicolon → (tokens : List Token) → IsAhead next s tokens → EndThen (IsLeft s) tokens
ended next s e tokens is = subst (EndThen (IsLeft s)) (sym (is ∙ ap (λ f. ahead f s) e)) refl

pub objective_read : (first next : Option Token) (old start new : Stream) (items : List Term) → plain old.left ≡ ahead first start
    → TermsThen (IsAhead next new) (ahead first start) items → next ≡ Some Semicolon
    → TermsThen (EndThen (IsLeft new)) (plain old.left) items
objective_read first next old start new items left read end =
    subst (λ (ts : List Token). TermsThen (EndThen (IsLeft new)) ts items) (sym left)
    (terms_map (IsAhead next new) (EndThen (IsLeft new)) (ended next new end) (ahead first start) items read)

bound_map : (rel : Rel) (bound : ℤ) (S P : List Token → Type 0) → ((tokens : List Token) → S tokens → P tokens) → (tokens : List Token)
    → BoundThen rel bound S tokens → BoundThen rel bound P tokens
bound_map rel bound S P more (Relation r ∷ Number (Some n) ∷ tokens) is = (is.0, is.1, more tokens is.2)
bound_map rel bound S P more (Relation r ∷ Sign minus ∷ Number (Some n) ∷ tokens) is = (is.0, is.1, more tokens is.2)
bound_map rel bound S P more tokens is = absurd is

pub row_then : (row : Linear) (S P : List Token → Type 0) → ((tokens : List Token) → S tokens → P tokens) → (tokens : List Token)
    → RowThen S tokens row → RowThen P tokens row
row_then row S P more tokens is = terms_map (BoundThen row.rel row.bound S) (BoundThen row.rel row.bound P)
    (bound_map row.rel row.bound S P more) tokens row.terms is

pub row_read : (row : Linear) (first : Token) (next last : Option Token) (old middle bounded new : Stream)
    → TermsThen (IsAhead next middle) (first ∷ plain old.left) row.terms → next ≡ Some (Relation row.rel)
    → BeginsWithBound middle bounded row.bound → plain bounded.left ≡ ahead last new → last ≡ Some Semicolon
    → RowThen (EndThen (IsLeft new)) (first ∷ plain old.left) row
row_read row first next last old middle bounded new terms is_rel bound left end =
    terms_map (IsAhead next middle) (BoundThen row.rel row.bound (EndThen (IsLeft new)))
    (λ ts is. subst (BoundThen row.rel row.bound (EndThen (IsLeft new))) (sym (is ∙ ap (λ f. ahead f middle) is_rel))
    (bound_map row.rel row.bound (IsLeft bounded) (EndThen (IsLeft new)) (λ us at. ended last new end us (at ∙ left))
    (Relation row.rel ∷ plain middle.left) (bound row.rel)))
    (first ∷ plain old.left) row.terms terms

pub bound_signed : (first next : Option Token) (minus : Bool) (n : ℕ) (bound : ℤ) (old middle new : Stream)
    → plain old.left ≡ ahead first middle → first ≡ Some (Sign minus) → plain middle.left ≡ ahead next new
    → next ≡ Some (Number (Some n)) → bound ≡ signed_value minus n → BeginsWithBound old new bound
bound_signed first next minus n bound old middle new left is_sign more is_number is rel =
    let front : plain old.left ≡ Sign minus ∷ Number (Some n) ∷ plain new.left =
    left ∙ ap (λ f. ahead f middle) is_sign ∙ ap (λ ts. Sign minus ∷ ts) (more ∙ ap (λ f. ahead f new) is_number) in
    subst (λ (ts : List Token). BoundThen rel bound (IsLeft new) (Relation rel ∷ ts)) (sym front) (refl, is, refl)

pub bound_bare : (first : Option Token) (n : ℕ) (bound : ℤ) (old new : Stream) → plain old.left ≡ ahead first new
    → first ≡ Some (Number (Some n)) → bound ≡ signed_value false n → BeginsWithBound old new bound
bound_bare first n bound old new left is_number is rel =
    subst (λ (ts : List Token). BoundThen rel bound (IsLeft new) (Relation rel ∷ ts)) (sym (left ∙ ap (λ f. ahead f new) is_number)) (refl, is, refl)
