-- Names that begin with a base and a dot.
use Rattle.std.specs.Prelude.{◌≡◌, ◌≢◌, ℕ, ◌+◌, Bool, true, false, List, [], ◌∷◌, ◌++◌, length, take, drop, nat_eq, Option, Some, None, MatchOption, refl}
use Rattle.std.specs.Borrow.{Bor}
use Rattle.std.specs.Cmp.Lexicographic.{pointwise}
use Rattle.std.specs.List.{starts_with}
use Rattle.std.proofs.Common.{sym, ◌∙◌, ap, subst}
use Rattle.std.proofs.lemmas.Bool.Decides.{Decides-eqb}
use Rattle.std.proofs.lemmas.List.{append_assoc, append_cancel_left}
use Rattle.std.proofs.lemmas.Slice.Eq.{starts_is, strip_prefix_is}

-- tests that are true in the same cases
same_tests : (x y : Bool) → (x ≡ true → y ≡ true) → (y ≡ true → x ≡ true) → x ≡ y
same_tests true y one two = sym (one refl)
same_tests false true one two = two refl
same_tests false false one two = refl

-- what follows the base begins with the dot, or not
pub rest_begins : (base dot name rest : List ℕ) (r : Bool) → name ≡ base ++ rest → r ≡ starts_with nat_eq rest dot → r ≡ starts_with nat_eq name (base ++ dot)
rest_begins base dot name rest r is by =
    let of_rest = starts_is Decides-eqb rest dot r by in
    let of_name = starts_is Decides-eqb name (base ++ dot) (starts_with nat_eq name (base ++ dot)) refl in
    same_tests r (starts_with nat_eq name (base ++ dot))
    (λ yes. of_name.1 _ (is ∙ ap (λ (xs : List ℕ). base ++ xs) (of_rest.0 yes) ∙ sym (append_assoc base dot _)))
    (λ yes. of_rest.1 _ (append_cancel_left base rest _ (sym is ∙ of_name.0 yes ∙ append_assoc base dot _)))

-- another beginning
pub none_begins : (base dot name : List ℕ) → ((rest : List ℕ) → name ≢ base ++ rest) → false ≡ starts_with nat_eq name (base ++ dot)
none_begins base dot name other =
    let of_name = starts_is Decides-eqb name (base ++ dot) (starts_with nat_eq name (base ++ dot)) refl in
    same_tests false (starts_with nat_eq name (base ++ dot))
    (λ yes. absurd cc)
    (λ yes. absurd (other _ (of_name.0 yes ∙ append_assoc base dot _)))

-- ---- what stripping the base answers

abbrev Strips : List ℕ → List ℕ → Option (Bor (List ℕ)) → Type 0
Strips s p r = MatchOption r (pointwise nat_eq (take (length p) s) p ≡ false) (λ x. (pointwise nat_eq (take (length p) s) p ≡ true) × (x.now ≡ drop (length p) s) × (length x.now + length p ≡ length s))

pub found_rest : (name base s p : List ℕ) (r : Option (Bor (List ℕ))) (x : Bor (List ℕ)) → s ≡ name → p ≡ base → r ≡ Some x → Strips s p r → name ≡ base ++ x.now
found_rest name base s p r x is_name is_base is strips =
    let found = strip_prefix_is Decides-eqb s p r strips in
    let here : s ≡ p ++ x.now = subst (λ (o : Option (Bor (List ℕ))). MatchOption o ((rest : List ℕ) → s ≢ p ++ rest) (λ y. s ≡ p ++ y.now)) is found in
    sym is_name ∙ here ∙ ap (λ (xs : List ℕ). xs ++ x.now) is_base

pub no_rest : (name base s p : List ℕ) (r : Option (Bor (List ℕ))) → s ≡ name → p ≡ base → r ≡ None → Strips s p r → (rest : List ℕ) → name ≢ base ++ rest
no_rest name base s p r is_name is_base is strips rest same =
    let found = strip_prefix_is Decides-eqb s p r strips in
    let none : (rest : List ℕ) → s ≢ p ++ rest = subst (λ (o : Option (Bor (List ℕ))). MatchOption o ((rest : List ℕ) → s ≢ p ++ rest) (λ y. s ≡ p ++ y.now)) is found in
    none rest (is_name ∙ same ∙ ap (λ (xs : List ℕ). xs ++ rest) (sym is_base))
