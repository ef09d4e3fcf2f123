-- The denial of a bound, put to the literals.
use Rattle.std.proofs.Common.{◌≡◌, ◌≢◌, ◌⊎◌, inl, inr, ⊎_elim, ℕ, ◌<◌, ◌==◌, Bool, true, false, not, List, [], ◌∷◌, ◌++◌, length, get_or, ap, sym, subst, ◌∙◌, eq-eqb}
use Rattle.std.specs.List.{Contains, list_any}
use Rattle.std.proofs.Math.Bool.{beq}
use Rattle.std.proofs.lemmas.Bool.{cases_Bool, and_from}
use Rattle.std.proofs.lemmas.List.Elements.{Contains-append_left, Contains-append_right, Contains-append_cases}
use Rattle.std.proofs.lemmas.List.Folds.{list_any_at}
use Rattle.std.proofs.lemmas.List.Quantifiers.{all_pairs_push}
use Rattle.scut_base.specs.Literal.{Literal, is_same}
use Rattle.scut_base.proofs.Lists.{Contains-cons_cases, Contains-head, Contains-nil}
use Rattle.pb_lin.specs.Constraint.{opposite}
use Rattle.totalizer.specs.declared.bound.Bound.TheVariants.{At}
use Rattle.relaxations.specs.Questions.{AddsDenial}

-- a literal that isn't found among others is none of them
abbrev pub IsAbsent : List Literal → Literal → Type 0
IsAbsent lits l = list_any (λ m. is_same m l) lits ≡ false

none_same : (lits : List Literal) (l : Literal) → IsAbsent lits l → (k : ℕ) (d : Literal) → k < length lits
    → is_same (get_or lits k d) l ≡ false
none_same lits l absent k d short = ⊎_elim
    (λ (same : is_same (get_or lits k d) l ≡ true).
    let found : list_any (λ m. is_same m l) lits ≡ true = list_any_at (λ m. is_same m l) lits k d short same in cc)
    (λ (other : is_same (get_or lits k d) l ≡ false). other)
    (cases_Bool (is_same (get_or lits k d) l))

-- of two signs that differ every sign is one
one_sign : (a b : Bool) → beq a b ≡ false → beq a (not b) ≡ false → ⊥
one_sign true true first second = cc
one_sign true false first second = cc
one_sign false true first second = cc
one_sign false false first second = cc

-- a literal that is neither of two opposites has another variable
sign_differs : (m l : Literal) → m.var ≡ l.var → is_same m l ≡ false → beq m.neg l.neg ≡ false
sign_differs m l same other = ⊎_elim
    (λ (signs : beq m.neg l.neg ≡ true).
    let is : is_same m l ≡ true = and_from (m.var == l.var) (beq m.neg l.neg) (eq-eqb m.var l.var same) signs in cc)
    (λ (signs : beq m.neg l.neg ≡ false). signs)
    (cases_Bool (beq m.neg l.neg))

other_variable : (m l : Literal) → is_same m l ≡ false → is_same m (opposite l) ≡ false → m.var ≢ l.var
other_variable m l first second same =
    one_sign m.neg l.neg (sign_differs m l same first) (sign_differs m (opposite l) same second)

-- the denial is put to literals among which it and its opposite aren't
module _ (lits : List Literal) (l : Literal) (id : ℕ)
    (absent : IsAbsent lits l) (new : IsAbsent lits (opposite l)) where
  only_more : (m : Literal) → Contains (lits ++ opposite l ∷ []) m → Contains lits m ⊎ (m ≡ opposite l)
  only_more m there = ⊎_elim
      (λ (before : Contains lits m). inl before)
      (λ (last : Contains (opposite l ∷ []) m). ⊎_elim
      (λ (is : opposite l ≡ m). inr (sym is))
      (λ (never : Contains [] m). absurd (Contains-nil m never))
      (Contains-cons_cases (opposite l) m [] last))
      (Contains-append_cases lits (opposite l ∷ []) m there)

  other : (k : ℕ) (d : Literal) → k < length lits → (get_or lits k d).var ≢ l.var
  other k d short =
      other_variable (get_or lits k d) l (none_same lits l absent k d short) (none_same lits (opposite l) new k d short)

  pub adds_denial : AddsDenial lits (lits ++ opposite l ∷ []) (At l id)
  adds_denial = record {
    out = Contains-append_right lits (opposite l ∷ []) (opposite l) (Contains-head (opposite l) []);
    stay = λ m there. Contains-append_left lits (opposite l ∷ []) m there;
    only = only_more;
    apart = λ apart. all_pairs_push (λ l m. l.var ≢ m.var) lits (opposite l) apart other;
  }

-- ---- as code has them

pub opposite_is : (m l : Literal) → m.var ≡ l.var → m.neg ≡ not l.neg → m ≡ opposite l
opposite_is m l var neg =
    ap (λ (n : ℕ). record { var = n; neg = m.neg }) var ∙ ap (λ (b : Bool). record { var = l.var; neg = b }) neg

pub absent_from : (slice lits : List Literal) (m l : Literal) (found : Bool) → slice ≡ lits → m ≡ l
    → found ≡ list_any (λ k. is_same k m) slice → found ≡ false → IsAbsent lits l
absent_from slice lits m l found same is value none =
    subst (λ (k : Literal). IsAbsent lits k) is
    (subst (λ (ls : List Literal). IsAbsent ls m) same (sym value ∙ none))
