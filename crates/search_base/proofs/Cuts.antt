-- Literals put together, each once.
use Rattle.std.proofs.Common.{◌≡◌, ◌↔◌, ℕ, ◌<◌, Bool, true, false, not, List, [], ◌∷◌, ◌++◌, length, map, take, drop, get_or, refl, sym, ap, ◌∙◌, subst}
use Rattle.std.specs.Prelude.{Contains}
use Rattle.std.specs.List.Sorted.{IsPermutation}
use Rattle.std.proofs.lemmas.List.{take-append-drop}
use Rattle.std.proofs.lemmas.List.Elements.{Contains-append_left}
use Rattle.std.proofs.lemmas.List.Sorted.{Contains-permutation, IsPermutation-sym}
use Rattle.scut_base.specs.Literal.{Literal}
use Rattle.scut_base.proofs.Lists.{Contains-from_map}
use Rattle.pb_lin.specs.Constraint.{opposite}
use Rattle.instance_normal.proofs.Distinct.{put_both}
use Rattle.search_base.specs.Cutting.{AreAlike}

-- ---- opposites

pub opposite_twice : (l : Literal) → opposite (opposite l) ≡ l
opposite_twice l = ap (λ (n : Bool). let r : Literal = record { var = l.var; neg = n } in r) (twice l.neg)
  where
    twice : (b : Bool) → not (not b) ≡ b
    twice true = refl
    twice false = refl

-- literals whose opposites are alike
pub alike_opposites : (lits : List Literal) → AreAlike lits → AreAlike (map opposite lits)
alike_opposites lits alike l m l_in m_in same =
    let k = Contains-from_map opposite lits l l_in in
    let n = Contains-from_map opposite lits m m_in in
    let left : k.0.var ≡ l.var = ap (λ (x : Literal). x.var) k.2 in
    let right : n.0.var ≡ m.var = ap (λ (x : Literal). x.var) n.2 in
    let one : k.0 ≡ n.0 = alike k.0 n.0 k.1 n.1 (left ∙ same ∙ sym right) in
    sym k.2 ∙ ap opposite one ∙ n.2

pub alike_permuted : (lits sorted : List Literal) → IsPermutation lits sorted → AreAlike lits → AreAlike sorted
alike_permuted lits sorted moved alike l m l_in m_in same =
    let back = IsPermutation-sym lits sorted moved in
    alike l m (Contains-permutation sorted lits l back l_in) (Contains-permutation sorted lits m back m_in) same

-- ---- literals in order of variables

-- what has been put together of the first literals, and the next one
pub alike_next : (sorted distinct : List Literal) (i : ℕ) (l : Literal) → AreAlike sorted → i < length sorted →
    l ≡ get_or sorted i l → ((x : Literal) → Contains distinct x ↔ Contains (take i sorted) x) → (m : Literal) →
    Contains distinct m → m.var ≡ l.var → m ≡ l
alike_next sorted distinct i l alike short is same m there var =
    alike m l (within i sorted m ((same m).0 there)) (i, short, sym is) var
  where
    within : (k : ℕ) (ls : List Literal) (x : Literal) → Contains (take k ls) x → Contains ls x
    within k ls x has = subst (λ (xs : List Literal). Contains xs x) (take-append-drop k ls)
        (Contains-append_left (take k ls) (drop k ls) x has)

pub together : (new old done more : List Literal) (l : Literal) →
    ((x : Literal) → Contains new x ↔ Contains (old ++ l ∷ []) x) →
    ((x : Literal) → Contains old x ↔ Contains done x) → more ≡ done ++ l ∷ [] → (x : Literal) →
    Contains new x ↔ Contains more x
together new old done more l added same longer x =
    let both = put_both old done l same x in (
      (λ there. subst (λ (xs : List Literal). Contains xs x) (sym longer) (both.0 ((added x).0 there))),
      (λ there. (added x).1 (both.1 (subst (λ (xs : List Literal). Contains xs x) longer there))),
    )
