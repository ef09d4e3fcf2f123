-- Lines that conflict still do where more is known, and where a line more comes first.
use Rattle.std.specs.Prelude.{◌≡◌, ℕ, ◌-◌, ◌<◌, ◌≤◌, Bool, true, false, not, Option, Some, None, List, [], ◌∷◌, length, All, ℤ, pos, ◌<ℤ◌, ◌≤ℤ◌, int_lt, refl}
use Rattle.std.proofs.Common.{sym, ◌∙◌, ap, get_or, inl, inr, arith}
use Rattle.std.proofs.lemmas.Int.{ints}
use Rattle.std.proofs.lemmas.Bool.{cases_order}
use Rattle.std.proofs.lemmas.List.{get_or_default}
use Rattle.std.proofs.lemmas.List.Elements.{All-head, All-tail}
use Rattle.scut_base.specs.Literal.{Literal}
use Rattle.scut_base.specs.Assignment.{partial_truth}
use Rattle.pb_lin.specs.Constraint.{ConstraintValue, IsMerged, UpTo, slack}
use Rattle.pb_lin.specs.Propagation.{is_forced}
use Rattle.hint_rup.specs.Propagation.{forced, Conflicts}
use Rattle.hint_rup.proofs.Conflict.{conflicts_none, conflicts_here, conflicts_later, conflicts_cases}
use Rattle.cdcl_state.proofs.Rows.{forced_true, more_forced as more_known}
use Rattle.command_elaborate.proofs.Inside.{Values, IsInside, truth_inside, slack_less, false_violates, open_forced, forced_inside}

-- terms of distinct variables from 1 to n
pub record IsPlain (n : ℕ) (c : ConstraintValue) : Type 0 where
  pub merged : IsMerged c.terms
  pub upto : UpTo n c

-- a term that sets nothing else at this place
abbrev pub Agrees : ℕ → Bool → Literal × ℕ → Type 0
Agrees k b u = u.0.var - 1 ≡ k → not u.0.neg ≡ b

-- the terms of a line in normal form have different variables
pub agrees_all : (terms : List (Literal × ℕ)) (k : ℕ) (t : Literal × ℕ) → IsMerged terms → k < length terms → t ≡ get_or terms k t → All (Agrees (t.0.var - 1) (not t.0.neg)) terms
agrees_all terms k t normal within is = λ j d inside same.
    (let here : 0 < (get_or terms j d).0.var = normal.from_one j d inside in
    let there : 0 < (get_or terms k d).0.var = normal.from_one k d within in
    let at : t ≡ get_or terms k d = is ∙ get_or_default terms k t d within in
    let var : t.0.var ≡ (get_or terms k d).0.var = ap (λ (u : Literal × ℕ). u.0.var) at in
    elim (cases_order j k) [
      | inl one ↦ ap (λ (u : Literal × ℕ). not u.0.neg) (ap (λ (n : ℕ). get_or terms n d) one ∙ sym at)
      | inr two ↦ elim two [
        | inl before ↦ absurd (let h : (get_or terms j d).0.var < (get_or terms k d).0.var = normal.rising j k d before within in omega arith)
        | inr after ↦ absurd (let h : (get_or terms k d).0.var < (get_or terms j d).0.var = normal.rising k j d after inside in omega arith)
      ]
    ])

pub more_forced : (p : Values) (c : ConstraintValue) → IsInside p (forced p c)
more_forced p c = record { at = (more_known p c).kept }

pub length_forced : (p : Values) (c : ConstraintValue) → length (forced p c) ≡ length p
length_forced p c = (more_known p c).as_long

-- ---- more is known

inside_trans : (p q r : Values) → IsInside p q → IsInside q r → IsInside p r
inside_trans p q r first second = record { at = λ k b is. second.at k b (first.at k b is) }

not_below : (x : ℤ) → int_lt x (pos 0) ≡ false → x <ℤ pos 0 → ⊥
not_below x test below = grind (arith, ints)

below : (x : ℤ) → int_lt x (pos 0) ≡ true → x <ℤ pos 0
below x test = grind (arith, ints)

module _ (n : ℕ) (p q : Values) (inside : IsInside p q) (c : ConstraintValue) (within : IsPlain n c) (long : n ≤ length q) (kept : slack q c <ℤ pos 0 → ⊥) where
  becomes_true : (k : ℕ) (d : Literal × ℕ) → k < length c.terms → is_forced p c (get_or c.terms k d) ≡ true → partial_truth (forced q c) (get_or c.terms k d).0 ≡ Some true
  becomes_true k d short is = by_truth (partial_truth q (get_or c.terms k d).0) refl
    where
      by_truth : (o : Option Bool) → partial_truth q (get_or c.terms k d).0 ≡ o → partial_truth (forced q c) (get_or c.terms k d).0 ≡ Some true
      by_truth (Some true) now = truth_inside q (forced q c) (more_forced q c) (get_or c.terms k d).0 true now
      by_truth None now =
          let upto : (get_or c.terms k d).0.var ≤ n = within.upto k d short in
          let from_one : 0 < (get_or c.terms k d).0.var = within.merged.from_one k d short in
          let room : (get_or c.terms k d).0.var - 1 < length q = omega arith in
          forced_true q c k (get_or c.terms k d) within.merged short (get_or_default c.terms k d (get_or c.terms k d) short) room (open_forced p q inside c (get_or c.terms k d) is now)
      by_truth (Some false) now = absurd (kept (false_violates p q inside c k d short is now))

  forced_grown : IsInside (forced p c) (forced q c)
  forced_grown = forced_inside p (forced q c) c (inside_trans p q (forced q c) inside (more_forced q c)) becomes_true

-- lines that conflict still do where more is known
pub conflicts_grown : (n : ℕ) (p q : Values) (cs : List ConstraintValue) → All (IsPlain n) cs → n ≤ length q → IsInside p q → Conflicts p cs → Conflicts q cs
conflicts_grown n p q [] within long inside found = absurd (conflicts_none p found)
conflicts_grown n p q (c ∷ cs) within long inside found = by_test (int_lt (slack q c) (pos 0)) refl
    (λ kept later. conflicts_grown n (forced p c) (forced q c) cs (All-tail (IsPlain n) c cs within) (omega (arith, length_forced q c))
    (forced_grown n p q inside c (All-head (IsPlain n) c cs within) long kept) later)
  where
    by_test : (b : Bool) → int_lt (slack q c) (pos 0) ≡ b → ((slack q c <ℤ pos 0 → ⊥) → Conflicts (forced p c) cs → Conflicts (forced q c) cs) → Conflicts q (c ∷ cs)
    by_test true test rest = conflicts_here q c cs (below (slack q c) test)
    by_test false test rest =
        let kept : slack q c <ℤ pos 0 → ⊥ = not_below (slack q c) test in
        elim (conflicts_cases p c cs found) [
          | inl violated ↦ absurd (let less : slack q c ≤ℤ slack p c = slack_less p q inside c in kept (omega (arith, ints)))
          | inr later ↦ conflicts_later q c cs (rest kept later)
        ]

-- and where a line more comes first
pub conflicts_after : (n : ℕ) (p : Values) (c : ConstraintValue) (cs : List ConstraintValue) → All (IsPlain n) cs → n ≤ length p → Conflicts p cs → Conflicts p (c ∷ cs)
conflicts_after n p c cs within long found = by_test (int_lt (slack p c) (pos 0)) refl
  where
    by_test : (b : Bool) → int_lt (slack p c) (pos 0) ≡ b → Conflicts p (c ∷ cs)
    by_test true test = conflicts_here p c cs (below (slack p c) test)
    by_test false test = conflicts_later p c cs (conflicts_grown n p (forced p c) cs within (omega (arith, length_forced p c)) (more_forced p c) found)
