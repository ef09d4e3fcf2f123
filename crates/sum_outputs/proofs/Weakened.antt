-- What is left of a sum of constraints where some variables are weakened.
use Rattle.std.proofs.Common.{◌≡◌, ℕ, ◌+◌, ◌<◌, ◌≤◌, Bool, true, false, not, List, get_or, refl, arith}
use Rattle.std.specs.List.{All, AllPairs, filter}
use Rattle.std.proofs.lemmas.List.Elements.{All-filter}
use Rattle.std.proofs.lemmas.List.Filters.{sum_by-filter_both}
use Rattle.std.proofs.lemmas.List.Kept.{AllPairs-filter}
use Rattle.scut_base.proofs.Lists.{all_filter_if}
use Rattle.scut_base.specs.Assignment.{value_of}
use Rattle.pb_lin.specs.Constraint.{term_value, total, value}
use Rattle.cutting_planes.proofs.Terms.{Terms}
use Rattle.proof_laws.proofs.Semantics.{AreWithin}
use Rattle.sum_outputs.proofs.Glue.{glued, glued_outside, value_inside, value_outside, apart_from_rising, none_true, all_true, value-le-total}

-- the terms of the variables inside, and of all others
abbrev pub terms_inside : (ℕ → Bool) → Terms → Terms
terms_inside inside terms = filter (λ t. inside t.0.var) terms

abbrev pub terms_outside : (ℕ → Bool) → Terms → Terms
terms_outside inside terms = filter (λ t. not (inside t.0.var)) terms

not_true : (b : Bool) → not b ≡ true → b ≡ false
not_true true e = cc
not_true false e = refl

-- the assignments are the same on the variables up to n that aren't inside
abbrev pub AgreeOutside : ℕ → (ℕ → Bool) → List Bool → List Bool → Type 0
AgreeOutside n inside x y = (v : ℕ) → 0 < v → v ≤ n → inside v ≡ false → value_of x v ≡ value_of y v

-- Terms whose values, and an amount, are those of a function of the variables outside, of terms inside, and another amount.
pub record IsSplit (n : ℕ) (inside : ℕ → Bool) (r : Terms) (c : ℕ) (rest : List Bool → ℕ) (f : Terms) (d : ℕ) : Type 0 where
  pub within : AreWithin n r
  pub rising : AllPairs (λ s t. s.0.var < t.0.var) r
  pub inner_within : AreWithin n f
  pub inner : All (λ t. inside t.0.var ≡ true) f
  pub local : (x y : List Bool) → AgreeOutside n inside x y → rest x ≡ rest y
  pub same : (x : List Bool) → value x r + c ≡ rest x + (value x f + d)
  pub zero : (x : List Bool) × (rest x ≡ 0)
  pub full : (x : List Bool) × (value x f ≡ total f)

module _ (n : ℕ) (inside : ℕ → Bool) (r : Terms) (c : ℕ) (rest : List Bool → ℕ) (f : Terms) (d : ℕ) (split : IsSplit n inside r c rest f d) where
  abbrev keep : Terms
  keep = terms_outside inside r

  abbrev gone : Terms
  gone = terms_inside inside r

  both : (x : List Bool) → value x gone + value x keep ≡ value x r
  both x = sum_by-filter_both (λ t. inside t.0.var) (λ t. not (inside t.0.var)) (λ t. refl) (term_value x) r

  keep_within : AreWithin n keep
  keep_within = All-filter (λ t. not (inside t.0.var)) (λ t. (0 < t.0.var) × (t.0.var ≤ n)) r split.within

  gone_within : AreWithin n gone
  gone_within = All-filter (λ t. inside t.0.var) (λ t. (0 < t.0.var) × (t.0.var ≤ n)) r split.within

  keep_outside : All (λ t. inside t.0.var ≡ false) keep
  keep_outside = all_filter_if (λ t. inside t.0.var ≡ false) (λ t. not (inside t.0.var)) r (λ k e short is. not_true (inside (get_or r k e).0.var) is)

  gone_inside : All (λ t. inside t.0.var ≡ true) gone
  gone_inside = all_filter_if (λ t. inside t.0.var ≡ true) (λ t. inside t.0.var) r (λ k e short is. is)

  pub keep_rising : AllPairs (λ s t. s.0.var < t.0.var) keep
  keep_rising = AllPairs-filter (λ s t. s.0.var < t.0.var) (λ t. not (inside t.0.var)) r split.rising

  gone_all : (x : List Bool) × (value x gone ≡ total gone)
  gone_all = all_true n gone (apart_from_rising gone (AllPairs-filter (λ s t. s.0.var < t.0.var) (λ t. inside t.0.var) r split.rising)) gone_within

  keep_none : (x : List Bool) × (value x keep ≡ 0)
  keep_none = none_true n keep (apart_from_rising keep keep_rising) keep_within

  -- where all that is weakened is true
  most : (x : List Bool) → rest x ≡ 0 → (value x keep + (total gone + c)) ≤ total f + d
  most x zero =
      let y = glued n inside gone_all.0 x in
      let here = split.same y in
      let parts = both y in
      let kept = value_outside n inside gone_all.0 x keep keep_within keep_outside in
      let lost = value_inside n inside gone_all.0 x gone gone_within gone_inside in
      let all = gone_all.1 in
      let same = split.local y x (glued_outside n inside gone_all.0 x) in
      let inner = value-le-total y f in
      omega arith

  pub amounts : total gone + c ≡ total f + d
  amounts =
      let x = glued n inside split.full.0 keep_none.0 in
      let here = split.same x in
      let parts = both x in
      let kept = value_outside n inside split.full.0 keep_none.0 keep keep_within keep_outside in
      let none = keep_none.1 in
      let inner = value_inside n inside split.full.0 keep_none.0 f split.inner_within split.inner in
      let full = split.full.1 in
      let lost = value-le-total x gone in
      let most_here = most split.zero.0 split.zero.1 in
      omega arith

  -- what is kept is false where the rest is
  pub kept_zero : (x : List Bool) → rest x ≡ 0 → value x keep ≡ 0
  kept_zero x zero = let whole = most x zero in let same = amounts in omega arith
