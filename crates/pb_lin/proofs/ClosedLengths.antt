-- Whether a partial assignment is closed depends on its values at the variables of the constraints alone, not on its length.
use Rattle.std.proofs.Common.{◌≡◌, ◌↔◌, ℕ, ◌-◌, ◌<◌, ◌≤◌, Bool, not, ◌&&◌, if◌then◌else◌, Option, None, option_map, List, ◌++◌, length, get_or, take, replicate, arith, ⊎_elim, ap, sym, ◌∙◌, subst, refl, pos, ◌-ℤ◌, ◌≤ℤ◌}
use Rattle.std.specs.Prelude.{int_lt}
use Rattle.std.specs.Option.{is_none}
use Rattle.std.specs.List.{All}
use Rattle.std.proofs.lemmas.Bool.{cases_lt}
use Rattle.std.proofs.lemmas.List.{get_or-append_right, get_or-replicate, get_or-take, get_or_append_left, get_or_past, length-append, length-replicate, length-take}
use Rattle.scut_base.specs.Literal.{Literal}
use Rattle.scut_base.specs.Assignment.{partial_truth}
use Rattle.scut_base.proofs.Lists.{sum_by_same_in}
use Rattle.pb_lin.specs.Constraint.{ConstraintValue, UpTo, possible_value, slack, unless_false}
use Rattle.pb_lin.specs.Propagation.{AreOver, ClosedAtAnyLength, ConflictsAtOneLength, ConflictsByPropagation, IsClosed, IsClosedUnder, NoneIsClosed, is_forced}

abbrev pub Values : Type 0
Values = List (Option Bool)

abbrev no_value : Option Bool
no_value = None

-- the values at the first n places are the same
pub record AgreeBelow (n : ℕ) (p q : Values) : Type 0 where
  pub at : (k : ℕ) → k < n → get_or p k None ≡ get_or q k None

agree_back : (n : ℕ) (p q : Values) → AgreeBelow n p q → AgreeBelow n q p
agree_back n p q agree = record { at = λ k below. sym (agree.at k below) }

-- the literal has the same truth in both
abbrev pub SameTruth : Values → Values → Literal × ℕ → Type 0
SameTruth p q t = partial_truth p t.0 ≡ partial_truth q t.0

module _ (p q : Values) (c : ConstraintValue) (same : All (SameTruth p q) c.terms) where
  slack_same : slack p c ≡ slack q c
  slack_same =
      ap (λ (m : ℕ). pos m -ℤ pos c.degree) (sum_by_same_in (possible_value p) (possible_value q) c.terms
      (λ k d short. ap (λ (o : Option Bool). unless_false o (get_or c.terms k d).1) (same k d short)))

  forced_same : (k : ℕ) (d : Literal × ℕ) → k < length c.terms → is_forced p c (get_or c.terms k d) ≡ is_forced q c (get_or c.terms k d)
  forced_same k d short =
      ap (λ (o : Option Bool). is_none o && int_lt (slack p c) (pos (get_or c.terms k d).1)) (same k d short)
      ∙ ap (λ s. is_none (partial_truth q (get_or c.terms k d).0) && int_lt s (pos (get_or c.terms k d).1)) slack_same

  closed_under_same : IsClosedUnder p c → IsClosedUnder q c
  closed_under_same closed = record {
    possible = subst (λ s. pos 0 ≤ℤ s) slack_same closed.possible;
    unforced = λ k d short. sym (forced_same k d short) ∙ closed.unforced k d short;
  }

truth_same : (n : ℕ) (p q : Values) → AgreeBelow n p q → (t : Literal × ℕ) → 0 < t.0.var → t.0.var ≤ n → SameTruth p q t
truth_same n p q agree t from_one upto = ap (option_map (λ b. if t.0.neg then not b else b)) (agree.at (t.0.var - 1) (omega arith))

-- closed where the values at the constraints' variables are the same
pub closed_same : (n : ℕ) (cs : List ConstraintValue) → AreOver n cs → (p q : Values) → AgreeBelow n p q → IsClosed p cs → IsClosed q cs
closed_same n cs over p q agree closed k d short =
    closed_under_same p q (get_or cs k d) (λ i e within. let is = over k d short i e within in truth_same n p q agree (get_or (get_or cs k d).terms i e) is.0 is.1) (closed k d short)

cut_agrees : (n : ℕ) (p : Values) → AgreeBelow n (take n p) p
cut_agrees n p = record { at = λ k below. get_or-take n p k None below }

-- open variables at the end change no value
extended_at : (more : ℕ) (p : Values) (k : ℕ) → get_or (p ++ replicate more None) k None ≡ get_or p k None
extended_at more p k = ⊎_elim (λ (h : k < length p). get_or_append_left p (replicate more None) None k h)
    (λ (h : length p ≤ k). get_or-append_right p (replicate more None) (length p) k None refl h ∙ open_at more (k - length p) ∙ sym (get_or_past p k None h))
    (cases_lt k (length p))
  where
    open_at : (m i : ℕ) → get_or (replicate m no_value) i None ≡ None
    open_at m i = ⊎_elim (λ (h : i < m). get_or-replicate m i no_value None h) (λ (h : m ≤ i). get_or_past (replicate m no_value) i None (omega (arith, length-replicate m no_value))) (cases_lt i m)

extended_agrees : (n more : ℕ) (p : Values) → AgreeBelow n (p ++ replicate more None) p
extended_agrees n more p = record { at = λ k below. extended_at more p k }

both_ways : (n : ℕ) (cs : List ConstraintValue) → AreOver n cs → (p q : Values) → AgreeBelow n p q → (IsClosed p cs ↔ IsClosed q cs)
both_ways n cs over p q agree = (closed_same n cs over p q agree, closed_same n cs over q p (agree_back n p q agree))

pub closed_at_any_length : ClosedAtAnyLength
closed_at_any_length n cs over p = record {
  cut = both_ways n cs over (take n p) p (cut_agrees n p);
  extended = λ more. both_ways n cs over (p ++ replicate more None) p (extended_agrees n more p);
}

-- ---- conflicts

pub over_upto : (n m : ℕ) (cs : List ConstraintValue) → AreOver n cs → n ≤ m → All (UpTo m) cs
over_upto n m cs over le k d short i e within = let is = over k d short i e within in omega arith

-- the partial assignment, cut or extended to this length
abbrev pub at_length : ℕ → Values → Values
at_length n p = take n p ++ replicate (n - length p) None

at_length_long : (n : ℕ) (p : Values) → length (at_length n p) ≡ n
at_length_long n p = omega (arith, length-append (take n p) (replicate (n - length p) no_value), length-take n p, length-replicate (n - length p) no_value)

pub conflicts_at_one_length : ConflictsAtOneLength
conflicts_at_one_length n cs over = (one, any)
  where
    one : ConflictsByPropagation cs → NoneIsClosed n cs
    one conflicts p long closed = conflicts p (over_upto n (length p) cs over (omega arith)) closed

    any : NoneIsClosed n cs → ConflictsByPropagation cs
    any none p upto closed =
        none (at_length n p) (at_length_long n p)
        (((closed_at_any_length n cs over (take n p)).extended (n - length p)).1 ((closed_at_any_length n cs over p).cut.1 closed))
