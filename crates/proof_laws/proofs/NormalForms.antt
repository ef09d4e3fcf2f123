-- A normal form exists: terms of any literals have merged terms of the same values, but for an amount that cancels.
use Rattle.std.proofs.Common.{◌≡◌, ◌⊎◌, ℕ, ◌+◌, ◌-◌, ◌<◌, ◌≤◌, Bool, true, false, not, if◌then◌else◌, List, [], ◌∷◌, ◌++◌, refl, arith, ap, ⊎_elim, ℤ, pos, negsuc, ◌-ℤ◌, ◌≤ℤ◌}
use Rattle.std.specs.Prelude.{◌^◌}
use Rattle.std.specs.Int.{int_max}
use Rattle.std.specs.List.{All}
use Rattle.std.proofs.lemmas.Bool.{cases_lt, cases_order}
use Rattle.std.proofs.lemmas.Int.{ints, clamps}
use Rattle.std.proofs.lemmas.List.Elements.{All-head, All-tail, All-append}
use Rattle.std.proofs.lemmas.List.Sums.{sum_by-append}
use Rattle.scut_base.specs.Literal.{Literal}
use Rattle.scut_base.specs.Assignment.{value_of}
use Rattle.pb_lin.specs.Constraint.{ConstraintValue, IsNormal, size, term_value, total, value}
use Rattle.pb_lin.specs.NormalForm.{HasExcess}
use Rattle.cutting_planes.specs.Rules.{IsSum}
use Rattle.cutting_planes.proofs.Terms.{Terms, total-cons, value-cons}
use Rattle.cutting_planes.proofs.Rising.{Above, above_without, normal_from_above}
use Rattle.proof_laws.proofs.Definitions.{zero_or_more}

-- ---- two terms of one variable

-- the coefficient where a literal of this sign is true, by its variable
abbrev valued : Bool → Bool → ℕ → ℕ
valued neg v n = if (if neg then not v else v) then n else 0

-- what two terms of one variable give is what one term gives, and an amount
record AreJoined (s t : Bool) (x y : ℕ) : Type 0 where
  neg : Bool
  coefficient : ℕ
  cancelled : ℕ
  same : (v : Bool) → valued s v x + valued t v y ≡ valued neg v coefficient + cancelled
  small : coefficient + cancelled ≤ x + y

one_sign : (s v : Bool) (x y : ℕ) → valued s v x + valued s v y ≡ valued s v (x + y) + 0
one_sign true true x y = omega arith
one_sign true false x y = omega arith
one_sign false true x y = omega arith
one_sign false false x y = omega arith

two_signs : (s v : Bool) (x y : ℕ) → x ≤ y → valued s v x + valued (not s) v y ≡ valued (not s) v (y - x) + x
two_signs true true x y h = omega arith
two_signs true false x y h = omega arith
two_signs false true x y h = omega arith
two_signs false false x y h = omega arith

signs_turned : (s v : Bool) (x y : ℕ) → y ≤ x → valued s v x + valued (not s) v y ≡ valued s v (x - y) + y
signs_turned true true x y h = omega arith
signs_turned true false x y h = omega arith
signs_turned false true x y h = omega arith
signs_turned false false x y h = omega arith

join_opposites : (s : Bool) (x y : ℕ) → AreJoined s (not s) x y
join_opposites s x y = ⊎_elim
    (λ (less : x < y). record { neg = not s; coefficient = y - x; cancelled = x; same = λ v. two_signs s v x y (omega arith); small = omega arith })
    (λ (more : y ≤ x). record { neg = s; coefficient = x - y; cancelled = y; same = λ v. signs_turned s v x y more; small = omega arith })
    (cases_lt x y)

-- terms of one sign, or of both
join : (s t : Bool) (x y : ℕ) → AreJoined s t x y
join true true x y = record { neg = true; coefficient = x + y; cancelled = 0; same = λ v. one_sign true v x y; small = omega arith }
join false false x y = record { neg = false; coefficient = x + y; cancelled = 0; same = λ v. one_sign false v x y; small = omega arith }
join true false x y = join_opposites true x y
join false true x y = join_opposites false x y

-- ---- merged terms

-- merged terms, of variables above n, that take the place of others
record IsMergeOf (n : ℕ) (merged terms : Terms) : Type 0 where
  pub cancelled : ℕ
  pub same : (a : List Bool) → value a terms ≡ value a merged + cancelled
  pub above : Above n merged
  pub small : total merged + cancelled ≤ total terms

abbrev HasMerge : ℕ → Terms → Type 0
HasMerge n terms = (merged : Terms) × IsMergeOf n merged terms

-- a term of a lower variable than all others stands before them
put_first : (n : ℕ) (t m : Literal × ℕ) (ms : Terms) → n < t.0.var → 0 < t.1 → t.0.var < m.0.var → Above n (m ∷ ms) → HasMerge n (t ∷ m ∷ ms)
put_first n t m ms from positive less above = (
  t ∷ m ∷ ms,
  record {
    cancelled = 0;
    same = λ a. omega arith;
    above = (from, positive, (less, above.1, above.2));
    small = omega arith;
  },
)

-- a term that is merged with the later ones
put_later : (n : ℕ) (t m : Literal × ℕ) (ms : Terms) → Above n (m ∷ ms) → HasMerge m.0.var (t ∷ ms) → HasMerge n (t ∷ m ∷ ms)
put_later n t m ms above later = (
  m ∷ later.0,
  record {
    cancelled = later.1.cancelled;
    same = λ a.
        let whole = value-cons a t (m ∷ ms) in
        let rest = value-cons a m ms in
        let pair = value-cons a t ms in
        let made = value-cons a m later.0 in
        let is = later.1.same a in
        omega arith;
    above = (above.0, above.1, later.1.above);
    small =
        let whole = total-cons t (m ∷ ms) in
        let rest = total-cons m ms in
        let pair = total-cons t ms in
        let made = total-cons m later.0 in
        let is = later.1.small in
        omega arith;
  },
)

valued_none : (b : Bool) (n : ℕ) → n ≡ 0 → (if b then n else 0) ≡ 0
valued_none true n e = e
valued_none false n e = refl

-- a term of the first one's variable is joined with it
put_onto : (n : ℕ) (t m : Literal × ℕ) (ms : Terms) → t.0.var ≡ m.0.var → Above n (m ∷ ms) → HasMerge n (t ∷ m ∷ ms)
put_onto n t m ms variable above = ⊎_elim
    (λ (gone : joined.coefficient ≡ 0). (
      ms,
      record {
        cancelled = joined.cancelled;
        same = λ a.
            let sums = both a in
            let nothing = valued_none (if joined.neg then not (value_of a m.0.var) else value_of a m.0.var) joined.coefficient gone in
            omega arith;
        above = above_without n [] m ms above;
        small = let sums = totals in omega arith;
      },
    ))
    (λ (stays : 0 < joined.coefficient). (
      u ∷ ms,
      record {
        cancelled = joined.cancelled;
        same = λ a. let sums = both a in let made = value-cons a u ms in omega arith;
        above = (above.0, stays, above.2);
        small = let sums = totals in let made = total-cons u ms in omega arith;
      },
    ))
    (zero_or_more joined.coefficient)
  where
    joined : AreJoined t.0.neg m.0.neg t.1 m.1
    joined = join t.0.neg m.0.neg t.1 m.1

    u : Literal × ℕ
    u = (record { var = m.0.var; neg = joined.neg }, joined.coefficient)

    both : (a : List Bool) → value a (t ∷ m ∷ ms) ≡ (valued joined.neg (value_of a m.0.var) joined.coefficient + joined.cancelled) + value a ms
    both a =
        let whole = value-cons a t (m ∷ ms) in
        let rest = value-cons a m ms in
        let moved : term_value a t ≡ valued t.0.neg (value_of a m.0.var) t.1 = ap (λ (v : ℕ). valued t.0.neg (value_of a v) t.1) variable in
        let is = joined.same (value_of a m.0.var) in
        omega arith

    totals : joined.coefficient + joined.cancelled + total ms ≤ total (t ∷ m ∷ ms)
    totals =
        let whole = total-cons t (m ∷ ms) in
        let rest = total-cons m ms in
        let is = joined.small in
        omega arith

-- one term more is put into merged terms
put : (n : ℕ) (t : Literal × ℕ) (ms : Terms) → n < t.0.var → 0 < t.1 → Above n ms → HasMerge n (t ∷ ms)
put n t [] from positive above = (t ∷ [], record { cancelled = 0; same = λ a. omega arith; above = (from, positive, tt); small = omega arith })
put n t (m ∷ ms) from positive above = ⊎_elim
    (λ (same : t.0.var ≡ m.0.var). put_onto n t m ms same above)
    (λ (apart : (t.0.var < m.0.var) ⊎ (m.0.var < t.0.var)). ⊎_elim
    (λ (less : t.0.var < m.0.var). put_first n t m ms from positive less above)
    (λ (more : m.0.var < t.0.var). put_later n t m ms above (put m.0.var t ms more positive above.2))
    apart)
    (cases_order t.0.var m.0.var)

-- positive coefficients, on literals of variables from 1 on
pub record AreTerms (terms : Terms) : Type 0 where
  pub positive : All (λ t. 0 < t.1) terms
  pub from_one : All (λ t. 0 < t.0.var) terms

pub terms_of_normal : (c : ConstraintValue) → IsNormal c.terms c.degree → AreTerms c.terms
terms_of_normal c normal = record { positive = normal.merged.positive; from_one = normal.merged.from_one }

pub terms_tail : (t : Literal × ℕ) (ts : Terms) → AreTerms (t ∷ ts) → AreTerms ts
terms_tail t ts terms = record { positive = All-tail (λ u. 0 < u.1) t ts terms.positive; from_one = All-tail (λ u. 0 < u.0.var) t ts terms.from_one }

pub terms_append : (xs ys : Terms) → AreTerms xs → AreTerms ys → AreTerms (xs ++ ys)
terms_append xs ys left right = record { positive = All-append (λ t. 0 < t.1) xs ys left.positive right.positive; from_one = All-append (λ t. 0 < t.0.var) xs ys left.from_one right.from_one }

merge_of : (terms : Terms) → AreTerms terms → HasMerge 0 terms
merge_of [] are = ([], record { cancelled = 0; same = λ a. omega arith; above = tt; small = omega arith })
merge_of (t ∷ ts) are =
    let rest = merge_of ts (terms_tail t ts are) in
    let more = put 0 t rest.0 (All-head (λ u. 0 < u.0.var) t ts are.from_one) (All-head (λ u. 0 < u.1) t ts are.positive) rest.1.above in (
      more.0,
      record {
        cancelled = more.1.cancelled + rest.1.cancelled;
        same = λ a.
            let whole = value-cons a t ts in
            let pair = value-cons a t rest.0 in
            let first = more.1.same a in
            let later = rest.1.same a in
            omega arith;
        above = more.1.above;
        small =
            let whole = total-cons t ts in
            let pair = total-cons t rest.0 in
            let first = more.1.small in
            let later = rest.1.small in
            omega arith;
      },
    )

-- ---- normal forms

-- The terms merged, and in normal form under each degree of at most this; what they give at every assignment has cancelled.
pub record IsNormalOf (merged terms : Terms) (degree : ℕ) : Type 0 where
  pub cancelled : ℕ
  pub same : (a : List Bool) → value a terms ≡ value a merged + cancelled
  pub normal : (d : ℕ) → d ≤ degree → IsNormal merged d

pub normal_of : (terms : Terms) (degree : ℕ) → AreTerms terms → total terms + degree ≤ 2 ^ 100 → (merged : Terms) × IsNormalOf merged terms degree
normal_of terms degree are fits =
    let merge = merge_of terms are in
    let small = merge.1.small in (
      merge.0,
      record {
        cancelled = merge.1.cancelled;
        same = merge.1.same;
        normal = λ d upto. normal_from_above merge.0 d merge.1.above (omega arith);
      },
    )

-- constraints whose sizes are small enough have a sum
pub sum_exists : (p q : ConstraintValue) → IsNormal p.terms p.degree → IsNormal q.terms q.degree → size p + size q ≤ 2 ^ 100 → (r : ConstraintValue) × IsSum r p q
sum_exists p q np nq fits =
    let both = sum_by-append (λ t. t.1) p.terms q.terms in
    let are = terms_append p.terms q.terms (terms_of_normal p np) (terms_of_normal q nq) in
    let made = normal_of (p.terms ++ q.terms) (p.degree + q.degree) are (omega arith) in (
      record { terms = made.0; degree = (p.degree + q.degree) - made.1.cancelled },
      record {
        cancelled = made.1.cancelled;
        same = λ a. let sum = sum_by-append (term_value a) p.terms q.terms in let is = made.1.same a in omega arith;
        degree = refl;
        normal = made.1.normal ((p.degree + q.degree) - made.1.cancelled) (omega arith);
      },
    )

-- What is the value of terms above a number; their total and the number are at most n.
pub record IsLinear (n : ℕ) (excess : List Bool → ℤ) : Type 0 where
  pub terms : Terms
  pub least : ℤ
  pub upto : ℕ
  pub are : AreTerms terms
  pub same : (a : List Bool) → pos (value a terms) -ℤ least ≡ excess a
  pub below : least ≤ℤ pos upto
  pub small : total terms + upto ≤ n

-- a number, or 0 where it is below 0
clamped : (z : ℤ) → (d : ℕ) × (pos d ≡ int_max z (pos 0))
clamped (pos n) = (n, omega (arith, ints, clamps))
clamped (negsuc n) = (0, omega (arith, ints, clamps))

-- it is the excess of a constraint in normal form
pub goal_exists : (n : ℕ) (excess : List Bool → ℤ) → IsLinear n excess → n ≤ 2 ^ 100 → (g : ConstraintValue) × (IsNormal g.terms g.degree × HasExcess g excess)
goal_exists n excess linear fits =
    let small = linear.small in
    let below = linear.below in
    let made = normal_of linear.terms linear.upto linear.are (omega arith) in
    let least : ℤ = linear.least -ℤ pos made.1.cancelled in
    let degree = clamped least in
    let is = degree.1 in (
      record { terms = made.0; degree = degree.0 },
      (
        made.1.normal degree.0 (omega (arith, ints, clamps)),
        record {
          least = least;
          same = λ a. let old = linear.same a in let values = made.1.same a in omega (arith, ints);
          degree = is;
        },
      ),
    )
