-- Lines that say of an objective what an output says of its reform's terms.
use Rattle.std.proofs.Common.{◌≡◌, ◌⊎◌, inl, inr, ℕ, ◌+◌, ◌*◌, ◌<◌, ◌≤◌, ◌==◌, ◌^◌, Bool, true, false, not, if◌then◌else◌, Some, List, [], ◌∷◌, length, sum_by, refl, ap, sym, subst, ◌∙◌, arith, ℤ, pos, negsuc, ◌+ℤ◌, ◌-ℤ◌, ◌≤ℤ◌, ◌<ℤ◌}
use Rattle.std.specs.Prelude.{unsigned_abs}
use Rattle.std.specs.FinMap.{get}
use Rattle.std.proofs.lemmas.Bool.{cond-true}
use Rattle.std.proofs.lemmas.Int.{ints}
use Rattle.std.proofs.lemmas.List.Elements.{All-nil}
use Rattle.std.proofs.lemmas.List.Sorted.{sum_by-IsPermutation}
use Rattle.std.proofs.lemmas.List.Sums.{sum_by-cons, sum_by-append}
use Rattle.scut_base.specs.Literal.{Literal}
use Rattle.scut_base.specs.Assignment.{lit_true, value_of}
use Rattle.pb_lin.specs.Constraint.{ConstraintValue, IsNormal, size, term_value, total, value}
use Rattle.pb_lin.specs.CostRow.{CostRowValue, IsCostRow}
use Rattle.pb_lin.specs.Problem.{ProblemValue}
use Rattle.pb_lin.specs.Restriction.{met_value}
use Rattle.cutting_planes.specs.Rules.{IsSum}
use Rattle.cutting_planes.proofs.Terms.{Terms}
use Rattle.proof_laws.specs.State.{StateValue, IsState}
use Rattle.proof_laws.specs.Steps.{reached_if, term_of}
use Rattle.proof_laws.specs.Refusal.{line_or_none}
use Rattle.proof_laws.proofs.Semantics.{AreWithin}
use Rattle.sum_outputs.specs.Outputs.{IsInOrder}
use Rattle.sum_outputs.specs.Totals.{AreWeights}
use Rattle.sum_outputs.proofs.Glue.{all_true, apart_from_rising, bound, bound_within, none_true, value-le-total, within_more}
use Rattle.totalizer.specs.Meaning.{AreTruthsWith, IsDefinedFor, IsOutput}
use Rattle.totalizer.specs.Reforming.{IsLowerLine}
use Rattle.search_base.specs.CostBounds.{AreApartWithin, CoversCost}
use Rattle.search_base.proofs.Restricting.{with_truths, covers_same, covers_within, true_with}

-- ---- what a line says where a literal is true

-- Where the literal is true the line's left side differs from the row's by as much everywhere, and it says that the
-- row's terms reach n.
pub record ReachesAt (row : CostRowValue) (l : Literal) (n : ℕ) (c : ConstraintValue) : Type 0 where
  pub more : ℕ
  pub less : ℕ
  pub same : (x : List Bool) → lit_true x l ≡ true → value x c.terms + more ≡ value x row.terms + less
  pub enough : less + n ≤ c.degree + more

-- variables up to this are those of both
abbrev upto : ConstraintValue → CostRowValue → ℕ → ℕ
upto c row var = bound c.terms + bound row.terms + var

line_within : (c : ConstraintValue) (row : CostRowValue) (var : ℕ) → IsNormal c.terms c.degree →
    AreWithin (upto c row var) c.terms
line_within c row var normal = within_more (bound c.terms) (upto c row var) c.terms (omega arith)
    (bound_within c.terms normal.merged.from_one)

row_within : (c : ConstraintValue) (row : CostRowValue) (var : ℕ) → IsCostRow row.terms row.offset →
    AreWithin (upto c row var) row.terms
row_within c row var is = within_more (bound row.terms) (upto c row var) row.terms (omega arith)
    (bound_within row.terms is.from_one)

number_most : (value : ℤ) (m n : ℕ) (offset : ℤ) → value ≤ℤ (pos n +ℤ offset) → value ≡ pos m +ℤ offset → m ≤ n
number_most value m n offset le is = omega (arith, ints)

-- so it covers "the row costs at least value" for any value up to there
pub reaches_covers : (row : CostRowValue) (l : Literal) (n : ℕ) (c : ConstraintValue) (value : ℤ)
    (truths : List Literal) → IsCostRow row.terms row.offset → IsNormal c.terms c.degree → 0 < l.var →
    ReachesAt row l n c → value ≤ℤ (pos n +ℤ row.offset) → AreTruthsWith l truths → CoversCost row value c truths
reaches_covers row l n c value truths is_row normal some reaches most are m is =
    let fewer = number_most value m n row.offset most is in
    let enough = reaches.enough in
    covers_same (upto c row l.var) truths are.apart c (record { terms = row.terms; degree = m })
    (line_within c row l.var normal) (row_within c row l.var is_row) reaches.more reaches.less (omega arith)
    (apart_from_rising c.terms normal.merged.rising)
    (λ x. reaches.same (with_truths (upto c row l.var) truths x)
    (true_with (upto c row l.var) l truths x some (omega arith) are))

-- ---- the line below an objective

pub gap_of : (low high : ℤ) → low ≤ℤ high → (n : ℕ) × (high ≡ pos n +ℤ low)
gap_of low high le = by (high -ℤ low) refl
  where
    by : (d : ℤ) → high -ℤ low ≡ d → (n : ℕ) × (high ≡ pos n +ℤ low)
    by (pos n) e = (n, omega (arith, ints))
    by (negsuc n) e = absurd (omega (arith, ints))

lower_at : (v r c d o : ℕ) (low high : ℤ) → (pos v -ℤ pos d) ≡ ((pos r +ℤ low) -ℤ (high +ℤ pos c)) →
    high ≡ pos o +ℤ low → v + (o + c) ≡ r + d
lower_at v r c d o low high e gap = omega (arith, ints)

if_same : (b : Bool) (m n : ℕ) → b ≡ true → (if b then m else n) ≡ m
if_same b m n e = cond-true b m n e

module _ (row : CostRowValue) (offset : ℤ) (terms : Terms) (c : ConstraintValue) (above : row.offset ≤ℤ offset)
    (lower : IsLowerLine row offset terms c) where
  -- how far the reform's offset is above the row's
  abbrev pub gap : ℕ
  gap = (gap_of row.offset offset above).0

  pub gap_is : offset ≡ pos gap +ℤ row.offset
  gap_is = (gap_of row.offset offset above).1

  lower_sum : (x : List Bool) → value x c.terms + (gap + value x terms) ≡ value x row.terms + c.degree
  lower_sum x = lower_at (value x c.terms) (value x row.terms) (value x terms) c.degree gap row.offset offset (lower x)
      gap_is

  -- it covers what is no more than the offset, where the literals' weights are within the value
  pub always_covers : IsCostRow row.terms row.offset → IsNormal c.terms c.degree → (v : ℤ) → v ≤ℤ offset →
      (truths : List Literal) → AreApartWithin row v truths → CoversCost row v c truths
  always_covers is_row normal v most truths are m is =
      let within = are.within in
      let g = gap_is in
      let fewer : m ≤ gap = number_most v m gap row.offset (subst (λ (z : ℤ). v ≤ℤ z) g most) is in
      let met : sum_by (met_value truths) row.terms ≤ m = number_most _ (sum_by (met_value truths) row.terms) m row.offset
      (subst (λ (z : ℤ). (pos (sum_by (met_value truths) row.terms) +ℤ row.offset) ≤ℤ z) is within) refl in
      covers_within (upto c row 0) truths are.apart c (record { terms = row.terms; degree = m })
      (line_within c row 0 normal) (row_within c row 0 is_row) gap c.degree (omega arith) met
      (λ x. let here = lower_sum (with_truths (upto c row 0) truths x) in omega arith)

  -- of one term it serves itself
  pub leaf_reaches : (l : Literal) (weight : ℕ) → terms ≡ (l, weight) ∷ [] → ReachesAt row l (gap + weight) c
  leaf_reaches l weight one = record {
    more = gap + weight;
    less = c.degree;
    same = λ x true'.
        let here = lower_sum x in
        let single = sum_by-cons (term_value x) (l, weight) [] in
        let term : term_value x (l, weight) ≡ weight = if_same (lit_true x l) weight 0 true' in
        let only : value x terms ≡ value x ((l, weight) ∷ []) = ap (λ (ts : Terms). value x ts) one in
        omega arith;
    enough = omega arith;
  }

  -- ---- sizes

  module _ (is_row : IsCostRow row.terms row.offset) (weights : AreWeights terms)
      (small : (offset +ℤ pos (total terms)) <ℤ pos (2 ^ 63)) where
    offset_low : (n : ℕ) (z : ℤ) → unsigned_abs z < n → (g t : ℕ) → ((pos g +ℤ z) +ℤ pos t) <ℤ pos n → g + t < 2 * n
    offset_low n (pos k) most g t less = omega (arith, ints)
    offset_low n (negsuc k) most g t less = omega (arith, ints)

    gap_small : gap + total terms < 2 * 2 ^ 63
    gap_small = offset_low (2 ^ 63) row.offset is_row.least gap (total terms)
        (subst (λ (z : ℤ). (z +ℤ pos (total terms)) <ℤ pos (2 ^ 63)) gap_is small)

    pub lower_size : IsNormal c.terms c.degree → size c ≤ 2 ^ 66
    lower_size normal =
        let apart = apart_from_rising c.terms normal.merged.rising in
        let within = bound_within c.terms normal.merged.from_one in
        let all = all_true (bound c.terms) c.terms apart within in
        let none = none_true (bound c.terms) c.terms apart within in
        let all_is = all.1 in
        let none_is = none.1 in
        let high = lower_sum all.0 in
        let low = lower_sum none.0 in
        let row_high = value-le-total all.0 row.terms in
        let terms_high = value-le-total none.0 terms in
        let row_small = is_row.small in
        let g = gap_small in
        omega arith

-- ---- the line of an output

-- the literal of the only term, or one that was defined
pub output_cases : (p : ProblemValue) (s : StateValue) (terms : Terms) (k : ℕ) (l : Literal) (id : ℕ) → 0 < k →
    k ≤ total terms → IsOutput p s terms k l id →
    ((weight : ℕ) × (terms ≡ (l, weight) ∷ []) × (id ≡ 0) × (k ≤ weight)) ⊎
    ((1 < length terms) × IsDefinedFor p s terms k l id)
output_cases p s [] k l id some most is = absurd (omega arith)
output_cases p s (t ∷ []) k l id some most is =
    let single = sum_by-cons (λ (u : Literal × ℕ). u.1) t [] in
    inl (t.1, ap (λ (m : Literal). (m, t.1) ∷ []) (sym is.0), is.1, omega arith)
output_cases p s (t ∷ u ∷ ts) k l id some most is = inr (omega arith, is)

opposite_none : (v : Bool) (n : ℕ) → v ≡ true → (if not v then n else 0) ≡ 0
opposite_none true n e = refl
opposite_none false n e = cc

marked : (b : Bool) (x : List Bool) (l : Literal) (n : ℕ) → term_value x (l, n) ≡ 0 →
    value x (if b then [] else (l, n) ∷ []) ≡ 0
marked true x l n none = refl
marked false x l n none = let single = sum_by-cons (term_value x) (l, n) [] in omega arith

marked_total : (b : Bool) (l : Literal) (n : ℕ) → total (if b then [] else (l, n) ∷ []) ≤ n
marked_total true l n = omega arith
marked_total false l n = let single = sum_by-cons (λ (t : Literal × ℕ). t.1) (l, n) [] in omega arith

positive_truth : (x : List Bool) (l : Literal) → l ≡ record { var = l.var; neg = false } → lit_true x l ≡ true →
    value_of x l.var ≡ true
positive_truth x l is true' = ap (lit_true x) (sym is) ∙ true'

module _ (terms : Terms) (sum : ConstraintValue) (l : Literal) (order : IsInOrder terms sum.degree sum)
    (positive : l ≡ record { var = l.var; neg = false }) where
  abbrev output : ConstraintValue
  output = reached_if l.var sum

  -- where the literal is true, it says that the terms reach the sum
  output_sum : (x : List Bool) → lit_true x l ≡ true → value x output.terms ≡ value x terms
  output_sum x true' =
      let last : Literal = record { var = l.var; neg = true } in
      let both = sum_by-append (term_value x) sum.terms (term_of last sum.degree) in
      let none = marked (sum.degree == 0) x last sum.degree
      (opposite_none (value_of x l.var) sum.degree (positive_truth x l positive true')) in
      let same = sum_by-IsPermutation (term_value x) terms sum.terms order.order in
      omega arith

  pub output_size : sum.degree ≤ total terms → size output ≤ 3 * total terms
  output_size most =
      let last : Literal = record { var = l.var; neg = true } in
      let both = sum_by-append (λ (t : Literal × ℕ). t.1) sum.terms (term_of last sum.degree) in
      let one = marked_total (sum.degree == 0) last sum.degree in
      let same = sum_by-IsPermutation (λ (t : Literal × ℕ). t.1) terms sum.terms order.order in
      omega arith

  -- for an objective in its own terms it serves itself
  pub output_reaches : (row : CostRowValue) (offset : ℤ) (above : row.offset ≤ℤ offset)
      (lower : IsLowerLine row offset terms (record { terms = []; degree = 0 })) →
      ReachesAt row l (gap row offset terms (record { terms = []; degree = 0 }) above lower + sum.degree) output
  output_reaches row offset above lower = record {
    more = gap row offset terms (record { terms = []; degree = 0 }) above lower;
    less = 0;
    same = λ x true'.
        let here = lower_sum row offset terms (record { terms = []; degree = 0 }) above lower x in
        let same = output_sum x true' in
        omega arith;
    enough = omega arith;
  }

  -- and else its sum with the line below the objective
  pub sum_reaches : (row : CostRowValue) (offset : ℤ) (c r : ConstraintValue) (above : row.offset ≤ℤ offset)
      (lower : IsLowerLine row offset terms c) → IsSum r c output →
      ReachesAt row l (gap row offset terms c above lower + sum.degree) r
  sum_reaches row offset c r above lower is = record {
    more = is.cancelled + gap row offset terms c above lower;
    less = c.degree;
    same = λ x true'.
        let here = lower_sum row offset terms c above lower x in
        let same = output_sum x true' in
        let both = is.same x in
        omega arith;
    enough = let degree = is.degree in omega arith;
  }

-- ---- lines by their ids

nothing_normal : IsNormal [] 0
nothing_normal = record {
  merged = record {
    positive = All-nil (λ t. 0 < t.1);
    from_one = All-nil (λ t. 0 < t.0.var);
    rising = λ i j d less short. absurd (omega arith);
  };
  small = omega arith;
}

pub named_normal : (s : StateValue) → IsState s → (id : ℕ) (c : ConstraintValue) → line_or_none s.live id ≡ Some c →
    IsNormal c.terms c.degree
named_normal s state id c = by (id == 0)
  where
    by : (b : Bool) → (if b then Some (record { terms = []; degree = 0 }) else get s.live id) ≡ Some c →
        IsNormal c.terms c.degree
    by true is =
        let same : ◌≡◌ {A = ConstraintValue} (record { terms = []; degree = 0 }) c = cc in
        subst (λ (d : ConstraintValue). IsNormal d.terms d.degree) same nothing_normal
    by false is = state.normal id c is
