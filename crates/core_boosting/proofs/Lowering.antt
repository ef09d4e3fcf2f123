-- How the line below an objective goes on with a core.
use Rattle.std.proofs.Common.{◌≡◌, ◌≢◌, ℕ, ◌+◌, ◌*◌, ◌<◌, ◌≤◌, ◌==◌, suc, Bool, true, false, if◌then◌else◌, Some, List, [], ◌∷◌, ◌++◌, map, length, get_or, refl, ap, sym, subst, ◌∙◌, arith, append-nil, Ok, pos, ℤ, ◌+ℤ◌}
use Rattle.std.specs.Prelude.{◌^◌, ◌≤ℤ◌, ◌↔◌, nat_lt}
use Rattle.std.specs.List.{All}
use Rattle.std.specs.FinMap.{get}
use Rattle.std.proofs.lemmas.Bool.{ltb-true, ltb-false}
use Rattle.std.proofs.lemmas.List.{length-map, length-append, map-append}
use Rattle.std.proofs.Math.Nat.{mul-le-mul_left}
use Rattle.std.proofs.lemmas.Int.{ints}
use Rattle.std.proofs.lemmas.List.Elements.{All-append, All-map}
use Rattle.std.proofs.lemmas.List.Sums.{sum_by-cons, sum_by-append}
use Rattle.scut_base.specs.Literal.{Literal}
use Rattle.scut_base.specs.Assignment.{lit_true}
use Rattle.pb_lin.specs.Constraint.{ConstraintValue, Covers, Holds, IsNormal, ones, opposite, opposite_terms, size, term_value, total, value}
use Rattle.pb_lin.specs.CostRow.{CostRowValue, row_cost}
use Rattle.pb_lin.specs.Given.{Given}
use Rattle.pb_lin.proofs.Ones.{AllPairs-map}
use Rattle.pb_lin.proofs.OppositeTerms.{value-opposite}
use Rattle.cutting_planes.specs.Rules.{IsSum, multiplied}
use Rattle.cutting_planes.specs.Stack.{size_fault, IsValueOn, Answer}
use Rattle.cutting_planes.specs.declared.token.PolToken.{PolToken}
use Rattle.cutting_planes.specs.declared.token.PolToken.TheVariants.{Id, Add, Mul}
use Rattle.cutting_planes.proofs.Terms.{Terms, changed, total-multiplied, normal-multiplied}
use Rattle.proof_laws.proofs.NormalForms.{sum_exists}
use Rattle.sum_outputs.proofs.Glue.{AreApart, all_true, bound, bound_within, value-le-total, none_true, apart_from_rising}
use Rattle.totalizer.specs.Reforming.{IsLowerLine}
use Rattle.core_boosting.specs.Counting.{OutputsFollow, counting, times}
use Rattle.core_boosting.specs.Exchanging.{CanExchange, CanLower, HasGreatest, IsAbove, LowersOn, exchanged, lower_tokens}
use Rattle.sum_outputs.proofs.Chains.{push_line, size_fine, step}
use Rattle.core_boosting.proofs.Countings.{factor_fine, constraint_same, scaled_total}
use Rattle.core_boosting.proofs.Exchanges.{exchange_sums, pairs_append}

-- ---- what a line says

-- the line covers "the row is at least its offset with m"
pub lower_covers : (row : CostRowValue) (offset : ℤ) (terms : Terms) (c : ConstraintValue) (m : ℕ) →
    IsLowerLine row offset terms c → (row.offset +ℤ pos m) ≤ℤ offset → Covers c (record { terms = row.terms; degree = m })
lower_covers row offset terms c m lower most a = let here = lower a in omega (arith, ints)

-- it holds exactly where the row is at least the new sum
pub lower_holds : (row : CostRowValue) (offset : ℤ) (terms : Terms) (c : ConstraintValue) (x : List Bool) →
    IsLowerLine row offset terms c → (Holds x c ↔ ((offset +ℤ pos (value x terms)) ≤ℤ row_cost x row))
lower_holds row offset terms c x lower = (λ holds. let here = lower x in omega (arith, ints), λ above. let here = lower x in omega (arith, ints))

-- ---- the greatest value

pub greatest_stays : (row : CostRowValue) (offset : ℤ) (terms : Terms) (lits outputs : List Literal) (w : ℕ) →
    CanExchange terms lits outputs w → HasGreatest row offset terms →
    HasGreatest row (offset +ℤ pos w) (exchanged lits w outputs terms)
greatest_stays row offset terms lits outputs w can greatest = let sums = exchange_sums terms lits outputs w can in let falls = sums.falls in omega (arith, ints)

-- ---- the sum from above

-- the first outputs are true
counted_up : (x : List Bool) (outs : List Literal) (base n : ℕ) → ((i : ℕ) (d : Literal) → i < length outs → base + i < n → lit_true x (get_or outs i d) ≡ true) → n ≤ base + length outs → n ≤ base + value x (ones outs)
counted_up x [] base n follow most = omega arith
counted_up x (o ∷ outs) base n follow most =
    let cons = sum_by-cons (term_value x) (o, 1) (ones outs) in
    let rest = counted_up x outs (base + 1) n (λ i d short less. follow (suc i) d (omega arith) (omega arith)) (omega arith) in
    by (lit_true x o) (nat_lt base n) refl (λ less. follow 0 o (omega arith) (omega arith)) rest cons
  where
    by : (b more : Bool) → nat_lt base n ≡ more → (base < n → b ≡ true) → n ≤ base + 1 + value x (ones outs) → value x (ones (o ∷ outs)) ≡ (if b then 1 else 0) + value x (ones outs) → n ≤ base + value x (ones (o ∷ outs))
    by b false none is rest cons = let most = ltb-false base n none in omega arith
    by true true less is rest cons = omega arith
    by false true less is rest cons = let e = is (ltb-true base n less) in cc

-- the opposites of outputs
opposites_are : (outs : List Literal) → ones (map opposite outs) ≡ opposite_terms (ones outs)
opposites_are [] = refl
opposites_are (o ∷ outs) = ap (λ (ts : Terms). (opposite o, 1) ∷ ts) (opposites_are outs)

-- ---- the sums of a core

module _ (terms : Terms) (lits outputs : List Literal) (w : ℕ) (can : CanExchange terms lits outputs w) where
  exactly : (x : List Bool) → value x (exchanged lits w outputs terms) + w * value x (ones lits) ≡ value x terms + w * value x (ones outputs)
  exactly x = let sums = exchange_sums terms lits outputs w can in sums.same x

  lits_most : (x : List Bool) → value x (ones lits) ≤ length lits
  lits_most x = let most = value-le-total x (ones lits) in let all = scaled_total 1 lits in omega arith

  outputs_most : (x : List Bool) → value x (ones outputs) ≤ length outputs
  outputs_most x = let most = value-le-total x (ones outputs) in let all = scaled_total 1 outputs in omega arith

  against_is : (x : List Bool) → value x (ones (map opposite outputs)) + value x (ones outputs) ≡ length outputs
  against_is x =
      let same : value x (ones (map opposite outputs)) ≡ value x (opposite_terms (ones outputs)) = ap (λ (ts : Terms). value x ts) (opposites_are outputs) in
      let both = value-opposite x (ones outputs) in
      let all = scaled_total 1 outputs in
      omega arith

  outputs_up : (x : List Bool) → OutputsFollow lits outputs x → value x (ones lits) ≤ 1 + value x (ones outputs)
  outputs_up x follow = counted_up x outputs 1 (value x (ones lits)) (λ i d short less. follow i d short (omega arith)) (let most = lits_most x in let fewer = can.fewer in omega arith)

times_le : (w m n : ℕ) → m ≤ n → w * m ≤ w * n
times_le w m n le = mul-le-mul_left w le

-- where the outputs follow, the new sum is no less than the row
pub upper_stays : (row : CostRowValue) (offset : ℤ) (terms : Terms) (lits outputs : List Literal) (w : ℕ) (x : List Bool) →
    CanExchange terms lits outputs w → OutputsFollow lits outputs x → IsAbove row offset terms x →
    IsAbove row (offset +ℤ pos w) (exchanged lits w outputs terms) x
upper_stays row offset terms lits outputs w x can follow above =
    let same = exactly terms lits outputs w can x in
    let up = times_le w (value x (ones lits)) (1 + value x (ones outputs)) (outputs_up terms lits outputs w can x follow) in
    let product : w * (1 + value x (ones outputs)) ≡ w + w * value x (ones outputs) = omega arith in
    omega (arith, ints)

-- ---- the line

module _ (given : Given) (row : CostRowValue) (offset : ℤ) (terms : Terms) (lits outputs : List Literal) (w old line : ℕ) (can : CanLower given row offset terms lits outputs w old line) where
  abbrev ex : CanExchange terms lits outputs w
  ex = can.exchange

  abbrev core : ConstraintValue
  core = counting lits (map opposite outputs)

  abbrev many : ConstraintValue
  many = multiplied w core

  core_value : (x : List Bool) → value x core.terms ≡ value x (ones lits) + value x (ones (map opposite outputs))
  core_value x = ap (λ (ts : Terms). value x ts) (map-append (λ l. (l, 1)) lits (map opposite outputs)) ∙ sum_by-append (term_value x) (ones lits) (ones (map opposite outputs))

  core_degree : core.degree ≡ length lits
  core_degree = let fewer = ex.fewer in let long = length-map outputs opposite in omega arith

  many_value : (x : List Bool) → value x many.terms ≡ w * value x core.terms
  many_value x = let all = value_times x w core.terms in omega arith
    where
      if_times : (b : Bool) (n : ℕ) → (if b then n * w else 0) ≡ w * (if b then n else 0)
      if_times true n = omega arith
      if_times false n = omega arith

      value_times : (y : List Bool) (k : ℕ) (ts : Terms) → value y (map (changed (λ n. n * w)) ts) ≡ w * value y ts
      value_times y k [] = omega arith
      value_times y k (t ∷ ts) =
          let a = sum_by-cons (term_value y) (t.0, t.1 * w) (map (changed (λ n. n * w)) ts) in
          let b = sum_by-cons (term_value y) t ts in
          let here : term_value y (t.0, t.1 * w) ≡ w * term_value y t = if_times (lit_true y t.0) t.1 in
          let rest = value_times y k ts in
          let product : w * value y (t ∷ ts) ≡ w * (term_value y t + value y ts) = ap (λ (n : ℕ). w * n) b in
          omega arith

  -- all terms and outputs true
  abbrev whole : Terms
  whole = terms ++ ones outputs

  whole_apart : AreApart whole
  whole_apart = pairs_append (λ s t. s.0.var ≢ t.0.var) terms (ones outputs) ex.weights.apart
      (AllPairs-map (λ s t. s.0.var ≢ t.0.var) (λ l. (l, 1)) (λ t. t.0) outputs (λ i j d before short e. let less = ex.rising i j d before short in omega arith))
      (λ k d short. All-map (λ t. (get_or terms k d).0.var ≢ t.0.var) (λ l. (l, 1)) outputs (λ j e inside same. let less = ex.above j e inside k d short in omega arith))

  whole_from_one : All (λ t. 0 < t.0.var) whole
  whole_from_one = All-append (λ t. 0 < t.0.var) terms (ones outputs) ex.weights.from_one (All-map (λ t. 0 < t.0.var) (λ l. (l, 1)) outputs ex.from_one)

  top : (x : List Bool) × (value x whole ≡ total whole)
  top = all_true (bound whole) whole whole_apart (bound_within whole whole_from_one)

  row_most : (x : List Bool) → row_cost x row ≤ℤ (offset +ℤ pos (total terms))
  row_most x = let most = value-le-total x row.terms in let greatest = can.greatest in omega (arith, ints)

  -- what has cancelled is at most the degrees
  cancels : (r : ConstraintValue) (sum : IsSum r can.before many) → sum.cancelled ≤ can.before.degree + many.degree
  cancels r sum =
      let x = top.0 in
      let e = top.1 in
      let here = sum.same x in
      let parts = sum_by-append (term_value x) terms (ones outputs) in
      let totals = sum_by-append (λ (t : Literal × ℕ). t.1) terms (ones outputs) in
      let terms_most = value-le-total x terms in
      let outs_most = value-le-total x (ones outputs) in
      let all_outs = scaled_total 1 outputs in
      let low = can.lower x in
      let most = row_most x in
      let m = many_value x in
      let c = core_value x in
      let a = against_is terms lits outputs w ex x in
      let l = lits_most terms lits outputs w ex x in
      let product = times_le w (value x core.terms) (length lits) (omega arith) in
      let degree : many.degree ≡ w * length lits = let d = core_degree in ap (λ (n : ℕ). n * w) d ∙ omega arith in
      omega (arith, ints)

  -- a sum of both is the line for the new terms
  lower_of_sum : (r : ConstraintValue) → IsSum r can.before many → IsLowerLine row (offset +ℤ pos w) (exchanged lits w outputs terms) r
  lower_of_sum r sum x =
      let here = sum.same x in
      let degree = sum.degree in
      let fits = cancels r sum in
      let low = can.lower x in
      let m = many_value x in
      let c = core_value x in
      let a = against_is terms lits outputs w ex x in
      let same = exactly terms lits outputs w ex x in
      let product : w * value x core.terms ≡ w * value x (ones lits) + w * value x (ones (map opposite outputs)) = ap (λ (n : ℕ). w * n) c ∙ omega arith in
      let both : w * value x (ones (map opposite outputs)) + w * value x (ones outputs) ≡ w * length outputs = let p = ap (λ (n : ℕ). w * n) a in omega arith in
      let all : many.degree ≡ w * length lits = let d = core_degree in ap (λ (n : ℕ). n * w) d ∙ omega arith in
      let fewer : w * length lits ≡ w * length outputs + w = let p = ap (λ (n : ℕ). w * n) (sym ex.fewer) in omega arith in
      omega (arith, ints)

  -- ---- sizes

  before_size : size can.before ≤ 3 * total row.terms
  before_size =
      let apart = apart_from_rising can.before.terms can.normal.merged.rising in
      let within = bound_within can.before.terms can.normal.merged.from_one in
      let all = all_true (bound can.before.terms) can.before.terms apart within in
      let none = none_true (bound can.before.terms) can.before.terms apart within in
      let all_is = all.1 in
      let none_is = none.1 in
      let high = can.lower all.0 in
      let low = can.lower none.0 in
      let row_high = value-le-total all.0 row.terms in
      let terms_high = value-le-total none.0 terms in
      let greatest = can.greatest in
      let most = can.most in
      omega (arith, ints)

  many_size : size core * w ≤ 3 * total terms
  many_size =
      let ls = scaled_total 1 (lits ++ map opposite outputs) in
      let long = length-append lits (map opposite outputs) in
      let outs = length-map outputs opposite in
      let fewer = ex.fewer in
      let sums = exchange_sums terms lits outputs w ex in
      let product = sums.product in
      let size_is : size core ≤ 3 * length lits = omega arith in
      let scaled_up : w * size core ≤ w * (3 * length lits) = times_le w (size core) (3 * length lits) size_is in
      omega arith

  many_normal : IsNormal many.terms many.degree
  many_normal = normal-multiplied w core can.counts_normal ex.some (let size_is = many_size in let small = ex.weights.small in omega arith)

  sizes_fit : size can.before + size many ≤ 2 ^ 100
  sizes_fit =
      let a = before_size in
      let b = many_size in
      let c = total-multiplied w core.terms in
      let small = ex.weights.small in
      let row_small = can.small in
      let product : size core * w ≡ total core.terms * w + core.degree * w = omega arith in
      omega arith

  -- ---- tokens

  once : (ts : Terms) → map (changed (λ n. n * 1)) ts ≡ ts
  once [] = refl
  once (t ∷ ts) = ap (λ (n : ℕ). (t.0, n) ∷ map (changed (λ m. m * 1)) ts) (omega arith) ∙ ap (λ (us : Terms). t ∷ us) (once ts)

  many_once : w ≡ 1 → many ≡ core
  many_once e = ap (λ (n : ℕ). multiplied n core) e ∙ constraint_same (multiplied 1 core).terms core.terms (core.degree * 1) core.degree (once core.terms) (omega arith)

  times_on : (stack : List ConstraintValue) (rest : List PolToken) (answer : Answer) → IsValueOn given (many ∷ stack) rest answer → IsValueOn given (core ∷ stack) (times w ++ rest) answer
  times_on stack rest answer goes = by (nat_lt 1 w) refl
    where
      by : (b : Bool) → nat_lt 1 w ≡ b → IsValueOn given (core ∷ stack) ((if b then Mul (pos w) ∷ [] else []) ++ rest) answer
      by true e = step given (Mul (pos w)) (core ∷ stack) (many ∷ stack) rest answer
          (factor_fine w (size_fault (size core * w)) ex.some ∙ size_fine (size core * w) (let size_is = many_size in let small = ex.weights.small in omega arith)) refl goes
      by false e = subst (λ (c : ConstraintValue). IsValueOn given (c ∷ stack) rest answer) (many_once (let most = ltb-false 1 w e in let some = ex.some in omega arith)) goes

  abbrev HasLine : List PolToken → Type 0
  HasLine tokens = (made : ConstraintValue) × IsValueOn given [] tokens (Ok made) × IsLowerLine row (offset +ℤ pos w) (exchanged lits w outputs terms) made

  -- with no line before
  alone : can.before ≡ record { terms = []; degree = 0 } → HasLine (Id line ∷ times w)
  alone is = (
    many,
    push_line given line core [] (times w) (Ok many) can.counts (subst (λ (ts : List PolToken). IsValueOn given (core ∷ []) ts (Ok many)) (append-nil (times w)) (times_on [] [] (Ok many) refl)),
    lower_of_sum many (subst (λ (c : ConstraintValue). IsSum many c many) (sym is) (record { cancelled = 0; same = λ x. omega arith; degree = omega arith; normal = many_normal })),
  )

  -- with one
  both_lines : get given.lines old ≡ Some can.before → HasLine (Id old ∷ Id line ∷ (times w ++ Add ∷ []))
  both_lines is =
      let sum = sum_exists can.before many can.normal many_normal sizes_fit in (
        sum.0,
        push_line given old can.before [] (Id line ∷ (times w ++ Add ∷ [])) (Ok sum.0) is
            (push_line given line core (can.before ∷ []) (times w ++ Add ∷ []) (Ok sum.0) can.counts
            (times_on (can.before ∷ []) (Add ∷ []) (Ok sum.0)
            (step given Add (many ∷ can.before ∷ []) (sum.0 ∷ []) [] (Ok sum.0) (size_fine (size can.before + size many) sizes_fit) (sum.0, sum.1, refl) refl))),
        lower_of_sum sum.0 sum.1,
      )

  has_line : HasLine (lower_tokens old line w)
  has_line = by (old == 0) refl can.named
    where
      by : (b : Bool) → (old == 0) ≡ b → (if b then Some (record { terms = []; degree = 0 }) else get given.lines old) ≡ Some can.before → HasLine (if b then Id line ∷ times w else Id old ∷ Id line ∷ (times w ++ Add ∷ []))
      by true e is = alone (let same : ◌≡◌ {A = ConstraintValue} (record { terms = []; degree = 0 }) can.before = cc in sym same)
      by false e is = both_lines is

pub line_lowers : (given : Given) (row : CostRowValue) (offset : ℤ) (terms : Terms) (lits outputs : List Literal) (w old line : ℕ) →
    CanLower given row offset terms lits outputs w old line →
    LowersOn given row offset (exchanged lits w outputs terms) old line w
line_lowers given row offset terms lits outputs w old line can =
    let has = has_line given row offset terms lits outputs w old line can in
    record { made = has.0; tokens = has.1; lower = has.2 }
