-- A literal follows the sum of a node, where the outputs of the node's children imply it.
use Rattle.std.proofs.Common.{◌≡◌, ◌⊎◌, inl, inr, ℕ, ◌+◌, ◌<◌, ◌≤◌, Bool, true, List, [], ◌∷◌, ◌++◌, get_or, refl, ap, subst, ⊎_elim, arith}
use Rattle.std.specs.List.{All, Contains}
use Rattle.std.proofs.lemmas.Bool.{cases_lt}
use Rattle.std.proofs.lemmas.List.Elements.{All-nil, All-cons, All-contains}
use Rattle.std.proofs.lemmas.List.Sums.{sum_by-append}
use Rattle.scut_base.specs.Assignment.{lit_true}
use Rattle.pb_lin.specs.Constraint.{term_value, value}
use Rattle.cutting_planes.proofs.Terms.{Terms}
use Rattle.proof_laws.specs.State.{StateValue}
use Rattle.proof_laws.proofs.Definitions.{zero_or_more}
use Rattle.proof_rules.specs.Recording.{Snapshot}
use Rattle.sum_outputs.specs.Totals.{IsLeastSum}
use Rattle.sum_outputs.specs.Adding.{IsReached, KeptHold}
use Rattle.sum_outputs.specs.Joining.{Follows, IsOutputAt, IsCompleteTo, AreChildren, AreImplying, HaveLesser, PairsImply}
use Rattle.sum_outputs.specs.declared.sum_output.SumOutput.{SumOutput}
use Rattle.sum_outputs.specs.declared.inner.Inner.{Inner}
use Rattle.sum_outputs.proofs.Attaining.{attain_first, attain_second}

-- an output of exactly this sum, or one of at least k whose sum is below it
abbrev pub HasSide : List SumOutput → ℕ → ℕ → Type 0
HasSide os k m = ((o : SumOutput) × Contains os o × (o.sum ≡ m)) ⊎ ((o : SumOutput) × Contains os o × (k ≤ o.sum) × (o.sum ≤ m))

-- what each of some outputs has, it has of what follows
pub lesser_map : (os : List SumOutput) (from below : ℕ) (P Q : SumOutput → Type 0) → ((q : SumOutput) → P q → Q q) → HaveLesser os from below P → HaveLesser os from below Q
lesser_map os from below P Q onward have o in' reach less = let got = have o in' reach less in (got.0, got.1, got.2, onward got.0 got.3)

all_one : (x : List Bool) (o : SumOutput) → lit_true x o.lit ≡ true → All (λ q. lit_true x q.lit ≡ true) (o ∷ [])
all_one x o is = All-cons (λ q. lit_true x q.lit ≡ true) o [] is (All-nil (λ q. lit_true x q.lit ≡ true))

all_two : (x : List Bool) (o p : SumOutput) → lit_true x o.lit ≡ true → lit_true x p.lit ≡ true → All (λ q. lit_true x q.lit ≡ true) (o ∷ p ∷ [])
all_two x o p is is' = All-cons (λ q. lit_true x q.lit ≡ true) o (p ∷ []) is (all_one x p is')

module _ (a : Snapshot) (s : StateValue) (reached : IsReached a s) (node : Inner) (are : AreChildren a s node.first.terms.now node.second.terms.now node.first.outputs.now node.second.outputs.now) (target : SumOutput) (k below : ℕ)
    (left : IsCompleteTo node.first.terms.now node.first.outputs.now k) (right : IsCompleteTo node.second.terms.now node.second.outputs.now k)
    (least : IsLeastSum (node.first.terms.now ++ node.second.terms.now) k target.sum) (some : 0 < target.sum) (by : AreImplying a node target below) where
  abbrev first : Terms
  first = node.first.terms.now

  abbrev second : Terms
  second = node.second.terms.now

  abbrev firsts : List SumOutput
  firsts = node.first.outputs.now

  abbrev seconds : List SumOutput
  seconds = node.second.outputs.now

  module _ (x : List Bool) (hold : KeptHold a.problem a.lines s x) (low : value x (first ++ second) < below) (reach : target.sum ≤ value x (first ++ second)) where
    both : value x (first ++ second) ≡ value x first + value x second
    both = sum_by-append (term_value x) first second

    first_true : (f : SumOutput) → Contains firsts f → f.sum ≤ value x first → lit_true x f.lit ≡ true
    first_true f in' most = (All-contains (IsOutputAt a s first) firsts f are.of_first.each in').follows x hold most

    second_true : (g : SumOutput) → Contains seconds g → g.sum ≤ value x second → lit_true x g.lit ≡ true
    second_true g in' most = (All-contains (IsOutputAt a s second) seconds g are.of_second.each in').follows x hold most

    -- one output alone has a sum that is large enough: the least such one implies the target
    single_first : (f : SumOutput) → Contains firsts f → target.sum ≤ f.sum → f.sum ≤ value x first → lit_true x target.lit ≡ true
    single_first f in' large less =
        let sum = both in
        let got = by.by_firsts f in' large (omega arith) in
        let small = got.2 in
        got.3 s reached x hold (all_one x got.0 (first_true got.0 got.1 (omega arith)))

    single_second : (g : SumOutput) → Contains seconds g → target.sum ≤ g.sum → g.sum ≤ value x second → lit_true x target.lit ≡ true
    single_second g in' large less =
        let sum = both in
        let got = by.by_seconds g in' large (omega arith) in
        let small = got.2 in
        got.3 s reached x hold (all_one x got.0 (second_true got.0 got.1 (omega arith)))

    by_first : (f : SumOutput) → Contains firsts f → k ≤ f.sum → f.sum ≤ value x first → lit_true x target.lit ≡ true
    by_first f in' most less =
        let is = All-contains (IsOutputAt a s first) firsts f are.of_first.each in' in
        single_first f in' (least.least f.sum (attain_first first second are.weights f.sum is.attainable) most) less

    by_second : (g : SumOutput) → Contains seconds g → k ≤ g.sum → g.sum ≤ value x second → lit_true x target.lit ≡ true
    by_second g in' most less =
        let is = All-contains (IsOutputAt a s second) seconds g are.of_second.each in' in
        single_second g in' (least.least g.sum (attain_second first second are.weights g.sum is.attainable) most) less

    -- with an output below the target the least partner with which it reaches that implies it
    pair_of : (f : SumOutput) → Contains firsts f → f.sum < target.sum → PairsImply a f seconds target below
    pair_of f (i, short, is) small =
        let sums : (get_or firsts i f).sum ≡ f.sum = ap (λ (o : SumOutput). o.sum) is in
        subst (λ (o : SumOutput). PairsImply a o seconds target below) is (by.by_pairs i f short (omega arith))

    with_partner : (f g : SumOutput) → Contains firsts f → Contains seconds g → f.sum < target.sum → f.sum ≡ value x first → g.sum ≡ value x second → lit_true x target.lit ≡ true
    with_partner f g in' in'' small is is' =
        let sum = both in
        let got = pair_of f in' small g in'' (omega arith) (omega arith) in
        let less = got.2 in
        got.3 s reached x hold (all_two x f got.0 (first_true f in' (omega arith)) (second_true got.0 got.1 (omega arith)))

    exact_first : value x second ≡ 0 → HasSide firsts k (value x first) → lit_true x target.lit ≡ true
    exact_first none (inl (f, in', is)) = let sum = both in single_first f in' (omega arith) (omega arith)
    exact_first none (inr (f, in', most, less)) = by_first f in' most less

    exact_second : value x first ≡ 0 → HasSide seconds k (value x second) → lit_true x target.lit ≡ true
    exact_second none (inl (g, in', is)) = let sum = both in single_second g in' (omega arith) (omega arith)
    exact_second none (inr (g, in', most, less)) = by_second g in' most less

    exact_both : HasSide firsts k (value x first) → HasSide seconds k (value x second) → lit_true x target.lit ≡ true
    exact_both (inl (f, in', is)) (inl (g, in'', is')) = ⊎_elim
        (λ (small : f.sum < target.sum). with_partner f g in' in'' small is is')
        (λ (large : target.sum ≤ f.sum). single_first f in' large (omega arith))
        (cases_lt f.sum target.sum)
    exact_both (inl f) (inr (g, in', most, less)) = by_second g in' most less
    exact_both (inr (f, in', most, less)) g = by_first f in' most less

    pub target_true : lit_true x target.lit ≡ true
    target_true =
        let sum = both in
        ⊎_elim
        (λ (none : value x first ≡ 0). ⊎_elim
        (λ (none' : value x second ≡ 0). absurd (omega arith))
        (λ (more : 0 < value x second). exact_second none (right (value x second) (x, refl) more))
        (zero_or_more (value x second)))
        (λ (more : 0 < value x first). ⊎_elim
        (λ (none : value x second ≡ 0). exact_first none (left (value x first) (x, refl) more))
        (λ (more' : 0 < value x second). exact_both (left (value x first) (x, refl) more) (right (value x second) (x, refl) more'))
        (zero_or_more (value x second)))
        (zero_or_more (value x first))

  -- the target follows the sum, where it does from `below` on
  pub target_follows : ((x : List Bool) → KeptHold a.problem a.lines s x → below ≤ value x (first ++ second) → lit_true x target.lit ≡ true) → Follows a s (first ++ second) target
  target_follows above x hold reach = ⊎_elim
      (λ (low : value x (first ++ second) < below). target_true x hold low reach)
      (λ (high : below ≤ value x (first ++ second)). above x hold high)
      (cases_lt (value x (first ++ second)) below)
