-- What limits and answers say of the fence.
use Rattle.std.proofs.Common.{◌≡◌, ℕ, ◌-◌, ◌^◌, ◌<◌, Bool, true, false, List, [], ◌∷◌, ◌++◌, length, ap, refl, sym, subst, ◌∙◌, arith, ℤ, ◌≤ℤ◌, ◌<ℤ◌, pos}
use Rattle.std.specs.Prelude.{slice_index_or}
use Rattle.std.specs.Int.{int_min}
use Rattle.std.proofs.lemmas.Int.{ints}
use Rattle.std.proofs.lemmas.List.{length-map}
use Rattle.front_set.specs.Vector.{IsBelow}
use Rattle.front_set.proofs.FrontLaws.{IsBelow-trans, length-IsBelow}
use Rattle.pb_lin.specs.Problem.{ProblemValue, problem_costs}
use Rattle.proof_rules.specs.Recording.{Snapshot}
use Rattle.search_base.specs.Boards.{BoardValue}
use Rattle.search_base.specs.Logged.{Logs, LogsNone}
use Rattle.search_base.specs.CostBounds.{IsNextValue}
use Rattle.search_base.specs.Turns.{IsTaken}
use Rattle.search_base.specs.declared.objective_bound.ObjectiveBound.{ObjectiveBound}
use Rattle.relaxations.specs.Telling.{CanRise, IsStanding, StandInTheWay, Tells, number_at, stands_at}
use Rattle.relaxations.specs.declared.below.Below.{Below}
use Rattle.relaxations.specs.declared.below.Below.TheVariants.{Model, End, Above}
use Rattle.relaxations.proofs.Remaining.{below_at}
use Rattle.lower_bounding.specs.Fences.{FenceValue, Serves, greatest_cost, own_number, room, FindsInside, HasRisen, Raises}
use Rattle.lower_bounding.specs.Raising.{AreLimits, CanRaise, IsLimit, IsRaised, RisesWhere, TellsOfFence}
use Rattle.lower_bounding.proofs.Vectors.{below_from, costs_within, room_less}

-- ---- limits

keeps_to : (f g l c : ℤ) → IsLimit f g l → c ≤ℤ l → c ≤ℤ g → c ≤ℤ f
keeps_to f g l c limit one most = grind (arith, ints, limit.below, limit.at_top)

below_top : (f g l : ℤ) → IsLimit f g l → l <ℤ pos (2 ^ 63 - 1) → f <ℤ g
below_top f g l limit low = grind (arith, ints, limit.below, limit.at_top)

module _ (s : FenceValue) (p : ProblemValue) (serves : Serves s p) where
  pub tops_length : length s.tops ≡ length s.fence
  tops_length = sym (length-IsBelow s.fence s.tops serves.within)

  pub rows_length : length s.fence ≡ length p.costs
  rows_length =
      length-IsBelow s.fence s.tops serves.within
      ∙ ap (λ (v : List ℤ). length v) serves.tops
      ∙ length-map p.costs greatest_cost

module _ (b : Snapshot) (s : FenceValue) (limits : List ℤ) (serves : Serves s b.problem)
    (are : AreLimits s.fence s.tops limits) where
  fence_below : IsBelow s.fence limits
  fence_below = below_from s.fence limits are.count (λ i short. (are.each i short).least)

  -- what keeps to the limits keeps to the fence
  inside : (x : List Bool) → IsBelow (problem_costs b.problem x) limits → IsBelow (problem_costs b.problem x) s.fence
  inside x below =
      let costs = problem_costs b.problem x in
      let within : IsBelow costs s.tops =
      subst (λ (v : List ℤ). IsBelow costs v) (sym serves.tops) (costs_within x b.problem.costs) in
      let long = length-IsBelow costs limits below in
      let count = are.count in
      below_from costs s.fence (omega arith) (λ i short.
      keeps_to (number_at s.fence i) (number_at s.tops i) (number_at limits i) (number_at costs i) (are.each i (omega arith))
      (below_at costs limits i below short) (below_at costs s.tops i within short))

  can_raise : (stands : List Bool) → CanRise limits stands → CanRaise s.fence s.tops stands
  can_raise stands can =
      let count = can.count in
      let long = are.count in
      record {
        count = count ∙ long;
        some = (can.some.0, (let short = can.some.1 in omega arith), can.some.2);
        each = λ i short is.
            below_top (number_at s.fence i) (number_at s.tops i) (number_at limits i) (are.each i short)
            (can.each i (omega arith) is);
      }

  pub told : (below : Below) → Tells b limits below → TellsOfFence b s below
  told (Model x) tells = (tells.0, inside x tells.1)
  told (End id) tells = tells
  told (Above stands) tells = (
    (λ left. tells.0 (
      left.0,
      left.1,
      left.2,
      left.3,
      λ i short stands.
          let kept = left.4 i (let long = are.count in omega arith) stands in
          let least = (are.each i (let long = are.count in omega arith)).least in
          omega (arith, ints),
    )),
    can_raise stands tells.1,
  )

-- ---- raising

-- an objective that is there has a reform, whose next value is above
pub next_above : (bounds : List ObjectiveBound) (i : ℕ) (n next : ℤ) → i < length bounds
    → ((e : ObjectiveBound) → IsNextValue (slice_index_or bounds i e).reform n next) → n <ℤ next
next_above [] i n next there is = absurd (omega arith)
next_above (bound ∷ bounds) i n next there is = (is bound).above

pub rises_to : (b : Bool) (f g next n : ℤ) → b ≡ true → (b ≡ true → f <ℤ g) → f <ℤ next → n ≡ int_min next g
    → RisesWhere b f g n
rises_to true f g next n stands below above is =
    let low = below refl in
    (grind (arith, ints), grind (arith, ints))
rises_to false f g next n stands below above is = cc

rises_up : (b : Bool) (f g n : ℤ) → RisesWhere b f g n → f ≤ℤ n
rises_up true f g n rises = let less = rises.0 in omega (arith, ints)
rises_up false f g n rises = omega (arith, ints)

rises_within : (b : Bool) (f g n : ℤ) → RisesWhere b f g n → f ≤ℤ g → n ≤ℤ g
rises_within true f g n rises most = rises.1
rises_within false f g n rises most = omega (arith, ints)

rises_true : (b : Bool) (f g n : ℤ) → b ≡ true → RisesWhere b f g n → f <ℤ n
rises_true true f g n is rises = rises.0
rises_true false f g n is rises = cc

module _ (s : FenceValue) (p : ProblemValue) (serves : Serves s p) (stands : List Bool)
    (can : CanRaise s.fence s.tops stands) (now : List ℤ) (is : IsRaised s.fence s.tops stands now) where
  raised_up : IsBelow s.fence now
  raised_up = below_from s.fence now is.count (λ i short.
      rises_up (stands_at stands i) (number_at s.fence i) (number_at s.tops i) (number_at now i) (is.each i short))

  raised_within : IsBelow now s.tops
  raised_within =
      let count = is.count in
      let long = tops_length s p serves in
      below_from now s.tops (omega arith) (λ i short.
      let inside : i < length s.fence = omega arith in
      rises_within (stands_at stands i) (number_at s.fence i) (number_at s.tops i) (number_at now i) (is.each i inside)
      (below_at s.fence s.tops i serves.within inside))

  -- what stands in the way has risen
  standing_rose : (i : ℕ) → i < length s.fence → IsStanding stands i → HasRisen s.fence now i
  standing_rose i short is_one =
      rises_true (stands_at stands i) (number_at s.fence i) (number_at s.tops i) (number_at now i) is_one (is.each i short)

  has_risen : (i : ℕ) × (i < length s.fence) × HasRisen s.fence now i
  has_risen = (can.some.0, can.some.1, standing_rose can.some.0 can.some.1 can.some.2)

  pub raised_falls : room now s.tops < own_number s
  raised_falls = room_less has_risen.0 s.fence now s.tops raised_up raised_within has_risen.1 has_risen.2

  pub raised_serves : Serves (record { fence = now; tops = s.tops }) p
  raised_serves = record { tops = serves.tops; within = raised_within }

  pub raises : (b : Snapshot) → StandInTheWay b s.fence stands → Raises b s.fence now
  raises b none = record {
    up = raised_up;
    some = has_risen;
    none = λ left. none (
      left.0,
      left.1,
      left.2,
      left.3,
      λ i short is_one.
          left.4 i short (standing_rose i short is_one),
    );
  }

-- ---- a turn

pub finds_inside : (a m b : Snapshot) {front : BoardValue} (x : List Bool) (fence : List ℤ) → m.problem ≡ a.problem
    → LogsNone a.problem a.lines m.lines → IsBelow (problem_costs m.problem x) fence → IsTaken m b front x
    → FindsInside a b fence fence
finds_inside a m b x fence problem none below taken =
    let costs = taken.found.costs in
    let logs : Logs a.problem m.lines b.lines costs =
    subst (λ (p : ProblemValue). Logs p m.lines b.lines costs) problem taken.found.logs in
    record {
      costs = costs;
      logs = logs ∙ ap (λ (vs : List (List ℤ)). vs ++ costs ∷ []) none;
      below = IsBelow-trans costs (problem_costs m.problem x) fence taken.below below;
      same = refl;
    }
