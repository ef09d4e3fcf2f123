-- Costs that meet an aim: what limits they keep to, and what a logged vector makes of the aim.
use Rattle.std.proofs.Common.{◌≡◌, ◌-◌, ◌<◌, ◌^◌, Bool, true, not, ◌&&◌, Option, None, Some, List, [], ◌∷◌, ◌++◌, map, length, refl, ap, sym, subst, ◌∙◌, arith, ℤ, pos, ◌-ℤ◌, ◌≤ℤ◌, ◌<ℤ◌}
use Rattle.std.specs.Prelude.{int_lt, IfSome}
use Rattle.std.specs.List.{All, last_or}
use Rattle.std.proofs.lemmas.Bool.{and_parts, and_from, not_from_false}
use Rattle.std.proofs.lemmas.Int.{ints}
use Rattle.std.proofs.lemmas.List.{length-map}
use Rattle.front_set.specs.Vector.{IsBelow}
use Rattle.front_set.proofs.FrontLaws.{length-IsBelow}
use Rattle.pb_lin.specs.CostRow.{CostRowValue, IsCostRow, row_cost}
use Rattle.pb_lin.specs.Problem.{ProblemValue, problem_costs}
use Rattle.proof_rules.specs.Recording.{Snapshot}
use Rattle.search_base.specs.Boards.{BoardValue, IsBoard}
use Rattle.search_base.specs.Logged.{Logs, LogsNone, logged}
use Rattle.search_base.specs.Turns.{IsTaken}
use Rattle.search_base.proofs.CutClauses.{le_from_test}
use Rattle.search_base.proofs.PutEntries.{last_of_more}
use Rattle.relaxations.specs.Telling.{IsStanding, Tells}
use Rattle.relaxations.proofs.Excesses.{cost_small}
use Rattle.relaxations.proofs.Remaining.{none_left}
use Rattle.relaxations.specs.declared.below.Below.{Below}
use Rattle.relaxations.specs.declared.below.Below.TheVariants.{Model, End, Above}
use Rattle.bioptsat.specs.declared.aim.Aim.{Aim}
use Rattle.bioptsat.specs.declared.aim.Aim.TheVariants.{Anything, First, Second}
use Rattle.bioptsat.specs.Aims.{GivesUp, Improves, Meets, Serves, aim_after, aim_at, first, given_up, own_number, second, vector_of}
use Rattle.bioptsat.specs.Asking.{IsOneLess, TellsMeeting, TellsOfAim}

-- ---- two numbers

both_below : (u : List ℤ) (a b : ℤ) → IsBelow u (a ∷ b ∷ []) → (first u ≤ℤ a) × (second u ≤ℤ b)
both_below [] a b below = cc
both_below (c ∷ []) a b below = absurd (let long = length-IsBelow (c ∷ []) (a ∷ b ∷ []) below in omega arith)
both_below (c ∷ d ∷ []) a b below =
    let one = and_parts (not (int_lt a c)) (not (int_lt b d) && true) below in
    let other = and_parts (not (int_lt b d)) true one.1 in
    (le_from_test c a one.0, le_from_test d b other.0)
both_below (c ∷ d ∷ e ∷ u) a b below =
    absurd (let long = length-IsBelow (c ∷ d ∷ e ∷ u) (a ∷ b ∷ []) below in omega arith)

below_both : (u : List ℤ) (a b : ℤ) → length u ≡ 2 → first u ≤ℤ a → second u ≤ℤ b → IsBelow u (a ∷ b ∷ [])
below_both [] a b two one other = absurd (omega arith)
below_both (c ∷ []) a b two one other = absurd (omega arith)
below_both (c ∷ d ∷ []) a b two one other =
    and_from (not (int_lt a c)) (not (int_lt b d) && true) (not_from_false (int_lt a c) (grind (arith, ints)))
    (and_from (not (int_lt b d)) true (not_from_false (int_lt b d) (grind (arith, ints))) refl)
below_both (c ∷ d ∷ e ∷ u) a b two one other = absurd (omega arith)

both_at : (u w : List ℤ) → length w ≡ 2 → IsBelow u w → (first u ≤ℤ first w) × (second u ≤ℤ second w)
both_at u [] two below = absurd (omega arith)
both_at u (a ∷ []) two below = absurd (omega arith)
both_at u (a ∷ b ∷ []) two below = both_below u a b below
both_at u (a ∷ b ∷ c ∷ w) two below = absurd (omega arith)

-- ---- costs

abbrev AreCostRows : List CostRowValue → Type 0
AreCostRows rows = All (λ r. IsCostRow r.terms r.offset) rows

low_cost : (x : List Bool) (r : CostRowValue) → IsCostRow r.terms r.offset → (pos 0 -ℤ pos (2 ^ 63)) <ℤ row_cost x r
low_cost x r row = let least = row.least in omega (arith, ints)

high_cost : (x : List Bool) (r : CostRowValue) → IsCostRow r.terms r.offset → row_cost x r ≤ℤ pos (2 ^ 63 - 1)
high_cost x r row = let small = cost_small x r row in omega (arith, ints)

first_low : (x : List Bool) (rows : List CostRowValue) → AreCostRows rows → length rows ≡ 2
    → (pos 0 -ℤ pos (2 ^ 63)) <ℤ first (map (row_cost x) rows)
first_low x [] all two = absurd (omega arith)
first_low x (r ∷ rows) all two = low_cost x r (all 0 r (omega arith))

second_low : (x : List Bool) (rows : List CostRowValue) → AreCostRows rows → length rows ≡ 2
    → (pos 0 -ℤ pos (2 ^ 63)) <ℤ second (map (row_cost x) rows)
second_low x [] all two = absurd (omega arith)
second_low x (r ∷ []) all two = absurd (omega arith)
second_low x (r ∷ q ∷ rows) all two = low_cost x q (all 1 q (omega arith))

second_high : (x : List Bool) (rows : List CostRowValue) → AreCostRows rows → length rows ≡ 2
    → second (map (row_cost x) rows) ≤ℤ pos (2 ^ 63 - 1)
second_high x [] all two = absurd (omega arith)
second_high x (r ∷ []) all two = absurd (omega arith)
second_high x (r ∷ q ∷ rows) all two = high_cost x q (all 1 q (omega arith))

-- ---- answers

-- what is at most one less than a number is less, unless it is the least i64
under : (u v n : ℤ) → IsOneLess v n → (pos 0 -ℤ pos (2 ^ 63)) <ℤ u → u ≤ℤ n → u <ℤ v
under u v n less low most = grind (arith, ints, less.above, less.least)

at_most : (u v n : ℤ) → IsOneLess v n → (pos 0 -ℤ pos (2 ^ 63)) <ℤ u → u <ℤ v → u ≤ℤ n
at_most u v n less low lower = grind (arith, ints, less.above)

module _ (b : Snapshot) (v : List ℤ) (all : AreCostRows b.problem.costs) (two : length b.problem.costs ≡ 2) where
  costs_two : (x : List Bool) → length (problem_costs b.problem x) ≡ 2
  costs_two x = length-map b.problem.costs (row_cost x) ∙ two

  pub told_first : (limit : ℤ) (below : Below) → IsOneLess (first v) limit
      → Tells b (limit ∷ pos (2 ^ 63 - 1) ∷ []) below → TellsMeeting b (First v) below
  told_first n (Model x) less tells =
      let parts = both_below (problem_costs b.problem x) n (pos (2 ^ 63 - 1)) tells.1 in
      (tells.0, under (first (problem_costs b.problem x)) (first v) n less (first_low x b.problem.costs all two) parts.0)
  told_first n (End id) less tells = tells
  told_first n (Above stands) less tells = λ left.
      let x = left.2 in
      none_left b (n ∷ pos (2 ^ 63 - 1) ∷ []) (IsStanding stands) tells.0 (
        left.0,
        left.1,
        x,
        left.3,
        below_both (problem_costs b.problem x) n (pos (2 ^ 63 - 1)) (costs_two x)
            (at_most (first (problem_costs b.problem x)) (first v) n less (first_low x b.problem.costs all two) left.4)
            (second_high x b.problem.costs all two),
      )

  pub told_second : (limit : ℤ) (below : Below) → IsOneLess (second v) limit
      → Tells b (first v ∷ limit ∷ []) below → TellsMeeting b (Second v) below
  told_second n (Model x) less tells =
      let parts = both_below (problem_costs b.problem x) (first v) n tells.1 in (
        tells.0,
        (parts.0, under (second (problem_costs b.problem x)) (second v) n less (second_low x b.problem.costs all two) parts.1),
      )
  told_second n (End id) less tells = tells
  told_second n (Above stands) less tells = λ left.
      let x = left.2 in
      none_left b (first v ∷ n ∷ []) (IsStanding stands) tells.0 (
        left.0,
        left.1,
        x,
        left.3,
        below_both (problem_costs b.problem x) (first v) n (costs_two x) left.4.0
            (at_most (second (problem_costs b.problem x)) (second v) n less (second_low x b.problem.costs all two) left.4.1),
      )

-- ---- turns

meets_again : (aim : Aim) (u w : List ℤ) → length w ≡ 2 → IsBelow u w → Meets aim w → Meets aim u
meets_again Anything u w two below meets = tt
meets_again (First v) u w two below meets =
    let parts = both_at u w two below in
    let one = parts.0 in
    omega (arith, ints)
meets_again (Second v) u w two below meets =
    let parts = both_at u w two below in
    let one = parts.0 in
    let other = parts.1 in
    let here = meets.0 in
    let there = meets.1 in
    (omega (arith, ints), omega (arith, ints))

-- what is told of a model
model_meets : (m : Snapshot) (aim : Aim) (x : List Bool) → TellsOfAim m aim (Model x)
    → Meets aim (problem_costs m.problem x)
model_meets m Anything x tells = tt
model_meets m (First v) x tells = tells.1
model_meets m (Second v) x tells = tells.1

aim_has : (aim : Aim) (u : List ℤ) → vector_of (aim_at aim u) ≡ Some u
aim_has Anything u = refl
aim_has (First v) u = refl
aim_has (Second v) u = refl

-- the board's last vector is the one that was logged for the model
module _ (m b : Snapshot) {front : BoardValue} (x : List Bool) (board : BoardValue) (aim now : Aim)
    (two : length m.problem.costs ≡ 2) (taken : IsTaken m b front x) (same : b.problem ≡ m.problem) (is : IsBoard board (logged b.problem b.lines))
    (after : now ≡ aim_after aim board.last) where
  is_logged : now ≡ aim_at aim taken.found.costs
  is_logged =
      after
      ∙ ap (λ (last : Option (List ℤ)). aim_after aim last)
      (is.last
      ∙ ap (λ (vs : List (List ℤ)). last_or None vs)
      (ap (λ (p : ProblemValue). logged p b.lines) same ∙ taken.found.logs)
      ∙ last_of_more (logged m.problem m.lines) taken.found.costs)

  costs_count : length (problem_costs m.problem x) ≡ 2
  costs_count = length-map m.problem.costs (row_cost x) ∙ two

  pub serves_after : Serves now b.problem
  serves_after = record {
    count = ap (λ (p : ProblemValue). length p.costs) same ∙ two;
    numbers =
        subst (λ (last : Option (List ℤ)). IfSome last (λ v. length v ≡ 2))
        (sym (ap vector_of is_logged ∙ aim_has aim taken.found.costs))
        (length-IsBelow taken.found.costs (problem_costs m.problem x) taken.below ∙ costs_count);
  }

  pub improves : (a : Snapshot) → m.problem ≡ a.problem → LogsNone a.problem a.lines m.lines
      → TellsOfAim m aim (Model x) → Improves a b aim now
  improves a problem none tells =
      let costs = taken.found.costs in
      let logs : Logs a.problem m.lines b.lines costs =
      subst (λ (p : ProblemValue). Logs p m.lines b.lines costs) problem taken.found.logs in
      record {
        costs = costs;
        logs = logs ∙ ap (λ (vs : List (List ℤ)). vs ++ costs ∷ []) none;
        meets = meets_again aim costs (problem_costs m.problem x) costs_count taken.below (model_meets m aim x tells);
        aims = is_logged;
      }

-- where nothing meets the aim, it is given up
pub gives_up : (b : Snapshot) (aim now : Aim) (stands : List Bool) → TellsOfAim b aim (Above stands)
    → now ≡ given_up aim → GivesUp b aim now
gives_up b Anything now stands tells given = absurd tells
gives_up b (First v) now stands tells given = record { none = tells; given = given }
gives_up b (Second v) now stands tells given = record { none = tells; given = given }

pub aim_falls : (b : Snapshot) (aim now : Aim) (stands : List Bool) → TellsOfAim b aim (Above stands)
    → now ≡ given_up aim → own_number now < own_number aim
aim_falls b Anything now stands tells given = absurd tells
aim_falls b (First v) now stands tells given =
    subst (λ (a : Aim). own_number a < 2) (sym given) (omega arith)
aim_falls b (Second v) now stands tells given =
    subst (λ (a : Aim). own_number a < 1) (sym given) (omega arith)

pub given_serves : (p : ProblemValue) (aim now : Aim) → Serves aim p → now ≡ given_up aim → Serves now p
given_serves p Anything now serves given = subst (λ (a : Aim). Serves a p) (sym given) serves
given_serves p (First v) now serves given =
    subst (λ (a : Aim). Serves a p) (sym given) (record { count = serves.count; numbers = serves.numbers })
given_serves p (Second v) now serves given =
    subst (λ (a : Aim). Serves a p) (sym given) (record { count = serves.count; numbers = tt })
