-- The output at the first place whose sum isn't below the number is the least that isn't.
use Rattle.std.proofs.Common.{◌≡◌, ℕ, ◌<◌, ◌≤◌, List, get_or, length, ap, sym, arith}
use Rattle.std.specs.List.{AllPairs}
use Rattle.pb_lin.specs.Place.{IsPlace}
use Rattle.pb_lin.proofs.Places.{IsNonDecreasingBy-rising}
use Rattle.sum_outputs.specs.declared.sum_output.SumOutput.{SumOutput}
use Rattle.sum_outputs.proofs.OutputsLater.{from_place}
use Rattle.sum_outputs.proofs.clauses.least_between.Goals as goal

-- none whose sum isn't below the number is less than the output at that place
least_at : (os : List SumOutput) (n place : ℕ) (q : SumOutput) → AllPairs (λ o p. o.sum < p.sum) os → IsPlace (λ o. o.sum) os n place → ((d : SumOutput) → q ≡ get_or os place d) →
    (k : ℕ) (d : SumOutput) → k < length os → n ≤ (get_or os k d).sum → q.sum ≤ (get_or os k d).sum
least_at os n place q rising at is k d short reach =
    let before : place ≤ k = from_place (λ (o : SumOutput). o.sum) os n place k d at reach in
    let same : q.sum ≡ (get_or os place d).sum = ap (λ (o : SumOutput). o.sum) (is d) in
    let rise : (get_or os place d).sum ≤ (get_or os k d).sum = IsNonDecreasingBy-rising (λ (o : SumOutput). o.sum) os rising place k d before short in
    omega arith

pub returns-then-least-below : goal.returns-then-least-below
returns-then-least-below c =
    let found = c.in_ok-least.ensures.lookup.3 in
    let q = c.in_ok-least.least.now in
    let same : q.sum ≡ (get_or c.args.outputs.now c.place_of.result q).sum = ap (λ (o : SumOutput). o.sum) (found.1 q) in
    let above = c.place_of.ensures.above c.place_of.result q (omega arith) found.0 in
    ((c.place_of.result, found.0, sym (found.1 q)), omega arith, c.if-least-below.true, least_at c.args.outputs.now c.args.from c.place_of.result q c.requires c.place_of.ensures found.1)

pub returns-else-least-below : goal.returns-else-least-below
returns-else-least-below c = λ k d short reach.
    let found = c.in_ok-least.ensures.lookup.3 in
    let q = c.in_ok-least.least.now in
    let large = c.if-least-below.false in
    let least = least_at c.args.outputs.now c.args.from c.place_of.result q c.requires c.place_of.ensures found.1 k d short reach in
    omega arith
