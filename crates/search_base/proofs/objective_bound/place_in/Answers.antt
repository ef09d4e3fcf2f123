-- The place is by binary search; where the line there is of another variable, none has this one.
use Rattle.std.proofs.Common.{ltb, rules, ap, ◌∙◌, arith}
use Rattle.std.proofs.lemmas.List.{get_or_default}
use Rattle.std.proofs.lemmas.List.Sorted.{IsPartitionPoint-from_clause, IsPartitionedBy-ltb}
use Rattle.pb_lin.specs.Place.{IsPlace}
use Rattle.pb_lin.proofs.Places.{IsNonDecreasingBy-rising, IsPlace-from_point, none_at_place}
use Rattle.search_base.specs.declared.objective_bound.ObjectiveLine.{ObjectiveLine}
use Rattle.search_base.proofs.objective_bound.place_in.Goals as goal
use Rattle.search_base.proofs.objective_bound.place_in.Goals.{else-place-lines-via-then-place-lines+else-lines-place, else-place-lines-via-else-place-lines}

pub returns : goal.returns
returns c =
    let lines = c.args.lines.now in
    let var = c.args.var in
    let i = c.partition_point-place.result in
    let place : IsPlace {X = ObjectiveLine} (λ d. d.var) lines var i =
    IsPlace-from_point (λ (d : ObjectiveLine). d.var) lines var i c.partition_point-place.ensures.bound
    (IsPartitionPoint-from_clause (λ (d : ObjectiveLine). ltb d.var var) _ _ c.partition_point-place.ensures.partitioned
    (IsPartitionedBy-ltb (λ (d : ObjectiveLine). d.var) lines var (IsNonDecreasingBy-rising (λ (d : ObjectiveLine). d.var) lines c.requires))
    (λ a r q k. search rules)) in
    let none = none_at_place (λ (d : ObjectiveLine). d.var) lines var i c.requires place
    (elim c.else-place-lines.branch [
      | else-place-lines-via-then-place-lines+else-lines-place w ↦ λ d short e. w.if-lines-place.false
          (ap (λ (x : ObjectiveLine). x.var) (get_or_default lines i (record { var = 0; line = 0 }) d short) ∙ e)
      | else-place-lines-via-else-place-lines w ↦ λ d short e. omega arith
    ]) in
    record {
      is = place;
      none = λ d there e. none there.0 d there.1 (ap (λ (x : ObjectiveLine). x.var) there.2 ∙ e);
    }
