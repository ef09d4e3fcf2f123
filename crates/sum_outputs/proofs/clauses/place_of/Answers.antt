-- The place is a point of partition.
use Rattle.std.proofs.Common.{rules, ltb}
use Rattle.std.proofs.lemmas.List.Sorted.{IsPartitionPoint-from_clause, IsPartitionedBy-ltb}
use Rattle.pb_lin.proofs.Places.{IsNonDecreasingBy-rising, IsPlace-from_point}
use Rattle.sum_outputs.specs.declared.sum_output.SumOutput.{SumOutput}
use Rattle.sum_outputs.proofs.clauses.place_of.Goals as goal

pub returns : goal.returns
returns c = IsPlace-from_point (λ (o : SumOutput). o.sum) _ c.args.number _ c.partition_point.ensures.bound (IsPartitionPoint-from_clause (λ (o : SumOutput). ltb o.sum c.args.number) _ _ c.partition_point.ensures.partitioned (IsPartitionedBy-ltb (λ (o : SumOutput). o.sum) _ c.args.number (IsNonDecreasingBy-rising (λ (o : SumOutput). o.sum) _ c.requires)) (λ a r q k. search rules))
