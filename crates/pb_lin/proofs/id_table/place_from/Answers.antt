use Rattle.std.proofs.Common.{rules, ltb}
use Rattle.std.proofs.lemmas.List.Sorted.{IsPartitionPoint-from_clause, IsPartitionedBy-ltb}
use Rattle.pb_lin.proofs.Places.{IsNonDecreasingBy-rising, IsPlace-from_point}
use Rattle.pb_lin.proofs.id_table.place_from.Goals as goal

pub returns : goal.returns
returns c = IsPlace-from_point (λ i. i) _ c.args.id _ c.partition_point.ensures.bound (IsPartitionPoint-from_clause (λ i. ltb i c.args.id) _ _ c.partition_point.ensures.partitioned (IsPartitionedBy-ltb (λ i. i) _ c.args.id (IsNonDecreasingBy-rising (λ i. i) _ c.requires)) (λ a r q k. search rules))
