use Rattle.std.proofs.Common.{rules, ltb}
use Rattle.std.proofs.lemmas.List.Sorted.{IsPartitionPoint-from_clause, IsPartitionedBy-ltb}
use Rattle.pb_lin.proofs.Places.{IsNonDecreasingBy-rising, IsPlace-from_point}
use Rattle.pb_lin.proofs.witness.image_place.Goals as goal

pub returns : goal.returns
returns c = IsPlace-from_point (λ i. i.0) _ c.args.var _ c.partition_point.ensures.bound (IsPartitionPoint-from_clause (λ i. ltb i.0 c.args.var) _ _ c.partition_point.ensures.partitioned (IsPartitionedBy-ltb (λ i. i.0) _ c.args.var (IsNonDecreasingBy-rising (λ i. i.0) _ c.requires)) (λ a r q k. search rules))
