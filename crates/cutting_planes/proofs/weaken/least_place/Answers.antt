use Rattle.std.proofs.Common.{rules, ltb}
use Rattle.std.proofs.lemmas.List.Sorted.{IsPartitionPoint-from_clause, IsPartitionedBy-ltb}
use Rattle.pb_lin.proofs.Places.{IsNonDecreasingBy-rising, IsPlace-from_point}
use Rattle.cutting_planes.proofs.weaken.least_place.Goals as goal

pub returns : goal.returns
returns c = IsPlace-from_point (λ t. t.0.var) _ c.args.var _ c.partition_point.ensures.bound (IsPartitionPoint-from_clause (λ t. ltb t.0.var c.args.var) _ _ c.partition_point.ensures.partitioned (IsPartitionedBy-ltb (λ t. t.0.var) _ c.args.var (IsNonDecreasingBy-rising (λ t. t.0.var) _ c.requires)) (λ a r q k. search rules))
