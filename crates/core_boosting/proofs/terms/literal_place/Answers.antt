use Rattle.std.proofs.Common.{rules, ltb}
use Rattle.std.proofs.lemmas.List.Sorted.{IsPartitionPoint-from_clause, IsPartitionedBy-ltb}
use Rattle.pb_lin.proofs.Places.{IsNonDecreasingBy-rising, IsPlace-from_point}
use Rattle.core_boosting.proofs.terms.literal_place.Goals as goal

pub returns : goal.returns
returns c = IsPlace-from_point (λ l. l.var) _ c.args.var _ c.partition_point.ensures.bound (IsPartitionPoint-from_clause (λ l. ltb l.var c.args.var) _ _ c.partition_point.ensures.partitioned (IsPartitionedBy-ltb (λ l. l.var) _ c.args.var (IsNonDecreasingBy-rising (λ l. l.var) _ c.requires)) (λ a r q k. search rules))
