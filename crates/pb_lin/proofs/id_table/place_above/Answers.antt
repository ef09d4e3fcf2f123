use Rattle.std.proofs.Common.{rules, leb}
use Rattle.std.proofs.lemmas.List.Sorted.{IsPartitionPoint-from_clause, IsPartitionedBy-leb}
use Rattle.pb_lin.proofs.Places.{IsNonDecreasingBy-rising}
use Rattle.pb_lin.proofs.Ids.{IsPlace-from_last}
use Rattle.pb_lin.proofs.id_table.place_above.Goals as goal

pub returns : goal.returns
returns c = IsPlace-from_last _ c.args.id _ c.partition_point.ensures.bound (IsPartitionPoint-from_clause (λ i. leb i c.args.id) _ _ c.partition_point.ensures.partitioned (IsPartitionedBy-leb (λ i. i) _ c.args.id (IsNonDecreasingBy-rising (λ i. i) _ c.requires)) (λ a r q k. search rules))
