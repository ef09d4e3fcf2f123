use Rattle.std.proofs.Common.{rules, ltb}
use Rattle.std.proofs.lemmas.List.Sorted.{IsPartitionPoint-from_clause, IsPartitionedBy-ltb}
use Rattle.pb_lin.proofs.Places.{IsPlace-from_point}
use Rattle.proof_rules.proofs.row_index.place_of.Goals as goal

pub returns : goal.returns
returns c = IsPlace-from_point (λ e. e.0) _ c.args.var _ c.partition_point.ensures.bound (IsPartitionPoint-from_clause (λ e. ltb e.0 c.args.var) _ _ c.partition_point.ensures.partitioned (IsPartitionedBy-ltb (λ e. e.0) _ c.args.var c.requires) (λ a r q k. search rules))
