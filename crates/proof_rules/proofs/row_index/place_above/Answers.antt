use Rattle.std.proofs.Common.{rules, leb}
use Rattle.std.proofs.lemmas.List.Sorted.{IsPartitionPoint-from_clause, IsPartitionedBy-leb}
use Rattle.proof_rules.proofs.RowEntries.{IsPlace-from_above}
use Rattle.proof_rules.proofs.row_index.place_above.Goals as goal

pub returns : goal.returns
returns c = IsPlace-from_above _ c.args.var _ c.partition_point.ensures.bound (IsPartitionPoint-from_clause (λ e. leb e.0 c.args.var) _ _ c.partition_point.ensures.partitioned (IsPartitionedBy-leb (λ e. e.0) _ c.args.var c.requires) (λ a r q k. search rules))
