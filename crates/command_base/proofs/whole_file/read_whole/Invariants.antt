use Rattle.std.proofs.Common.{◌-◌, ◌^◌, vec_len}
use Rattle.command_base.specs.Views.{OnlyReads}
use Rattle.command_base.proofs.ReadSoFar.{IsReadSoFar, IsThereSoFar}
use Rattle.command_base.proofs.whole_file.read_whole.Given as goal

abbrev pub invariant-loop-piece : goal.invariant-loop-piece
invariant-loop-piece g l =
    let shelf = g.H.Shelf in
    record {
      start : IsReadSoFar (shelf.world l.fn.shelf).files l.name l.bytes.items;
      there : IsThereSoFar (shelf.world l.fn.shelf).files l.name l.bytes.items;
      only_reads : OnlyReads (shelf.world l.fn.shelf) (shelf.world l.shelf);
    }

abbrev pub decreases-loop-piece : goal.decreases-loop-piece
decreases-loop-piece g l = 2 ^ 32 - vec_len l.bytes
