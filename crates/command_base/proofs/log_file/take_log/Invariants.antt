use Rattle.std.proofs.Common.{◌≡◌, ◌<◌, ◌-◌, ◌^◌, vec_len}
use Rattle.command_base.specs.Feeding.{IsFedSoFar}
use Rattle.command_base.specs.Views.{OnlyReads}
use Rattle.command_base.proofs.log_file.take_log.Given as goal

abbrev pub invariant-loop-at : goal.invariant-loop-at
invariant-loop-at g l =
    let shelf = g.H.Shelf in
    let log = g.T.TakesLog in
    record {
      fed : IsFedSoFar (shelf.world l.fn.shelf).files l.log (log.stands l.taker) (log.whole (log.subject l.fn.taker)) l.at;
      subject : log.subject l.taker ≡ log.subject l.fn.taker;
      unfinished : log.unfinished l.taker;
      within : l.at < 2 ^ 62;
      buffer : vec_len l.buffer ≡ 65536;
      only_reads : OnlyReads (shelf.world l.fn.shelf) (shelf.world l.shelf);
    }

abbrev pub decreases-loop-at : goal.decreases-loop-at
decreases-loop-at g l = 2 ^ 62 - l.at
