use Rattle.std.proofs.Common.{◌≡◌, ◌<◌, ◌-◌, ◌^◌, vec_len}
use Rattle.command_base.specs.RewrittenSoFar.{IsCopied, WritesOnly}
use Rattle.command_base.proofs.rewriting.rewrite_lines.Given as goal

abbrev pub invariant-loop-at : goal.invariant-loop-at
invariant-loop-at g l =
    let world = g.H.Shelf.world in
    let by = g.T.AnswersLine in
    record {
      subject : by.subject l.answerer ≡ by.subject l.fn.answerer;
      copied : IsCopied (world l.shelf).files l.log l.reader (by.answers l.answerer) l.writer l.at;
      within : l.at < 2 ^ 62;
      buffer : vec_len l.buffer ≡ 65536;
      beside : WritesOnly l.fn.writer l.writer (world l.fn.shelf) (world l.shelf);
    }

abbrev pub decreases-loop-at : goal.decreases-loop-at
decreases-loop-at g l = 2 ^ 62 - l.at
