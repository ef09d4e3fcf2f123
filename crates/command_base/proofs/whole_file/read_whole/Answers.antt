use Rattle.std.proofs.Common.{◌∙◌, arith}
use Rattle.command_base.proofs.ReadSoFar.{reads_further, reads_all, there_from_read, read_no_more}
use Rattle.command_base.proofs.whole_file.read_whole.Goals as goal

pub returns-then-n-eq0-clause-whole : goal.returns-then-n-eq0-clause-whole
returns-then-n-eq0-clause-whole g c = (
  reads_all _ _ _ _ _ _ _ c.loop-piece.invariant.start c.loop-piece.invariant.only_reads.files (omega (arith, c.len-in-loop-piece.ensures, c.loop-piece.bytes.ok)) c.if-n-eq0.true c.in_ok-n.ensures.bytes,
  omega (arith, c.len.ensures, c.loop-piece.bytes.ok, c.loop-piece-test.true),
)

pub loop-piece-preserved : goal.loop-piece-preserved
loop-piece-preserved g c = record {
  start = reads_further _ _ _ _ _ _ _ _ c.loop-piece.invariant.start c.loop-piece.invariant.only_reads.files (omega (arith, c.len-in-loop-piece.ensures, c.loop-piece.bytes.ok)) c.in_ok-extend_from_slice.ensures.items c.in_ok-n.ensures.bytes;
  there = there_from_read _ _ _ _ _ _ _ c.loop-piece.invariant.only_reads.files c.in_ok-n.ensures.bytes;
  only_reads = record {
    files = c.in_ok-n.ensures.files ∙ c.loop-piece.invariant.only_reads.files;
    said = c.in_ok-n.ensures.said ∙ c.loop-piece.invariant.only_reads.said;
    warned = c.in_ok-n.ensures.warned ∙ c.loop-piece.invariant.only_reads.warned;
    later = λ call name. omega (arith, c.loop-piece.invariant.only_reads.later call name, c.in_ok-n.ensures.cause.later call name);
  };
}

pub returns-clause-whole : goal.returns-clause-whole
returns-clause-whole g c = read_no_more _ _ _ c.loop-piece.invariant.start c.loop-piece.invariant.there (omega (arith, c.len.ensures, c.loop-piece.bytes.ok, c.loop-piece-test.false))
