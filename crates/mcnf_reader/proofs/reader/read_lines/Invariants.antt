use Rattle.std.proofs.Common.{length}
use Rattle.mcnf_reader.specs.Words.{lines_of}
use Rattle.mcnf_reader.specs.Draft.{IsReady}
use Rattle.mcnf_reader.proofs.Texts.{IsReadTo}
use Rattle.mcnf_reader.proofs.reader.read_lines.Given as goal

abbrev pub invariant-loop-line : goal.invariant-loop-line
invariant-loop-line l = record {
  ready : IsReady l.draft;
  so_far : IsReadTo (lines_of l.bytes) l.lines l.number l.draft;
}

abbrev pub decreases-loop-line : goal.decreases-loop-line
decreases-loop-line l = length l.lines
