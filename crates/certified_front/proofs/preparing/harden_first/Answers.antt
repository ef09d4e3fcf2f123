-- The lines of hardening are prepared.
use Rattle.certified_front.proofs.PreparedLines.{prepared_by}
use Rattle.certified_front.proofs.preparing.harden_first.Goals as goal
use Rattle.certified_front.proofs.preparing.harden_first.Goals.{in-Ok, in-Err-Failed, in-Err-NoMemory}

pub returns-clause-prepared : goal.returns-clause-prepared
returns-clause-prepared g c = elim c.match-harden.branch [
  | in-Ok w ↦ rw w.result-is (prepared_by (g.O.Recorder.seen c.harden.new.oracle) w.in-Ok.ensures.searched)
  | in-Err-Failed w ↦ rw w.result-is tt
  | in-Err-NoMemory w ↦ rw w.result-is tt
]
