use Rattle.std.proofs.Common.{◌≡◌}
use Rattle.proof_rules.specs.Recording.{KeepsRecorder}
use Rattle.harden.specs.Hardened.{fixed_upto}
use Rattle.harden.specs.Hardening.{HardensTo}
use Rattle.harden.proofs.hardening.fix_all.Given as goal

abbrev pub invariant-loop-done : goal.invariant-loop-done
invariant-loop-done g l = record {
  lines : HardensTo l.occurrences (g.O.Recorder.seen l.oracle) l.done;
  fixed : l.fixed ≡ fixed_upto l.occurrences l.done;
  keeps : KeepsRecorder (g.O.Recorder.seen l.fn.oracle) (g.O.Recorder.seen l.oracle);
}
