use Rattle.std.proofs.Common.{subst}
use Rattle.proof_text.specs.Versions.{IsFirst, first_of}
use Rattle.proof_text.proofs.LogFiles.{held_none}
use Rattle.proof_text.proofs.file_recorder.FileRecorder.with_version.Goals as goal

pub invariant_of-result : goal.invariant_of-result
invariant_of-result g c =
    let made = c.in-Ok.ensures in
    let spelled = c.first_of.ensures.value in
    let begins : IsFirst (first_of c.args.version c.args.problem.now) = subst IsFirst spelled c.first_of.ensures.first in
    rw c.new-in-Ok-begin_log.ensures (held_none c.args.problem.now c.args.version _ _ _ _ begins made.start made.fits (rw spelled at c.in-Ok-begin_log.ensures.ok))
