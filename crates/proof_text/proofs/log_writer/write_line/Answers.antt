use Rattle.std.proofs.Common.{inr, Option, ap, ◌∙◌}
use Rattle.scut_base.specs.Files.{Files}
use Rattle.proof_text.specs.Recorders.{without_file}
use Rattle.proof_text.proofs.LogFiles.{without-with, others_of_part}
use Rattle.proof_text.proofs.log_writer.write_line.Goals as goal

pub returns-in-Ok-clause-others : goal.returns-in-Ok-clause-others
returns-in-Ok-clause-others g c = ap (λ (f : Option Files). without_file f c.args.name.now) c.in-Ok.ensures.appended ∙ without-with _ _ _

pub returns-in-Err-clause-others : goal.returns-in-Err-clause-others
returns-in-Err-clause-others g c = others_of_part _ _ _ _ (inr c.in-Err.ensures.fault)
