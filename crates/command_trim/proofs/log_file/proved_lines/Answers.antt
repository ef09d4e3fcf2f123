use Rattle.std.proofs.Common.{◌∙◌}
use Rattle.command_trim.proofs.log_file.proved_lines.Goals as goal

pub returns-clause-proof : goal.returns-clause-proof
returns-clause-proof g c = rw (c.as_slice.ensures ∙ c.in_ok-vectors.ensures) at c.kept_lines.ensures.proof

pub returns-clause-stop : goal.returns-clause-stop
returns-clause-stop g c = rw (c.as_slice.ensures ∙ c.in_ok-vectors.ensures) at c.kept_lines.ensures.stop
