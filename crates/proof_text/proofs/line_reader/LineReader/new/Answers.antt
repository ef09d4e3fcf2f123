use Rattle.std.proofs.Common.{List, ℕ, ◌++◌, ap}
use Rattle.scut_base.specs.Files.{IsPrefixOf}
use Rattle.proof_lines.specs.declared.spelling.Spelling.TheVariants.{Plain}
use Rattle.proof_text.specs.Versions.{header_text}
use Rattle.proof_text.proofs.line_reader.LineReader.new.Goals as goal

pub invariant_of-result : goal.invariant_of-result
invariant_of-result c = (Plain, tt, (header_text Plain, ap (λ (t : List ℕ). t ++ header_text Plain) c.new.ensures))
