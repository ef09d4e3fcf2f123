use Rattle.std.proofs.Common.{◌≡◌, take}
use Rattle.scut_base.specs.Files.{with_file}
use Rattle.scut_base.specs.Faults.{NoneFell}
use Rattle.proof_lines.specs.declared.spelling.Spelling.TheVariants.{Plain}
use Rattle.proof_text.specs.Versions.{log_text}
use Rattle.proof_text.specs.Writing.{new_writer}
use Rattle.command_trim.proofs.writing.write_log.Given as goal

abbrev pub invariant-loop-line : goal.invariant-loop-line
invariant-loop-line g l =
    let shelf = g.H.Shelf in
    record {
      written : (shelf.world l.shelf).files ≡ with_file (shelf.world l.fn.shelf).files l.output (log_text Plain (take l.line-index l.lines));
      writer : l.writer ≡ new_writer l.output Plain;
      said : (shelf.world l.shelf).said ≡ (shelf.world l.fn.shelf).said;
      warned : (shelf.world l.shelf).warned ≡ (shelf.world l.fn.shelf).warned;
      faults : NoneFell (shelf.world l.fn.shelf).faults (shelf.world l.shelf).faults;
    }
