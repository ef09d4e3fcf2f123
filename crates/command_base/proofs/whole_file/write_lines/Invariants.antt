use Rattle.std.proofs.Common.{◌≡◌, take}
use Rattle.std.specs.List.{concat}
use Rattle.scut_base.specs.Files.{with_file}
use Rattle.scut_base.specs.Faults.{NoneFell}
use Rattle.command_base.proofs.whole_file.write_lines.Given as goal

abbrev pub invariant-loop-line : goal.invariant-loop-line
invariant-loop-line g l =
    let shelf = g.H.Shelf in
    record {
      written : (shelf.world l.shelf).files ≡ with_file (shelf.world l.fn.shelf).files l.name (concat (take l.line-index l.lines));
      said : (shelf.world l.shelf).said ≡ (shelf.world l.fn.shelf).said;
      warned : (shelf.world l.shelf).warned ≡ (shelf.world l.fn.shelf).warned;
      faults : NoneFell (shelf.world l.fn.shelf).faults (shelf.world l.shelf).faults;
    }
