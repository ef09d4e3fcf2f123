-- What a log that is begun in a lent shelf leaves there.
use Rattle.std.specs.Prelude.{◌≡◌, ◌≢◌, false, List, ℕ, []}
use Rattle.std.specs.Borrow.{MutBor}
use Rattle.scut_base.specs.Files.{with_file}
use Rattle.scut_base.specs.Faults.{NoneFell, WritingFailed}
use Rattle.scut_base.specs.World.{World}
use Rattle.pb_lin.specs.Problem.{ProblemValue}
use Rattle.proof_lines.specs.declared.spelling.Spelling.{Spelling}
use Rattle.proof_rules.specs.declared.recorder.RecordFault.TheVariants.{Failed, Full}
use Rattle.proof_text.specs.LogFile.{Held, IsNotBegun}
use Rattle.proof_text.specs.Versions.{first_of, header_line}
use Rattle.proof_text.specs.declared.file_recorder.NotBegun.{NotBegun}
use Rattle.proof_text.specs.declared.version.LogVersion.{LogVersion}

-- It is the same shelf, nothing more was said or warned there, and no count has fallen.
pub record KeepsShelf {H : Type 0} (world : H → World) (old new : MutBor H) : Type 0 where
  pub same_reference : new.ghost_name ≡ old.ghost_name
  pub said : (world new.now).said ≡ (world old.now).said
  pub warned : (world new.now).warned ≡ (world old.now).warned
  pub later : NoneFell (world old.now).faults (world new.now).faults

-- a recorder without lines, over a shelf that was lent and whose file holds the header of this version alone
pub record HasBegun {H : Type 0} (world : H → World) (lent : MutBor H) (log : List ℕ) (p : ProblemValue) (v : LogVersion) (r : Held H) : Type 0 where
  pub shelf : KeepsShelf world lent r.shelf
  pub files : (world r.shelf.now).files ≡ with_file (world lent.now).files log (header_line (first_of v p))
  pub name : r.name ≡ log
  pub problem : r.problem ≡ p
  pub version : r.version ≡ v
  pub empty : r.lines ≡ []
  pub whole : r.broken ≡ false

-- The file is as before or holds a prefix of this header; the fault is `Failed` only where a write of the file failed.
pub record HasNotBegun {H : Type 0} (world : H → World) (lent : MutBor H) (log : List ℕ) (first : Spelling) (e : NotBegun H) : Type 0 where
  pub shelf : KeepsShelf world lent e.shelf
  pub files : IsNotBegun (world lent.now).files (world e.shelf.now).files log first
  pub cause : e.fault ≡ Failed → WritingFailed (world lent.now).faults (world e.shelf.now).faults log
  pub never_full : e.fault ≢ Full
