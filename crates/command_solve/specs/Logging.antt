-- What a search leaves in its log.
use Rattle.std.specs.Prelude.{◌≡◌, ℕ, List, Option, Result, IfOk, IfErr, OnOk, false}
use Rattle.scut_base.specs.Files.{Files, with_file}
use Rattle.instance.specs.Shape.{InstanceValue}
use Rattle.pb_lin.specs.Problem.{ProblemValue}
use Rattle.proof_laws.specs.declared.line.Line.{Line}
use Rattle.proof_rules.specs.Recording.{KeepsSurroundings, Snapshot}
use Rattle.proof_rules.specs.declared.recorder.RecordFault.{RecordFault}
use Rattle.proof_text.specs.Versions.{first_of}
use Rattle.proof_text.specs.declared.version.LogVersion.{LogVersion}
use Rattle.proof_text.specs.LogText.{SpellsLog}
use Rattle.certified_front.specs.Certified.{CoversLogged, IsEnding}
use Rattle.certified_front.specs.Planning.{FollowsPlan}
use Rattle.certified_front.specs.Stopping.{IsStop}
use Rattle.certified_front.specs.declared.ending.Found.{Found}
use Rattle.certified_front.specs.declared.preparing.Plan.{Plan}

-- ---- the file

-- the log is one of this version, of lines that follow the plan and whose logged vectors the entries that were found cover
pub record IsLogged (old new : Option Files) (i : InstanceValue) (p : ProblemValue) (log : List ℕ) (version : LogVersion) (limit : Option ℕ)
    (plan : Plan) (found : Found) : Type 0 where
  pub proof : List ℕ
  pub lines : List Line
  pub spelled : SpellsLog proof lines
  pub first : spelled.first ≡ first_of version p
  pub planned : FollowsPlan plan p lines found.ending
  pub covers : CoversLogged i p lines found.entries.items
  pub ending : IsEnding limit p lines found.ending
  pub files : new ≡ with_file old log proof

-- ---- any recorder

-- what is found covers what the recorder's lines log, which follow the plan; and why nothing was found
pub record IsSearched (i : InstanceValue) (p : ProblemValue) (limit : Option ℕ) (plan : Plan) (a b : Snapshot) (result : Result Found RecordFault) : Type 0 where
  pub planned : IfOk result (λ found. FollowsPlan plan p b.lines found.ending)
  pub covers : IfOk result (λ found. CoversLogged i p b.lines found.entries.items)
  pub ending : IfOk result (λ found. IsEnding limit p b.lines found.ending)
  pub whole : OnOk result (b.broken ≡ false)
  pub stop : IfErr result (IsStop a b)
  pub problem : b.problem ≡ a.problem
  pub around : KeepsSurroundings a.around b.around
