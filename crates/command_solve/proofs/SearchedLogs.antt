-- What a search leaves in its log.
use Rattle.std.proofs.Common.{◌≡◌, ℕ, Bool, false, List, refl, subst}
use Rattle.std.specs.Prelude.{Option, Result, Ok, Err, IfOk, IfErr, OnOk}
use Rattle.scut_base.specs.Files.{Files, with_file}
use Rattle.scut_base.specs.Faults.{Faults, NoneFell}
use Rattle.scut_base.specs.World.{World}
use Rattle.instance.specs.Shape.{InstanceValue}
use Rattle.pb_lin.specs.Problem.{ProblemValue}
use Rattle.proof_laws.specs.State.{StateValue}
use Rattle.proof_laws.specs.declared.line.Line.{Line}
use Rattle.proof_rules.specs.declared.recorder.RecordFault.{RecordFault}
use Rattle.proof_text.specs.LogFile.{Held, IsLogFile}
use Rattle.proof_text.specs.LogParts.{IsLogStopped}
use Rattle.proof_text.specs.Recorders.{IsKept, file_seen, without_file}
use Rattle.proof_text.specs.declared.version.LogVersion.{LogVersion}
use Rattle.proof_text.proofs.LogLeft.{kept_here, log_here, others_here, spelled, stopped_here, text, whole}
use Rattle.certified_front.specs.Certified.{CoversLogged, IsEnding}
use Rattle.certified_front.specs.Planning.{FollowsPlan}
use Rattle.certified_front.specs.Stopping.{IsStop}
use Rattle.certified_front.specs.declared.ending.Found.{Found}
use Rattle.certified_front.specs.declared.preparing.Plan.{Plan}
use Rattle.command_solve.specs.Logging.{IsLogged, IsSearched}

-- a log that was begun anew, over other files that stayed
module _ (old begun new : Option Files) (name header : List ℕ) (p : ProblemValue) (version : LogVersion) (lines : List Line) (s : StateValue) (broken : Bool)
    (is : begun ≡ with_file old name header) (others : without_file new name ≡ without_file begun name) (log : IsLogFile new name p version lines broken) (kept : IsKept p lines s) where
  logged : (i : InstanceValue) (limit : Option ℕ) (plan : Plan) (found : Found) → broken ≡ false → FollowsPlan plan p lines found.ending → CoversLogged i p lines found.entries.items → IsEnding limit p lines found.ending → IsLogged old new i p name version limit plan found
  logged i limit plan found unbroken planned covers ending = record {
    proof = text old begun new name header p version lines s broken is others log kept;
    lines = lines;
    spelled = spelled old begun new name header p version lines s broken is others log kept;
    first = refl;
    planned = planned;
    covers = covers;
    ending = ending;
    files = whole old begun new name header p version lines s broken is others log kept (log.whole unbroken);
  }

  logged_by : (i : InstanceValue) (limit : Option ℕ) (plan : Plan) (r : Result Found RecordFault) → OnOk r (broken ≡ false) → IfOk r (λ found. FollowsPlan plan p lines found.ending) → IfOk r (λ found. CoversLogged i p lines found.entries.items) → IfOk r (λ found. IsEnding limit p lines found.ending)
      → IfOk r (IsLogged old new i p name version limit plan)
  logged_by i limit plan (Ok found) unbroken planned covers ending = logged i limit plan found unbroken planned covers ending
  logged_by i limit plan (Err fault) unbroken planned covers ending = tt

module _ {H : Type 0} (world : H → World) (old : Option Files) (name header : List ℕ) (p : ProblemValue) (version : LogVersion) (first last : Held H) (end : H)
    (i : InstanceValue) (limit : Option ℕ) (plan : Plan) (r : Result Found RecordFault)
    (named : first.name ≡ name) (of_problem : first.problem ≡ p) (of_version : first.version ≡ version)
    (begun : (world first.shelf.now).files ≡ with_file old name header)
    (same : end ≡ last.shelf.now)
    (log : IsLogFile (world end).files last.name last.problem last.version last.lines last.broken) (kept : IsKept last.problem last.lines last.state)
    (searched : IsSearched i p limit plan (file_seen world first) (file_seen world last) r) where
  pub found_left : IfOk r (IsLogged old (world end).files i p name version limit plan)
  found_left = logged_by old (world first.shelf.now).files (world end).files name header p version last.lines last.state last.broken begun
      (others_here world old name header p version first last end named of_problem of_version begun same log kept searched.problem searched.around)
      (log_here world old name header p version first last end named of_problem of_version begun same log kept searched.problem searched.around)
      (kept_here world old name header p version first last end named of_problem of_version begun same log kept searched.problem searched.around)
      i limit plan r searched.whole searched.planned searched.covers searched.ending

  pub stopped_left : (began : Faults) → NoneFell began (world first.shelf.now).faults → IfErr r (λ fault. IsLogStopped fault old (world end).files p name version began (world end).faults)
  stopped_left began later = by r searched.stop
    where
      by : (s : Result Found RecordFault) → IfErr s (IsStop (file_seen world first) (file_seen world last)) → IfErr s (λ fault. IsLogStopped fault old (world end).files p name version began (world end).faults)
      by (Ok found) stop = tt
      by (Err fault) stop = stopped_here world old name header p version first last end named of_problem of_version begun same log kept searched.problem searched.around began later fault
          (λ e. subst (IsStop (file_seen world first) (file_seen world last)) e stop)
          (λ e. subst (IsStop (file_seen world first) (file_seen world last)) e stop)
