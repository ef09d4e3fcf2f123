-- What a search over a recorder answers, and what it leaves in its file.
use Rattle.std.proofs.Common.{◌≡◌, ℕ, ◌^◌, Bool, false, None, Some, List, [], length, refl, sym, ap, subst, ◌∙◌}
use Rattle.std.specs.Prelude.{All, Option, Result, Ok, Err, IfOk, IfErr, IsErrOf, OnOk, ℤ}
use Rattle.std.proofs.lemmas.List.Elements.{All-nil}
use Rattle.scut_base.specs.Files.{Files, with_file}
use Rattle.scut_base.specs.Faults.{NoneFell, Rose}
use Rattle.scut_base.specs.World.{World}
use Rattle.pb_lin.specs.Problem.{ProblemValue}
use Rattle.proof_laws.specs.State.{StateValue}
use Rattle.proof_laws.specs.declared.line.Line.{Line}
use Rattle.proof_rules.specs.Recording.{KeepsRecorder, Snapshot}
use Rattle.proof_rules.specs.declared.recorder.RecordFault.{RecordFault}
use Rattle.proof_rules.specs.declared.recorder.RecordFault.TheVariants.{Failed, Full, NoMemory}
use Rattle.proof_text.specs.LogFile.{Held, IsLogFile}
use Rattle.proof_text.specs.LogParts.{IsLogStopped, IsPartOfLog}
use Rattle.proof_text.specs.Recorders.{IsKept, file_seen, without_file}
use Rattle.proof_text.specs.declared.version.LogVersion.TheVariants.{One}
use Rattle.proof_text.proofs.LogLeft.{kept_here, log_here, others_here, part_left, spelled, stopped_here, text, whole}
use Rattle.log_checker.specs.Accepted.{IsCovered}
use Rattle.sum_outputs.specs.Adding.{Continues, IsFaultAt}
use Rattle.sum_outputs.proofs.LaterStates.{around_again, around_twice}
use Rattle.representative_search.specs.Seeking.{HasEnded, IsFound, IsRefuted, IsRelaxed, IsSought, Leaves, LeavesLog, TouchesFile, WhereKnown}
use Rattle.representative_search.specs.declared.relaxing.Relaxed.{Relaxed}
use Rattle.representative_search.specs.declared.relaxing.Relaxed.TheVariants.{Known, Unknown}
use Rattle.representative_search.proofs.BegunAnew.{fell_twice, rose_since}

-- ---- recorders

-- something was found at once, or after one line
pub found_now : {A : Type 0} (Found : List Line → A → Type 0) (a : Snapshot) (x : A) → a.broken ≡ false → Found a.lines x → Leaves Found a a (Ok x)
found_now Found a x unbroken found = record { found = found; whole = unbroken; failed = λ e. cc; full = λ e. cc; problem = refl; around = around_again a.around }

pub found_next : {A : Type 0} (Found : List Line → A → Type 0) (a b : Snapshot) (x : A) → KeepsRecorder a b → b.broken ≡ false → Found b.lines x → Leaves Found a b (Ok x)
found_next Found a b x keeps unbroken found = record { found = found; whole = unbroken; failed = λ e. cc; full = λ e. cc; problem = keeps.problem; around = keeps.around }

-- what is found says something else besides
pub found_so : {A B : Type 0} (F : List Line → A → Type 0) (G : List Line → B → Type 0) (a b : Snapshot) (x : A) (y : B) → Leaves F a b (Ok x) → (F b.lines x → G b.lines y) → Leaves G a b (Ok y)
found_so F G a b x y leaves so = record { found = so leaves.found; whole = leaves.whole; failed = λ e. cc; full = λ e. cc; problem = leaves.problem; around = leaves.around }

-- a fault is handed on
pub fault_so : {A B : Type 0} (F : List Line → A → Type 0) (G : List Line → B → Type 0) (a b : Snapshot) (f : RecordFault) → Leaves F a b (Err f) → Leaves G a b (Err f)
fault_so F G a b f leaves = record {
  found = tt;
  whole = leaves.whole;
  failed = λ e. leaves.failed (ap Err (err_is f Failed e));
  full = λ e. leaves.full (ap Err (err_is f Full e));
  problem = leaves.problem;
  around = leaves.around;
}
  where
    err_is : {T : Type 0} (f g : RecordFault) → IsErrOf {T = T} (Err f) g → f ≡ g
    err_is f g e = cc

-- ---- after lines of a relaxation

module _ {A : Type 0} (Found : List Line → A → Type 0) (a b : Snapshot) (on : Continues a b) where
  -- and then
  pub leaves_after : (c : Snapshot) (r : Result A RecordFault) → Leaves Found b c r → Leaves Found a c r
  leaves_after c r leaves = record {
    found = leaves.found;
    whole = leaves.whole;
    failed = λ e. rose_since a.faults b.faults c.faults on.later (leaves.failed e);
    full = leaves.full;
    problem = leaves.problem ∙ on.problem;
    around = around_twice a.around b.around c.around on.around leaves.around;
  }

  -- something is found
  pub found_after : (x : A) → b.broken ≡ false → Found b.lines x → Leaves Found a b (Ok x)
  found_after x unbroken found = leaves_after b (Ok x) (found_now Found b x unbroken found)

  -- they ended by a fault
  pub fault_after : (f : RecordFault) → IsFaultAt a b f → OnOk {T = A} (Err f) (b.broken ≡ false) → Leaves Found a b (Err f)
  fault_after f is unbroken = by f is
    where
      by : (f : RecordFault) → IsFaultAt a b f → Leaves Found a b (Err f)
      by Failed is = record { found = tt; whole = tt; failed = λ e. is; full = λ e. cc; problem = on.problem; around = on.around }
      by Full is = record { found = tt; whole = tt; failed = λ e. cc; full = λ e. is.0; problem = on.problem; around = on.around }
      by NoMemory is = record { found = tt; whole = tt; failed = λ e. cc; full = λ e. cc; problem = on.problem; around = on.around }

-- the proof ended after them
pub ended_so : {A : Type 0} (p : ProblemValue) (a b c : Snapshot) → a.problem ≡ p → Continues a b → (r : Result A RecordFault) (x : A) → r ≡ Ok x → Leaves (λ lines _. HasEnded b.problem lines) b c r → Leaves (IsRelaxed p) a c (Ok (Known None))
ended_so {A = A} p a b c of_problem on r x is leaves = leaves_after (IsRelaxed p) a b on c (Ok (Known None)) (found_so (λ lines _. HasEnded b.problem lines) (IsRelaxed p) b c x (Known None) now (λ ended. subst (λ (q : ProblemValue). HasEnded q c.lines) (on.problem ∙ of_problem) ended))
  where
    now : Leaves (λ lines _. HasEnded b.problem lines) b c (Ok x)
    now = subst (λ (s : Result A RecordFault). Leaves (λ lines _. HasEnded b.problem lines) b c s) is leaves

-- ---- the file

-- what is known of the problem
pub known_left : (old new : Option Files) (name : List ℕ) (p : ProblemValue) (lines : List Line) (found : Option (List Bool)) → (HasEnded p lines → IsRefuted old new name p) → IsFound p lines found → IsSought old new name p found
known_left old new name p lines (Some a) refuted is = is
known_left old new name p lines None refuted is = refuted is

pub told_left : (old new : Option Files) (name : List ℕ) (p : ProblemValue) (lines : List Line) (told : Relaxed) → (HasEnded p lines → IsRefuted old new name p) → IsRelaxed p lines told → WhereKnown told (IsSought old new name p)
told_left old new name p lines (Known found) refuted is = known_left old new name p lines found refuted is
told_left old new name p lines Unknown refuted is = tt

-- a log that was begun anew, over other files that stayed
module _ (old begun new : Option Files) (name header : List ℕ) (p : ProblemValue) (lines : List Line) (s : StateValue) (broken : Bool)
    (is : begun ≡ with_file old name header) (others : without_file new name ≡ without_file begun name) (log : IsLogFile new name p One lines broken) (kept : IsKept p lines s) where
  refuted_by : broken ≡ false → HasEnded p lines → IsRefuted old new name p
  refuted_by unbroken ended = (
    text old begun new name header p One lines s broken is others log kept,
    record {
      lines = lines;
      spelled = spelled old begun new name header p One lines s broken is others log kept;
      state = ended.0;
      replay = ended.1;
      ended = ended.2;
      covered = subst (λ (vs : List (List ℤ)). All (IsCovered []) vs) (sym ended.3) (All-nil (IsCovered []));
    },
    whole old begun new name header p One lines s broken is others log kept (log.whole unbroken),
  )

-- a recorder that was begun after one world and handed back in another
module _ {H : Type 0} (world : H → World) (before : World) (name header : List ℕ) (p : ProblemValue) (first last : Held H) (end : H)
    {A : Type 0} (Found : List Line → A → Type 0) (r : Result A RecordFault)
    (named : first.name ≡ name) (of_problem : first.problem ≡ p) (of_version : first.version ≡ One)
    (begun : (world first.shelf.now).files ≡ with_file before.files name header)
    (said : (world first.shelf.now).said ≡ before.said) (warned : (world first.shelf.now).warned ≡ before.warned)
    (later : NoneFell before.faults (world first.shelf.now).faults)
    (same : end ≡ last.shelf.now)
    (log : IsLogFile (world end).files last.name last.problem last.version last.lines last.broken) (kept : IsKept last.problem last.lines last.state)
    (leaves : Leaves Found (file_seen world first) (file_seen world last) r) where
  here_others : without_file (world end).files name ≡ without_file (world first.shelf.now).files name
  here_others = others_here world before.files name header p One first last end named of_problem of_version begun same log kept leaves.problem leaves.around

  here_log : IsLogFile (world end).files name p One last.lines last.broken
  here_log = log_here world before.files name header p One first last end named of_problem of_version begun same log kept leaves.problem leaves.around

  here_kept : IsKept p last.lines last.state
  here_kept = kept_here world before.files name header p One first last end named of_problem of_version begun same log kept leaves.problem leaves.around

  -- what was found, of the file
  found_left : (Left : A → Type 0) → ((x : A) → (HasEnded p last.lines → IsRefuted before.files (world end).files name p) → Found last.lines x → Left x) → IfOk r Left
  found_left Left so = by r leaves.whole leaves.found
    where
      by : (s : Result A RecordFault) → OnOk s (last.broken ≡ false) → IfOk s (Found last.lines) → IfOk s Left
      by (Ok x) unbroken is = so x (refuted_by before.files (world first.shelf.now).files (world end).files name header p last.lines last.state last.broken begun here_others here_log here_kept unbroken) is
      by (Err fault) unbroken is = tt

  stopped_left : IfErr r (λ fault. IsLogStopped fault before.files (world end).files p name One before.faults (world end).faults)
  stopped_left = by r leaves.failed leaves.full
    where
      by : (s : Result A RecordFault) → (IsErrOf s Failed → Rose (file_seen world first).faults (file_seen world last).faults) → (IsErrOf s Full → length last.lines ≡ 2 ^ 61) → IfErr s (λ fault. IsLogStopped fault before.files (world end).files p name One before.faults (world end).faults)
      by (Ok x) failed full = tt
      by (Err fault) failed full = stopped_here world before.files name header p One first last end named of_problem of_version begun same log kept leaves.problem leaves.around before.faults later fault (λ e. failed (ap (λ (f : RecordFault). Err f) e)) (λ e. full (ap (λ (f : RecordFault). Err f) e))

  touched_left : TouchesFile (IsPartOfLog One p) name before (world end)
  touched_left = record {
    touched = part_left before.files (world first.shelf.now).files (world end).files name header p One last.lines last.state last.broken begun here_others here_log here_kept;
    said = ap (λ (h : H). (world h).said) same ∙ leaves.around.said ∙ said;
    warned = ap (λ (h : H). (world h).warned) same ∙ leaves.around.warned ∙ warned;
    later = subst (λ (h : H). NoneFell before.faults (world h).faults) (sym same) (fell_twice before.faults (world first.shelf.now).faults (world last.shelf.now).faults later leaves.around.counts);
  }

  pub log_left : (Left : A → Type 0) → ((x : A) → (HasEnded p last.lines → IsRefuted before.files (world end).files name p) → Found last.lines x → Left x) → LeavesLog Left p name before (world end) r
  log_left Left so = record { found = found_left Left so; stop = stopped_left; keeps = touched_left }
