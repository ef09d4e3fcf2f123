-- What a recorder leaves in its file, when it is handed back.
use Rattle.std.proofs.Common.{◌≡◌, ◌≢◌, inl, inr, ⊎_elim, ℕ, ◌<◌, ◌≤◌, ◌^◌, Bool, true, false, None, Some, List, [], ◌++◌, length, refl, sym, ap, subst, ◌∙◌, arith, append-nil}
use Rattle.std.specs.Prelude.{Option, nat_lt}
use Rattle.std.specs.Ordering.{nat_cmp, eq_by_cmp}
use Rattle.std.specs.Cmp.Lexicographic.{slice_cmp}
use Rattle.std.specs.FinMap.{insert, same_map, slice_cmp-IsAntisymmetric, nat_cmp-IsAntisymmetric}
use Rattle.std.proofs.lemmas.Bool.{ltb-true}
use Rattle.std.proofs.lemmas.Cmp.{nat_list_cmp_total}
use Rattle.std.proofs.lemmas.Option.{none-some}
use Rattle.std.proofs.Math.Bool.{true≢false}
use Rattle.scut_base.specs.Files.{Files, content, with_file, IsTold, IsTouched}
use Rattle.scut_base.specs.Faults.{Faults, NoneFell, Rose, WritingFailed, count}
use Rattle.scut_base.specs.declared.shelf.ShelfCall.TheVariants.{Append}
use Rattle.scut_base.specs.World.{World}
use Rattle.scut_base.proofs.FileLaws.{content-same, content-other, tied_is, tied_same, with_file-untold}
use Rattle.pb_lin.specs.Problem.{ProblemValue}
use Rattle.proof_laws.specs.State.{StateValue}
use Rattle.proof_laws.specs.declared.line.Line.{Line}
use Rattle.proof_laws.specs.declared.why.Why.TheVariants.{LogLong}
use Rattle.proof_laws.proofs.Derivations.{unless_none}
use Rattle.proof_laws.proofs.NextCovers.{legal_parts}
use Rattle.proof_laws.proofs.Replays.{replay_lines}
use Rattle.proof_rules.specs.Recording.{KeepsSurroundings}
use Rattle.proof_rules.specs.declared.recorder.RecordFault.{RecordFault}
use Rattle.proof_rules.specs.declared.recorder.RecordFault.TheVariants.{Failed, Full, NoMemory}
use Rattle.proof_text.specs.LogFile.{Held, IsLogFile, IsPartOfNext}
use Rattle.proof_text.specs.LogParts.{IsFull, IsLogStopped, IsPartOfLog}
use Rattle.proof_text.specs.Versions.{first_of, log_text, version_number}
use Rattle.proof_text.specs.declared.version.LogVersion.{LogVersion}
use Rattle.proof_text.specs.declared.version.LogVersion.TheVariants.{One, Two}
use Rattle.proof_text.specs.LogText.{SpellsLog}
use Rattle.proof_text.specs.Recorders.{IsKept, file_seen, without_file}
use Rattle.proof_text.proofs.LogFiles.{others_same}

-- ---- one file alone has changed

module _ (name header bytes : List ℕ) where
  by_tie : (m n : Files) → without_file (Some n) name ≡ without_file (with_file (Some m) name header) name → content (Some n) name ≡ Some bytes
      → (q : List ℕ) (b : Bool) → eq_by_cmp (slice_cmp nat_cmp) q name ≡ b → content (Some n) q ≡ content (with_file (Some m) name bytes) q
  by_tie m n others there q true tied =
      let is : q ≡ name = tied_is q name tied in
      ap (content (Some n)) is ∙ there ∙ sym (content-same (Some m) name bytes tt) ∙ sym (ap (content (with_file (Some m) name bytes)) is)
  by_tie m n others there q false tied =
      let other : q ≢ name = λ e. true≢false (sym (tied_same name) ∙ ap (λ (r : List ℕ). eq_by_cmp (slice_cmp nat_cmp) r name) (sym e) ∙ tied) in
      others_same (Some n) (with_file (Some m) name header) name q others other ∙ content-other (Some m) name header q other ∙ sym (content-other (Some m) name bytes q other)

  same_files : (m n : Files) → ((q : List ℕ) → content (Some n) q ≡ content (with_file (Some m) name bytes) q) → Some n ≡ with_file (Some m) name bytes
  unfolding content with_file
  same_files m n same = ap Some (same_map nat_list_cmp_total (slice_cmp-IsAntisymmetric nat_cmp-IsAntisymmetric) n (insert m name bytes) same)

  none_from_none : (n : Files) → without_file (Some n) name ≡ without_file (with_file None name header) name → ⊥
  unfolding with_file without_file
  none_from_none n e = none-some _ (sym e)

  some_from_some : (m : Files) → without_file None name ≡ without_file (with_file (Some m) name header) name → ⊥
  unfolding with_file without_file
  some_from_some m e = none-some _ e

  pub only_this : (old new : Option Files) → without_file new name ≡ without_file (with_file old name header) name → (IsTold new → content new name ≡ Some bytes) → new ≡ with_file old name bytes
  only_this None None others there = sym (with_file-untold name bytes)
  only_this None (Some n) others there = absurd (none_from_none n others)
  only_this (Some m) None others there = absurd (some_from_some m others)
  only_this (Some m) (Some n) others there = same_files m n (λ q. by_tie m n others (there tt) q (eq_by_cmp (slice_cmp nat_cmp) q name) refl)

-- ---- the log

-- no line is legal after 2^61
none_follows : (p : ProblemValue) (version : LogVersion) (lines : List Line) (part : List ℕ) → length lines ≡ 2 ^ 61 → IsPartOfNext p (first_of version p) lines part → ⊥
none_follows p version lines part full next =
    let parts = legal_parts p next.state next.line next.legal in
    let short : next.state.lines < 2 ^ 61 = ltb-true next.state.lines (2 ^ 61) (unless_none (nat_lt next.state.lines (2 ^ 61)) LogLong parts.short) in
    let count = replay_lines p lines next.state next.replay in
    omega (arith, full, short, count)

-- a log that was begun anew, over other files that stayed
module _ (old begun new : Option Files) (name header : List ℕ) (p : ProblemValue) (version : LogVersion) (lines : List Line) (s : StateValue) (broken : Bool)
    (is : begun ≡ with_file old name header) (others : without_file new name ≡ without_file begun name) (log : IsLogFile new name p version lines broken) (kept : IsKept p lines s) where
  abbrev pub text : List ℕ
  text = log_text (first_of version p) lines

  pub written : new ≡ with_file old name (text ++ log.part)
  written = only_this name header (text ++ log.part) old new (others ∙ ap (λ (f : Option Files). without_file f name) is) log.file

  pub whole : log.part ≡ [] → new ≡ with_file old name text
  whole none = written ∙ ap (λ (part : List ℕ). with_file old name (text ++ part)) none ∙ ap (with_file old name) (append-nil text)

  pub part_left : IsTouched old new name (IsPartOfLog version p)
  part_left = inr (
    text ++ log.part,
    inr (record {
      lines = lines;
      part = log.part;
      begins = record { first = first_of version p; version = log.first; formed = kept.formed; fit = log.fit; is = refl };
      first = refl;
      replay = (s, kept.replay);
      next = log.next;
    }),
    written,
  )

  abbrev pub spelled : SpellsLog text lines
  spelled = record { first = first_of version p; version = log.first; formed = kept.formed; fit = log.fit; is = sym (append-nil text) }

  none_left : length lines ≡ 2 ^ 61 → log.part ≡ []
  none_left full = ⊎_elim (λ none. none) (λ next. absurd (none_follows p version lines log.part full next)) log.next

  pub full_left : length lines ≡ 2 ^ 61 → IsFull old new p name version
  full_left full = record { proof = text; lines = lines; spelled = spelled; first = refl; full = full; replay = (s, kept.replay); files = whole (none_left full) }

  pub stopped_by : (before after : Faults) (fault : RecordFault) → (fault ≡ Failed → WritingFailed before after name) → (fault ≡ Full → length lines ≡ 2 ^ 61) → IsLogStopped fault old new p name version before after
  stopped_by before after Failed failed full = (part_left, failed refl)
  stopped_by before after Full failed full = full_left (full refl)
  stopped_by before after NoMemory failed full = part_left

-- ---- the recorder, as it was begun and as it was handed back

-- what rose later rose since before
rose_since : (a b c : ℕ) → a ≤ b → Rose b c → Rose a c
rose_since a b c earlier rose = omega arith

-- a version by its number
same_version : (v w : LogVersion) → Some (version_number v) ≡ Some (version_number w) → v ≡ w
same_version One One is = refl
same_version Two Two is = refl
same_version One Two is = cc
same_version Two One is = cc

module _ {H : Type 0} (world : H → World) (old : Option Files) (name header : List ℕ) (p : ProblemValue) (version : LogVersion) (first last : Held H) (end : H)
    (named : first.name ≡ name) (of_problem : first.problem ≡ p) (of_version : first.version ≡ version)
    (begun : (world first.shelf.now).files ≡ with_file old name header)
    (same : end ≡ last.shelf.now)
    (log : IsLogFile (world end).files last.name last.problem last.version last.lines last.broken) (kept : IsKept last.problem last.lines last.state)
    (stays : last.problem ≡ first.problem) (around : KeepsSurroundings (file_seen world first).around (file_seen world last).around) where
  names : last.name ≡ name
  names = around.name ∙ named

  problems : last.problem ≡ p
  problems = stays ∙ of_problem

  versions : last.version ≡ version
  versions = same_version last.version first.version around.version ∙ of_version

  pub log_here : IsLogFile (world end).files name p version last.lines last.broken
  log_here = subst (λ (n : List ℕ). IsLogFile (world end).files n p version last.lines last.broken) names
      (subst (λ (q : ProblemValue). IsLogFile (world end).files last.name q version last.lines last.broken) problems
      (subst (λ (v : LogVersion). IsLogFile (world end).files last.name last.problem v last.lines last.broken) versions log))

  pub kept_here : IsKept p last.lines last.state
  kept_here = subst (λ (q : ProblemValue). IsKept q last.lines last.state) problems kept

  pub others_here : without_file (world end).files name ≡ without_file (world first.shelf.now).files name
  others_here = ap (λ (h : H). without_file (world h).files name) same
      ∙ sym (ap (without_file (world last.shelf.now).files) names)
      ∙ around.others
      ∙ ap (without_file (world first.shelf.now).files) named

  rose_here : (began : Faults) → NoneFell began (world first.shelf.now).faults → Rose (count (world first.shelf.now).faults Append first.name) (count (world last.shelf.now).faults Append last.name) → WritingFailed began (world end).faults name
  rose_here began later rose = inr (rose_since _ _ _ (later Append name)
      (subst (λ (h : H). Rose (count (world first.shelf.now).faults Append name) (count (world h).faults Append name)) (sym same)
      (subst (λ (n : List ℕ). Rose (count (world first.shelf.now).faults Append name) (count (world last.shelf.now).faults Append n)) names
      (subst (λ (n : List ℕ). Rose (count (world first.shelf.now).faults Append n) (count (world last.shelf.now).faults Append last.name)) named rose))))

  -- where a call of it answered a fault
  pub stopped_here : (began : Faults) → NoneFell began (world first.shelf.now).faults → (fault : RecordFault) → (fault ≡ Failed → Rose (file_seen world first).faults (file_seen world last).faults) → (fault ≡ Full → length last.lines ≡ 2 ^ 61)
      → IsLogStopped fault old (world end).files p name version began (world end).faults
  stopped_here began later fault failed full = stopped_by old (world first.shelf.now).files (world end).files name header p version last.lines last.state last.broken begun others_here log_here kept_here began (world end).faults fault
      (λ e. rose_here began later (failed e)) full
