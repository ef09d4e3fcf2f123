-- A log that is begun anew: what was in it before doesn't matter.
use Rattle.std.proofs.Common.{◌≡◌, inl, inr, ℕ, ◌≤◌, Bool, None, Some, List, sym, ap, subst, ◌∙◌, arith}
use Rattle.std.specs.Prelude.{Option, Result, Ok, Err}
use Rattle.scut_base.specs.Files.{Files, IsTouched, with_file}
use Rattle.scut_base.specs.Faults.{Faults, NoneFell, Rose, WritingFailed}
use Rattle.scut_base.specs.declared.shelf.ShelfCall.TheVariants.{Append, Begin}
use Rattle.scut_base.proofs.FileLaws.{with_file-twice}
use Rattle.scut_base.specs.World.{World}
use Rattle.pb_lin.specs.Problem.{ProblemValue}
use Rattle.proof_rules.specs.declared.recorder.RecordFault.{RecordFault}
use Rattle.proof_rules.specs.declared.recorder.RecordFault.TheVariants.{Failed, Full, NoMemory}
use Rattle.proof_text.specs.LogParts.{IsFull, IsLogStopped, IsPartOfLog}
use Rattle.proof_text.specs.declared.version.LogVersion.TheVariants.{One}
use Rattle.representative_search.specs.Seeking.{IsSought, LeavesLog, TouchesFile}

-- ---- files

-- the file that is begun anew is the same file
pub again : (old mid new : Option Files) (name bytes : List ℕ) (P : List ℕ → Type 0) → IsTouched old mid name P → new ≡ with_file mid name bytes → new ≡ with_file old name bytes
again old mid new name bytes P (inl same) is = is ∙ ap (λ (f : Option Files). with_file f name bytes) same
again old mid new name bytes P (inr put) is = is ∙ ap (λ (f : Option Files). with_file f name bytes) put.2 ∙ with_file-twice old name put.0 bytes

pub touched_twice : (old mid new : Option Files) (name : List ℕ) (P : List ℕ → Type 0) → IsTouched old mid name P → IsTouched mid new name P → IsTouched old new name P
touched_twice old mid new name P first (inl same) = subst (λ (f : Option Files). IsTouched old f name P) (sym same) first
touched_twice old mid new name P first (inr put) = inr (put.0, put.1, again old mid new name put.0 P first put.2)

pub full_anew : (old mid new : Option Files) (name : List ℕ) (P : List ℕ → Type 0) → IsTouched old mid name P → (q : ProblemValue) → IsFull mid new q name One → IsFull old new q name One
full_anew old mid new name P first q full = record {
  proof = full.proof;
  lines = full.lines;
  spelled = full.spelled;
  first = full.first;
  full = full.full;
  replay = full.replay;
  files = again old mid new name full.proof P first full.files;
}

-- ---- faults

pub rose_since : (a b c : ℕ) → a ≤ b → Rose b c → Rose a c
rose_since a b c earlier rose = omega arith

pub writing_since : (before mid after : Faults) (name : List ℕ) → NoneFell before mid → WritingFailed mid after name → WritingFailed before after name
writing_since before mid after name later (inl rose) = inl (rose_since _ _ _ (later Begin name) rose)
writing_since before mid after name later (inr rose) = inr (rose_since _ _ _ (later Append name) rose)

pub fell_twice : (before mid after : Faults) → NoneFell before mid → NoneFell mid after → NoneFell before after
fell_twice before mid after first second call name = let one = first call name in let two = second call name in omega arith

-- ---- one search after another

-- the file was touched, and then once more
pub touches_twice : (P : List ℕ → Type 0) (name : List ℕ) (before mid after : World) → TouchesFile P name before mid → TouchesFile P name mid after → TouchesFile P name before after
touches_twice P name before mid after first second = record {
  touched = touched_twice before.files mid.files after.files name P first.touched second.touched;
  said = second.said ∙ first.said;
  warned = second.warned ∙ first.warned;
  later = fell_twice before.faults mid.faults after.faults first.later second.later;
}

-- after the file was touched
module _ (name : List ℕ) (p : ProblemValue) (before mid after : World) (first : TouchesFile (IsPartOfLog One p) name before mid) where
  sought_anew : (found : Option (List Bool)) → IsSought mid.files after.files name p found → IsSought before.files after.files name p found
  sought_anew (Some a) sought = sought
  sought_anew None (log, ended, files) = (log, ended, again before.files mid.files after.files name log (IsPartOfLog One p) first.touched files)

  stop_anew : (fault : RecordFault) → IsLogStopped fault mid.files after.files p name One mid.faults after.faults → IsLogStopped fault before.files after.files p name One before.faults after.faults
  stop_anew Full full = full_anew before.files mid.files after.files name (IsPartOfLog One p) first.touched p full
  stop_anew NoMemory touched = touched_twice before.files mid.files after.files name (IsPartOfLog One p) first.touched touched
  stop_anew Failed (touched, failed) = (
    touched_twice before.files mid.files after.files name (IsPartOfLog One p) first.touched touched,
    writing_since before.faults mid.faults after.faults name first.later failed,
  )

  pub seeks_anew : (r : Result (Option (List Bool)) RecordFault) → LeavesLog (IsSought mid.files after.files name p) p name mid after r → LeavesLog (IsSought before.files after.files name p) p name before after r
  seeks_anew (Ok found) leaves = record { found = sought_anew found leaves.found; stop = tt; keeps = touches_twice (IsPartOfLog One p) name before mid after first leaves.keeps }
  seeks_anew (Err fault) leaves = record { found = tt; stop = stop_anew fault leaves.stop; keeps = touches_twice (IsPartOfLog One p) name before mid after first leaves.keeps }
