-- How the state of a trimmed proof stands to that of the old one.
use Rattle.std.specs.Prelude.{◌≡◌, ℕ, ◌<◌, ◌≤◌, List, All, Contains, Some}
use Rattle.std.specs.FinMap.{get}
use Rattle.pb_lin.specs.Constraint.{ConstraintValue}
use Rattle.pb_lin.specs.LineMap.{LineMap}
use Rattle.pb_lin.specs.Problem.{ProblemValue, IsProblem}
use Rattle.proof_laws.specs.State.{StateValue}
use Rattle.proof_laws.specs.Replay.{IsReplay}
use Rattle.proof_laws.specs.WellFormed.{IsWellFormed}
use Rattle.proof_laws.specs.declared.line.Line.{Line}
use Rattle.command_trim.specs.Trimmed.{Renaming, new_id, trimmed}

-- Ids with new ones are below n, their new ones below k, and these rise with the old ones.
pub record IsRenaming (r : Renaming) (n k : ℕ) : Type 0 where
  pub rows : (r.rows < n) × (r.rows < k)
  pub old : (id new : ℕ) → new_id r id ≡ Some new → id < n
  pub new : (id new : ℕ) → new_id r id ≡ Some new → new < k
  pub rising : (i j a b : ℕ) → new_id r i ≡ Some a → new_id r j ≡ Some b → i < j → a < b

-- the new lines are those of the old ones that have new ids, under these
pub record Carries (r : Renaming) (old new : LineMap) : Type 0 where
  pub kept : (id new_one : ℕ) → new_id r id ≡ Some new_one → get new new_one ≡ get old id
  pub known : (new_one : ℕ) (c : ConstraintValue) → get new new_one ≡ Some c → (id : ℕ) × (new_id r id ≡ Some new_one)

-- The new state has the lines of the old one that have new ids; it has logged none but its vectors.
pub record Simulates (r : Renaming) (old new : StateValue) : Type 0 where
  pub renaming : IsRenaming r old.next_id new.next_id
  pub live : Carries r old.live new.live
  pub vars : new.vars ≡ old.vars
  pub ended : new.ended ≡ old.ended
  pub lines : new.lines ≤ old.lines
  pub sols : All (Contains old.sols) new.sols

-- the live line of this id has a new id, under which the new state has it
pub record IsCarried (r : Renaming) (s t : StateValue) (id : ℕ) (c : ConstraintValue) : Type 0 where
  pub new : ℕ
  pub is : new_id r id ≡ Some new
  pub there : get t.live new ≡ Some c

-- so it is of the live ones among these
abbrev pub AreCarried : Renaming → StateValue → StateValue → List ℕ → Type 0
AreCarried r s t ids = All (λ id. (c : ConstraintValue) → get s.live id ≡ Some c → IsCarried r s t id c) ids

-- what a trimmed proof comes to
pub record IsTrimmedReplay (p : ProblemValue) (lines : List Line) (s t : StateValue) : Type 0 where
  pub formed : All IsWellFormed (trimmed p lines)
  pub replay : IsReplay p (trimmed p lines) t
  pub ended : t.ended ≡ s.ended
  pub sols : All (Contains s.sols) t.sols

-- the trimmed lines of a proof are one, which has ended where the old one has, and logs no other vectors
abbrev pub TrimmedReplays : Type 0
TrimmedReplays = (p : ProblemValue) (lines : List Line) (s : StateValue) → IsProblem p → All IsWellFormed lines → IsReplay p lines s → (t : StateValue) × IsTrimmedReplay p lines s t
