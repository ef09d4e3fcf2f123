-- The question whether a model's costs are at most limits: what it assumes.
use Rattle.std.specs.Prelude.{◌≡◌, ◌≢◌, ◌⊎◌, ℕ, ◌-◌, ◌^◌, ◌<◌, ◌≤◌, List, [], ◌∷◌, ◌++◌, length, slice_index_or, Option, None, Some, ℤ, pos, ◌+ℤ◌, ◌<ℤ◌, All, AllPairs, Contains}
use Rattle.scut_base.specs.Literal.{Literal}
use Rattle.pb_lin.specs.Constraint.{opposite}
use Rattle.pb_lin.specs.CostRow.{CostRowValue}
use Rattle.pb_lin.specs.Problem.{ProblemValue}
use Rattle.proof_laws.specs.declared.line.Line.{Line}
use Rattle.proof_rules.specs.Recording.{Snapshot}
use Rattle.totalizer.specs.declared.bound.Bound.{Bound}
use Rattle.totalizer.specs.declared.bound.Bound.TheVariants.{Always, Never, At}
use Rattle.search_base.specs.CostBounds.{IsCostBound}

-- ---- excesses

-- what stands for "the cost of this objective exceeds its limit", after these lines
abbrev pub IsExcess : ProblemValue → List Line → List ℤ → ℕ → Bound → Type 0
IsExcess p lines limits i bound = (d : CostRowValue) (e : ℤ)
    → IsCostBound p lines (slice_index_or p.costs i d) (slice_index_or limits i e +ℤ pos 1) bound

-- a limit that a cost may exceed is below 2^63 - 1
abbrev pub IsLimited : ℤ → Bound → Type 0
IsLimited limit Never = Unit {0}
IsLimited limit bound = limit <ℤ pos (2 ^ 63 - 1)

-- the excesses of the first objectives
pub record AreExcesses (p : ProblemValue) (lines : List Line) (limits : List ℤ) (excesses : List Bound) : Type 0 where
  pub count : length excesses ≤ length limits
  pub each : (i : ℕ) (b : Bound) → i < length excesses → IsExcess p lines limits i (slice_index_or excesses i b)
  pub limited : (i : ℕ) (e : ℤ) (b : Bound) → i < length excesses
      → IsLimited (slice_index_or limits i e) (slice_index_or excesses i b)

-- ---- denials

-- where these literals are true, the bound isn't reached
abbrev pub IsRuledOut : List Literal → Bound → Type 0
IsRuledOut lits (Always id) = ⊥
IsRuledOut lits Never = Unit {0}
IsRuledOut lits (At l id) = Contains lits (opposite l)

-- the literal is the opposite of the one that stands for the bound
abbrev pub IsDenial : Bound → Literal → Type 0
IsDenial (At l id) m = m ≡ opposite l
IsDenial bound m = ⊥

-- literals of distinct variables that rule out each of these, and no others
pub record Denies (bounds : List Bound) (lits : List Literal) : Type 0 where
  pub out : All (IsRuledOut lits) bounds
  pub only : All (λ m. (b : Bound) × Contains bounds b × IsDenial b m) lits
  pub apart : AllPairs (λ l m. l.var ≢ m.var) lits

-- the literals with the denial of the bound
pub record AddsDenial (old new : List Literal) (bound : Bound) : Type 0 where
  pub out : IsRuledOut new bound
  pub stay : (m : Literal) → Contains old m → Contains new m
  pub only : (m : Literal) → Contains new m → Contains old m ⊎ IsDenial bound m
  pub apart : AllPairs (λ l m. l.var ≢ m.var) old → AllPairs (λ l m. l.var ≢ m.var) new

-- no assignment makes the literals true where the bound isn't reached
abbrev pub IsUndeniable : List Literal → Bound → Type 0
IsUndeniable lits (Always id) = Unit {0}
IsUndeniable lits Never = ⊥
IsUndeniable lits (At l id) = Contains lits l

-- the last of them can't be denied beside what denies the others
pub record Clashes (bounds : List Bound) (last : Bound) : Type 0 where
  pub before : List Bound
  pub are : bounds ≡ before ++ last ∷ []
  pub lits : List Literal
  pub denies : Denies before lits
  pub undeniable : IsUndeniable lits last

-- ---- the question

-- the literals that deny all excesses; or none, since the last one clashes with the others
abbrev pub IsAsked : List ℤ → List Bound → Bound → Option (List Literal) → Type 0
IsAsked limits bounds last (Some lits) = (length bounds ≡ length limits) × Denies bounds lits
IsAsked limits bounds last None = Clashes bounds last

-- the excesses of the first objectives, with what is to be assumed
pub record IsQuestion (b : Snapshot) (limits : List ℤ) (bounds : List Bound) (last : Bound)
    (lits : Option (List Literal)) : Type 0 where
  pub excesses : AreExcesses b.problem b.lines limits bounds
  pub asked : IsAsked limits bounds last lits
