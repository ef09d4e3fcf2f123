-- The bounds of one objective: what each of its functions does.
use Rattle.std.specs.Prelude.{◌≡◌, ◌≢◌, ◌⊎◌, ℕ, ◌+◌, ◌^◌, ◌<◌, ◌≤◌, false, List, [], ◌∷◌, length, Contains, ℤ, pos, ◌+ℤ◌}
use Rattle.scut_base.specs.Literal.{Literal}
use Rattle.pb_lin.specs.Constraint.{ConstraintValue, size, total}
use Rattle.pb_lin.specs.CostRow.{CostRowValue}
use Rattle.pb_lin.specs.Place.{IsPlace}
use Rattle.proof_laws.specs.State.{StateValue, IsState}
use Rattle.cutting_planes.specs.Rules.{IsSum}
use Rattle.cutting_planes.specs.declared.token.PolToken.{PolToken}
use Rattle.cutting_planes.specs.declared.token.PolToken.TheVariants.{Id, Add}
use Rattle.proof_rules.specs.Recording.{Snapshot}
use Rattle.sum_outputs.specs.Adding.{IsOwn, IsReached}
use Rattle.sum_outputs.specs.Totals.{definitions}
use Rattle.totalizer.specs.declared.bound.Bound.{Bound}
use Rattle.totalizer.specs.declared.bound.Bound.TheVariants.{At}
use Rattle.totalizer.specs.declared.reform.Reform.{Reform}
use Rattle.totalizer.specs.Demanding.{IsAnswered}
use Rattle.totalizer.specs.Meaning.{AreTruthsWith, IsBoundAt, IsOwnOrNone}
use Rattle.totalizer.specs.Totalizing.{Fits, HasVariables, IsBuilt}
use Rattle.search_base.specs.CostBounds.{BoundsRow, LineCovers, StandsFor}
use Rattle.search_base.specs.declared.objective_bound.ObjectiveLine.{ObjectiveLine}
use Rattle.search_base.specs.declared.objective_bound.ObjectiveBound.{ObjectiveBound}

-- ---- new bounds

-- nothing has been asked of it
pub record IsNewBound (r : Reform) (b : ObjectiveBound) : Type 0 where
  pub reform : b.reform ≡ r
  pub built : IsBuilt r.terms b.totalizer
  pub fits : (a : Snapshot) → HasVariables a r.terms → Fits a b.totalizer
  pub none : b.objective_lines.items ≡ []

-- ---- rows

-- they are those of some row
abbrev pub FitsRow : Snapshot → ObjectiveBound → Type 0
FitsRow a b = (row : CostRowValue) × BoundsRow a row b

-- of which row they were, of that they still are
abbrev pub KeepsRow : Snapshot → Snapshot → ObjectiveBound → ObjectiveBound → Type 0
KeepsRow a b before now = (row : CostRowValue) → BoundsRow a row before → BoundsRow b row now

-- no line but those that were made for outputs is another
pub record KeepsBut (before now : ObjectiveBound) : Type 0 where
  pub reform : now.reform ≡ before.reform
  pub totalizer : now.totalizer ≡ before.totalizer

-- ---- outputs and lines for them

-- the literal of the reform's only term, or a positive one of an output of its totalizer's root
abbrev pub HasOwnLiteral : ObjectiveBound → Bound → Type 0
HasOwnLiteral b (At l id) = ((weight : ℕ) × (b.reform.terms ≡ (l, weight) ∷ []))
    ⊎ ((1 < length b.reform.terms) × (l ≡ record { var = l.var; neg = false }) × (n : ℕ) × StandsFor b n l)
HasOwnLiteral b bound = Unit {0}

-- the literal stands for "the terms' sum is at least k" by this line
pub record IsOutputAt (a : Snapshot) (b : ObjectiveBound) (k : ℕ) (l : Literal) (id : ℕ) : Type 0 where
  pub some : 0 < k
  pub most : k ≤ total b.reform.terms
  pub at : (s : StateValue) → IsReached a s → IsBoundAt a.problem a.lines s b.reform.terms k l id
  pub answered : IsAnswered b.totalizer k l

abbrev pub IsOutputFor : Snapshot → ObjectiveBound → Literal → ℕ → Type 0
IsOutputFor a b l id = (k : ℕ) × IsOutputAt a b k l id

-- the line says of a row what that of the output says of the terms
pub record IsObjectiveLineAt (p : Snapshot) (row : CostRowValue) (value : ℤ) (l : Literal) (line : ℕ) (s : StateValue) : Type 0 where
  pub own : IsOwnOrNone p.problem p.lines s line
  pub covers : LineCovers s row value line (AreTruthsWith l)

abbrev pub IsObjectiveLineFor : Snapshot → Snapshot → ObjectiveBound → Literal → ℕ → ℕ → Type 0
IsObjectiveLineFor a b before l id line = (row : CostRowValue) (k : ℕ) → BoundsRow a row before → IsOutputAt a before k l id
    → (s : StateValue) → IsReached b s → IsObjectiveLineAt b row (pos k +ℤ before.reform.offset) l line s

-- a line was made for the output of this variable
abbrev pub HasObjectiveLine : ObjectiveBound → ℕ → Type 0
HasObjectiveLine b var = (c : ObjectiveLine) × Contains b.objective_lines.items c × (c.var ≡ var)

-- it is there, and no definition was added
abbrev pub AddsObjectiveLine : Snapshot → Snapshot → ObjectiveBound → ℕ → Type 0
AddsObjectiveLine a b now var = HasObjectiveLine now var × (definitions b.lines ≡ definitions a.lines)

-- outputs need lines of their own
abbrev pub NeedsObjectiveLine : ObjectiveBound → Type 0
NeedsObjectiveLine b = (1 < length b.reform.terms) × (b.reform.lower_line ≢ 0)

-- where outputs need lines, the output has one; and none was made where it had
pub record MakesObjectiveLine (a b : Snapshot) (before now : ObjectiveBound) (l : Literal) : Type 0 where
  pub there : 1 < length before.reform.terms → before.reform.lower_line ≢ 0 → HasObjectiveLine now l.var
  pub again : (1 < length before.reform.terms → before.reform.lower_line ≢ 0 → HasObjectiveLine before l.var)
      → b.lines ≡ a.lines
  pub defined : definitions b.lines ≡ definitions a.lines

-- no line was made for the output of this variable, whose place is this
pub record IsPlaceFor (lines : List ObjectiveLine) (var place : ℕ) : Type 0 where
  pub is : IsPlace (λ c. c.var) lines var place
  pub none : (c : ObjectiveLine) → Contains lines c → c.var ≢ var

-- ---- the sum of two lines

-- of two live lines that no line has learned, the line is the sum
abbrev pub IsSumFor : Snapshot → Snapshot → ℕ → ℕ → ℕ → Type 0
IsSumFor a b first second line = (s t : StateValue) (c d : ConstraintValue) → IsReached a s → IsReached b t
    → IsOwn a.problem a.lines s first c → IsOwn a.problem a.lines s second d
    → (r : ConstraintValue) × IsOwn b.problem b.lines t line r × IsSum r c d

-- both are live, no line has learned them, and their sum isn't too large
pub record CanSum (a : Snapshot) (first second : ℕ) : Type 0 where
  pub lines : (s : StateValue) → IsReached a s → IsState s → (c : ConstraintValue) × (d : ConstraintValue)
      × IsOwn a.problem a.lines s first c × IsOwn a.problem a.lines s second d × (size c + size d ≤ 2 ^ 100)

-- the tokens that make it
abbrev pub sum_of : ℕ → ℕ → List PolToken
sum_of first second = Id first ∷ Id second ∷ Add ∷ []
