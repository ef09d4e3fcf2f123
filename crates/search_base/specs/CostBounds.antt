-- Bounds of objectives.
use Rattle.std.specs.Prelude.{◌≡◌, ◌≢◌, ◌⊎◌, ℕ, ◌+◌, ◌-◌, ◌<◌, Bool, true, false, List, [], ◌∷◌, length, map, sum_by, slice_index_or, All, AllPairs, Contains, Some, ℤ, pos, ◌+ℤ◌, ◌≤ℤ◌, ◌<ℤ◌}
use Rattle.std.specs.List.{AllZip}
use Rattle.scut_base.specs.Literal.{Literal}
use Rattle.scut_base.specs.Assignment.{lit_true}
use Rattle.pb_lin.specs.Constraint.{ConstraintValue, Covers, Holds, IsVariable, total}
use Rattle.pb_lin.specs.CostRow.{CostRowValue, IsCostRow, row_cost}
use Rattle.pb_lin.specs.Problem.{ProblemValue}
use Rattle.pb_lin.specs.Restriction.{met_value, restriction}
use Rattle.proof_laws.specs.State.{StateValue}
use Rattle.proof_laws.specs.Refusal.{line_or_none}
use Rattle.proof_laws.specs.declared.line.Line.{Line}
use Rattle.proof_rules.specs.Recording.{Snapshot}
use Rattle.oracle.specs.Solving.{Reaches}
use Rattle.sum_outputs.specs.Adding.{IsReached, IsReady, KeptHold}
use Rattle.sum_outputs.specs.Totals.{IsAttainable}
use Rattle.sum_outputs.specs.declared.node.Node.{Node}
use Rattle.totalizer.specs.declared.bound.Bound.{Bound}
use Rattle.totalizer.specs.declared.bound.Bound.TheVariants.{Always, Never, At}
use Rattle.totalizer.specs.declared.reform.Reform.{Reform}
use Rattle.totalizer.specs.Meaning.{AreTruthsWith, IsOwnOrNone}
use Rattle.totalizer.specs.Reforming.{IsReformOf}
use Rattle.totalizer.specs.Totalizing.{Fits, terms_of}
use Rattle.totalizer.specs.Demanding.{IsAnswered, IsThere, MakesDemanded}
use Rattle.totalizer.specs.Knowing.{IsUnmade}
use Rattle.search_base.specs.declared.objective_bound.ObjectiveLine.{ObjectiveLine}
use Rattle.search_base.specs.declared.objective_bound.ObjectiveBound.{ObjectiveBound}

-- ---- what stands for "this objective costs at least value"

-- literals of distinct variables
abbrev pub AreApart : List Literal → Type 0
AreApart lits = AllPairs (λ l m. l.var ≢ m.var) lits

-- such literals, whose weights in the row come to no more than the value
pub record AreApartWithin (row : CostRowValue) (value : ℤ) (truths : List Literal) : Type 0 where
  pub apart : AreApart truths
  pub within : (pos (sum_by (met_value truths) row.terms) +ℤ row.offset) ≤ℤ value

-- where these literals are true, the constraint covers "the row costs at least value"
abbrev pub CoversCost : CostRowValue → ℤ → ConstraintValue → List Literal → Type 0
CoversCost row value c truths = (n : ℕ) → value ≡ pos n +ℤ row.offset
    → Covers (restriction c truths) (restriction (record { terms = row.terms; degree = n }) truths)

-- the line of this id does so wherever literals of this kind are true; line 0 is "0 >= 0"
abbrev pub LineCovers : StateValue → CostRowValue → ℤ → ℕ → (List Literal → Type 0) → Type 0
LineCovers s row value id IsKind = (c : ConstraintValue) × (line_or_none s.live id ≡ Some c)
    × ((truths : List Literal) → IsKind truths → CoversCost row value c truths)

-- the row costs at least value at every assignment, as the line says
pub record IsAlwaysOver (p : ProblemValue) (lines : List Line) (row : CostRowValue) (value : ℤ) (id : ℕ)
    (s : StateValue) : Type 0 where
  pub own : IsOwnOrNone p lines s id
  pub covers : LineCovers s row value id (AreApartWithin row value)

-- no assignment that makes the rows and the kept clauses hold costs so much
abbrev pub IsNeverOver : ProblemValue → List Line → CostRowValue → ℤ → StateValue → Type 0
IsNeverOver p lines row value s = (x : List Bool) → All (Holds x) p.rows → KeptHold p lines s x
    → row_cost x row <ℤ value

-- the literal stands for "the row costs at least value", by this line
pub record IsOverAt (p : ProblemValue) (lines : List Line) (row : CostRowValue) (value : ℤ) (l : Literal) (id : ℕ)
    (s : StateValue) : Type 0 where
  pub variable : IsVariable s.vars l.var
  pub own : IsOwnOrNone p lines s id
  pub follows : (x : List Bool) → All (Holds x) p.rows → KeptHold p lines s x
      → value ≤ℤ row_cost x row → lit_true x l ≡ true
  pub covers : LineCovers s row value id (AreTruthsWith l)

-- what is answered for "this objective costs at least value"
abbrev pub IsCostBound : ProblemValue → List Line → CostRowValue → ℤ → Bound → Type 0
IsCostBound p lines row value (Always id) = Reaches p lines (IsAlwaysOver p lines row value id)
IsCostBound p lines row value Never = Reaches p lines (IsNeverOver p lines row value)
IsCostBound p lines row value (At l id) = Reaches p lines (IsOverAt p lines row value l id)

-- ---- which of the three is answered

-- all that the reform can be
abbrev pub greatest_of : Reform → ℤ
greatest_of r = r.offset +ℤ pos (total r.terms)

-- by the objective's reform
abbrev pub IsAnswerFor : Reform → ℤ → Bound → Type 0
IsAnswerFor r value (Always id) = (value ≤ℤ r.offset) × (id ≡ r.lower_line)
IsAnswerFor r value Never = greatest_of r <ℤ value
IsAnswerFor r value (At l id) = (r.offset <ℤ value) × (value ≤ℤ greatest_of r)

-- a variable that stands in no term of these
abbrev pub IsOutside : List Reform → ℕ → Type 0
IsOutside reforms var = All (λ r. All (λ t. t.0.var ≢ var) r.terms) reforms

-- the literal of the reform's only term; or a positive one of a variable that is in no term of a reform
abbrev pub HasLiteral : List Reform → Reform → Bound → Type 0
HasLiteral reforms r (At l id) = ((weight : ℕ) × (r.terms ≡ (l, weight) ∷ []))
    ⊎ ((1 < length r.terms) × (l ≡ record { var = l.var; neg = false }) × IsOutside reforms l.var)
HasLiteral reforms r bound = Unit {0}

-- ---- bounds that may be asked

abbrev pub reforms_of : List ObjectiveBound → List Reform
reforms_of bounds = map (λ b. b.reform) bounds

-- at the root of its totalizer, the literal stands for this sum
abbrev pub StandsFor : ObjectiveBound → ℕ → Literal → Type 0
StandsFor b n l = IsThere b.totalizer.made (length b.totalizer.nodes - 1) n l

-- The line was made for an output's variable: no line has learned it, and it covers what the output stands for.
pub record IsObjectiveLine (p : ProblemValue) (lines : List Line) (s : StateValue) (row : CostRowValue) (b : ObjectiveBound)
    (c : ObjectiveLine) : Type 0 where
  pub sum : ℕ
  pub there : StandsFor b sum (record { var = c.var; neg = false })
  pub own : IsOwnOrNone p lines s c.line
  pub covers : LineCovers s row (pos sum +ℤ b.reform.offset) c.line (AreTruthsWith (record { var = c.var; neg = false }))

-- an objective in other terms, a totalizer of these that may be asked, and the lines that were made for its outputs
pub record BoundsRow (a : Snapshot) (row : CostRowValue) (b : ObjectiveBound) : Type 0 where
  pub weights : IsCostRow row.terms row.offset
  pub reform : (s : StateValue) → IsReached a s → IsReformOf a.problem a.lines s row b.reform
  pub terms : terms_of b.totalizer ≡ b.reform.terms
  pub fits : Fits a b.totalizer
  pub objective_lines : (s : StateValue) → IsReached a s → All (IsObjectiveLine a.problem a.lines s row b) b.objective_lines.items
  pub rising : AllPairs (λ c d. c.var < d.var) b.objective_lines.items
  -- each literal of an output stands for one sum
  pub once : (l : Literal) (m n : ℕ) → StandsFor b m l → StandsFor b n l → m ≡ n

-- the variables of outputs that were made are in no term of a reform
abbrev pub AreMadeOutside : List Reform → ObjectiveBound → Type 0
AreMadeOutside reforms b = (i n : ℕ) (d : Node) (l : Literal) → i < length b.totalizer.nodes
    → 1 < length (slice_index_or b.totalizer.nodes i d).terms → IsThere b.totalizer.made i n l → IsOutside reforms l.var

-- one for each objective, in order
pub record FitBounds (a : Snapshot) (bounds : List ObjectiveBound) : Type 0 where
  pub rows : AllZip (BoundsRow a) a.problem.costs bounds
  pub outside : All (AreMadeOutside (reforms_of bounds)) bounds

-- some recorder's lines made them
abbrev pub FitSome : List ObjectiveBound → Type 0
FitSome bounds = (a : Snapshot) × IsReady a × FitBounds a bounds

-- each objective in other terms, in order
pub record AreReforms (a : Snapshot) (reforms : List Reform) : Type 0 where
  pub rows : All (λ r. IsCostRow r.terms r.offset) a.problem.costs
  pub count : length reforms ≡ length a.problem.costs
  pub each : (s : StateValue) → IsReached a s → AllZip (IsReformOf a.problem a.lines s) a.problem.costs reforms

-- ---- what a bound adds

-- the literal was asked for before: its output is there, and so is its line, where it needs one of its own
pub record IsKnownAt (b : ObjectiveBound) (k : ℕ) (l : Literal) : Type 0 where
  pub answered : IsAnswered b.totalizer k l
  pub line : 1 < length b.reform.terms → b.reform.lower_line ≢ 0 → (c : ObjectiveLine) × Contains b.objective_lines.items c × (c.var ≡ l.var)

-- what a literal for "the reform's sum is at least k" adds: what that demands, and no line where it was asked for before
pub record AddsCost (a b : Snapshot) (k : ℕ) (before now : ObjectiveBound) (l : Literal) : Type 0 where
  pub makes : MakesDemanded a b k before.totalizer now.totalizer
  pub known : IsKnownAt now k l
  pub again : IsKnownAt before k l → b.lines ≡ a.lines

-- where no literal is answered, nothing is added
abbrev pub AddsBound : Snapshot → Snapshot → ℤ → ObjectiveBound → ObjectiveBound → Bound → Type 0
AddsBound a b value before now (At l id) = (k : ℕ) × (value ≡ pos k +ℤ before.reform.offset) × AddsCost a b k before now l
AddsBound a b value before now bound = (b.lines ≡ a.lines) × (now ≡ before)

-- the reforms are the same, and so are the bounds of all objectives but one
pub record KeepsOthers (objective : ℕ) (before now : List ObjectiveBound) : Type 0 where
  pub reforms : reforms_of now ≡ reforms_of before
  pub others : (i : ℕ) (d : ObjectiveBound) → i ≢ objective → slice_index_or now i d ≡ slice_index_or before i d

-- ---- what a reform can be

-- some of the reform's weights, with its offset, have this value
abbrev pub IsValueOf : Reform → ℤ → Type 0
IsValueOf r n = (k : ℕ) × (n ≡ pos k +ℤ r.offset) × IsAttainable r.terms k

-- the least of these values above the given one
pub record IsNextValue (r : Reform) (value next : ℤ) : Type 0 where
  pub is : IsValueOf r next
  pub above : value <ℤ next
  pub least : (n : ℤ) → IsValueOf r n → value <ℤ n → next ≤ℤ n

-- the value is the offset or above it, and no output was made that stands for "the reform exceeds it"
abbrev pub IsNextUnmade : ObjectiveBound → ℤ → Type 0
IsNextUnmade b value = (k : ℕ) × (value ≡ pos k +ℤ b.reform.offset) × IsUnmade b.totalizer (k + 1)
