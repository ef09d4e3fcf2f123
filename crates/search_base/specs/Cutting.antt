-- The cut of a model, and the line that logs it.
use Rattle.std.specs.Prelude.{◌≡◌, ◌↔◌, ◌⊎◌, ℕ, ◌<◌, Bool, false, List, [], ◌∷◌, ◌++◌, length, map, slice_index_or, sum_by, take, Some, ℤ, pos, ◌+ℤ◌, ◌≤ℤ◌, Contains}
use Rattle.std.specs.List.{AllZip, flat_map}
use Rattle.scut_base.specs.Literal.{Literal}
use Rattle.front_set.specs.declared.set.Inserted.{Inserted}
use Rattle.front_set.specs.Front.{IsInserted}
use Rattle.instance_normal.specs.NormalForm.{AreDistinct}
use Rattle.pb_lin.specs.Constraint.{opposite}
use Rattle.pb_lin.specs.CostRow.{CostRowValue, row_cost}
use Rattle.pb_lin.specs.Problem.{ProblemValue}
use Rattle.pb_lin.specs.Restriction.{met_value}
use Rattle.proof_laws.specs.Refusal.{literals_at}
use Rattle.proof_laws.specs.State.{StateValue, IsState}
use Rattle.proof_laws.specs.declared.line.Line.{Line}
use Rattle.proof_laws.specs.declared.line.Line.TheVariants.{Sol}
use Rattle.proof_rules.specs.Recording.{Snapshot}
use Rattle.sum_outputs.specs.Adding.{IsReached}
use Rattle.oracle.specs.Solving.{Reaches}
use Rattle.totalizer.specs.Meaning.{IsOwnOrNone}
use Rattle.totalizer.specs.declared.reform.Reform.{Reform}
use Rattle.totalizer.specs.declared.bound.Bound.{Bound}
use Rattle.totalizer.specs.declared.bound.Bound.TheVariants.{Always, Never, At}
use Rattle.search_base.specs.Boards.{BoardValue}
use Rattle.search_base.specs.CostBounds.{AreApart, HasLiteral, IsAnswerFor, IsCostBound, IsOverAt, LineCovers}

-- ---- answers

-- the literal that was answered, if there is one
abbrev pub answered_literal : Bound → List Literal
answered_literal (Always id) = []
answered_literal Never = []
answered_literal (At lit id) = lit ∷ []

-- the line that was named, or 0
abbrev pub answered_line : Bound → ℕ
answered_line (Always id) = id
answered_line Never = 0
answered_line (At lit id) = id

-- the literals of answers, in order
abbrev pub answered_literals : List Bound → List Literal
answered_literals answers = flat_map answered_literal answers

-- for each objective, in order, what stands for "it costs at least this number"
pub record AreAnswers (p : ProblemValue) (lines : List Line) (values : List ℤ) (answers : List Bound) : Type 0 where
  pub count : length answers ≡ length values
  pub each : (i : ℕ) (r : CostRowValue) (v : ℤ) (b : Bound) → i < length answers
      → IsCostBound p lines (slice_index_or p.costs i r) (slice_index_or values i v) (slice_index_or answers i b)

-- each is that of the objective's reform, and has a literal of it or of an output
pub record AreAsked (reforms : List Reform) (values : List ℤ) (answers : List Bound) : Type 0 where
  pub each : (i : ℕ) (r : Reform) (v : ℤ) (b : Bound) → i < length answers
      → IsAnswerFor (slice_index_or reforms i r) (slice_index_or values i v) (slice_index_or answers i b)
      × HasLiteral reforms (slice_index_or reforms i r) (slice_index_or answers i b)

-- ---- the lines that are named

-- The line of an objective that always costs so much is named only where the weights of these literals in its row come
-- to no more than that. No line is named where they come to as much by themselves.
abbrev pub IsNamed : CostRowValue → ℤ → List Literal → Bound → Bound → Type 0
IsNamed row value lits (Always id) named =
    ((named ≡ Always 0) × (value ≤ℤ (pos (sum_by (met_value lits) row.terms) +ℤ row.offset)))
    ⊎ ((named ≡ Always id) × ((pos (sum_by (met_value lits) row.terms) +ℤ row.offset) ≤ℤ value))
IsNamed row value lits answer named = named ≡ answer

pub record AreNamed (p : ProblemValue) (values : List ℤ) (answers named : List Bound) : Type 0 where
  pub count : length named ≡ length answers
  pub each : (i : ℕ) (r : CostRowValue) (v : ℤ) (b c : Bound) → i < length named
      → IsNamed (slice_index_or p.costs i r) (slice_index_or values i v) (answered_literals answers)
      (slice_index_or answers i b) (slice_index_or named i c)

-- literals of distinct variables, which are these
pub record AreThese (lits truths : List Literal) : Type 0 where
  pub apart : AreApart truths
  pub same : (l : Literal) → Contains truths l ↔ Contains lits l

-- the line covers the row's value, wherever these literals are true
pub record IsAlwaysAt (p : ProblemValue) (lines : List Line) (s : StateValue) (row : CostRowValue) (value : ℤ)
    (lits : List Literal) (id : ℕ) : Type 0 where
  pub own : IsOwnOrNone p lines s id
  pub covers : LineCovers s row value id (AreThese lits)

-- What is answered for a row at its value under x, beside answers with these literals.
abbrev pub IsAnswerAt : ProblemValue → List Line → StateValue → List Bool → List Literal → CostRowValue → Bound → Type 0
IsAnswerAt p lines s x lits r (Always id) = IsAlwaysAt p lines s r (row_cost x r) lits id
IsAnswerAt p lines s x lits r Never = ⊥
IsAnswerAt p lines s x lits r (At l id) = IsOverAt p lines r (row_cost x r) l id s

-- for each objective, in order
abbrev pub AreAnswersAt : ProblemValue → List Line → List Bool → List Bound → Type 0
AreAnswersAt p lines x answers = Reaches p lines
    (λ s. AllZip (IsAnswerAt p lines s x (answered_literals answers)) p.costs answers)

-- ---- cuts

-- literals of one variable are the same literal
abbrev pub AreAlike : List Literal → Type 0
AreAlike lits = (l m : Literal) → Contains lits l → Contains lits m → l.var ≡ m.var → l ≡ m

-- the opposites of the literals of answers, each once, in rising order of variables
abbrev pub IsCutOf : List Bound → List Literal → Type 0
IsCutOf answers cut = AreDistinct (map opposite (answered_literals answers)) cut

-- ---- the line

-- the line logs this assignment, with the cut of these answers
pub record IsModelLine (x : List Bool) (answers : List Bound) (line : Line) : Type 0 where
  pub cut : List Literal
  pub exact : IsCutOf answers cut
  pub is : line ≡ Sol (literals_at 1 x) cut (map answered_line answers)

-- such a line was added, from one state to another, and the recorder isn't broken
pub record LogsModel (a b : Snapshot) (x : List Bool) (answers : List Bound) : Type 0 where
  pub before : StateValue
  pub known : IsState before
  pub stood : IsReached a before
  pub line : Line
  pub is : IsModelLine x answers line
  pub lines : b.lines ≡ a.lines ++ line ∷ []
  pub whole : b.broken ≡ false
  pub state : StateValue
  pub reached : IsReached b state

-- ---- the board

-- the first values are put onto the board, with these costs
pub record IsPut (old new : BoardValue) (costs : List ℤ) (x : List Bool) : Type 0 where
  pub instance : new.instance ≡ old.instance
  pub problem : new.problem ≡ old.problem
  pub last : new.last ≡ Some costs
  pub done : Inserted
  pub inserted : IsInserted old.entries new.entries (record { costs = costs; model = take old.instance.vars x }) done
