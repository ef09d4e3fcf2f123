-- What a proof has earned: learned clauses that are new, and optima that are reached.
use Rattle.std.specs.Prelude.{◌≡◌, ◌⊎◌, ℕ, ◌+◌, ◌-◌, ◌*◌, ◌<◌, ◌≤◌, ◌^◌, Bool, true, false, List, [], ◌∷◌, ◌++◌, length, All, Contains, Option, None, Some}
use Rattle.std.specs.List.{count_by}
use Rattle.std.specs.FinMap.{get}
use Rattle.scut_base.specs.Literal.{Literal}
use Rattle.scut_base.specs.Assignment.{partial_truth}
use Rattle.pb_lin.specs.Constraint.{ConstraintValue, Covers, value}
use Rattle.pb_lin.specs.CostRow.{CostRowValue}
use Rattle.pb_lin.specs.Problem.{ProblemValue, IsProblemModel}
use Rattle.pb_lin.specs.Propagation.{IsClosedUnder}
use Rattle.hint_rup.specs.declared.hint.Hint.{Hint}
use Rattle.hint_rup.specs.declared.hint.Hint.TheVariants.{Id as IdHint}
use Rattle.proof_laws.specs.WellFormed.{IsWellFormed}
use Rattle.proof_laws.specs.State.{StateValue}
use Rattle.proof_laws.specs.Refusal.{is_clause, line_or_none}
use Rattle.proof_laws.specs.Replay.{IsReplay}
use Rattle.proof_laws.specs.declared.line.Line.{Line}
use Rattle.proof_laws.specs.declared.line.Line.TheVariants.{Learn, Del, Reduce, Sol}

abbrev pub is_learn : Line → Bool
is_learn (Learn goal hints) = true
is_learn line = false

abbrev pub is_reduce : Line → Bool
is_reduce (Reduce ids) = true
is_reduce line = false

abbrev pub is_sol : Line → Bool
is_sol (Sol model cut rows) = true
is_sol line = false

-- whether a line learns or deletes
abbrev pub changes_learned : Line → Bool
changes_learned (Learn goal hints) = true
changes_learned (Del ids) = true
changes_learned (Reduce ids) = true
changes_learned line = false

-- the line stands among these, after the first and before the last
abbrev pub Splits : List Line → List Line → Line → List Line → Type 0
Splits lines before line after = lines ≡ before ++ (line ∷ after)

-- one of these lines has learned the clause of this id
abbrev pub IsLearnedId : ProblemValue → List Line → ℕ → Type 0
IsLearnedId p lines id = (before : List Line) × (goal : ConstraintValue) × (hints : List Hint) × (after : List Line) × (s : StateValue)
    × Splits lines before (Learn goal hints) after × IsReplay p before s × (id ≡ s.next_id)

-- the id is that of a row of the problem, or of a live clause
abbrev pub IsRowOrClause : ProblemValue → StateValue → ℕ → Type 0
IsRowOrClause p s id = ((0 < id) × (id ≤ length p.rows)) ⊎ ((c : ConstraintValue) × (get s.live id ≡ Some c) × (is_clause c ≡ true))

-- nothing follows by propagation from the rows and the live clauses, and none of them is violated
pub record IsClosedFor (p : ProblemValue) (s : StateValue) (q : List (Option Bool)) : Type 0 where
  pub long : length q ≡ s.vars
  pub rows : All (IsClosedUnder q) p.rows
  pub clauses : (id : ℕ) (c : ConstraintValue) → get s.live id ≡ Some c → is_clause c ≡ true → IsClosedUnder q c

-- one literal is open, and all others are false
abbrev pub IsUnitUnder : List (Option Bool) → ConstraintValue → Type 0
IsUnitUnder q c = (t : Literal × ℕ) × Contains c.terms t × (partial_truth q t.0 ≡ None)
    × All (λ u. (u.0 ≡ t.0) ⊎ (partial_truth q u.0 ≡ Some false)) c.terms

-- The clause is new: propagation doesn't give it, so no live clause is part of it; and its hints are rows and live clauses.
pub record IsNewClause (p : ProblemValue) (s : StateValue) (goal : ConstraintValue) (hints : List Hint) : Type 0 where
  pub sources : All (λ h. (id : ℕ) × (h ≡ IdHint id) × IsRowOrClause p s id) hints
  pub unit : (q : List (Option Bool)) × IsClosedFor p s q × IsUnitUnder q goal

-- The k-th reduction, after these lines: it comes directly after clause 1000 (2^k - 1) was learned, and names learned lines.
pub record IsReduction (p : ProblemValue) (before : List Line) (ids : List ℕ) : Type 0 where
  pub number : count_by is_reduce before < 40
  pub place : (earlier : List Line) × (goal : ConstraintValue) × (hints : List Hint) × (before ≡ earlier ++ (Learn goal hints ∷ []))
  pub learned : count_by is_learn before ≡ 1000 * (2 ^ (count_by is_reduce before + 1) - 1)
  pub named : All (IsLearnedId p before) ids

-- The lines replay, and have earned n clauses: each is new where it is learned, and deleted by reductions alone.
pub record IsEarned (p : ProblemValue) (lines : List Line) (n : ℕ) : Type 0 where
  pub replays : (s : StateValue) × IsReplay p lines s
  pub learned : count_by is_learn lines ≡ n
  pub new : (before : List Line) (goal : ConstraintValue) (hints : List Hint) (after : List Line) (s : StateValue)
      → Splits lines before (Learn goal hints) after → IsReplay p before s → IsNewClause p s goal hints
  pub kept : (before : List Line) (ids : List ℕ) (after : List Line)
      → Splits lines before (Del ids) after → All (λ id. IsLearnedId p before id → ⊥) ids
  pub reductions : (before : List Line) (ids : List ℕ) (after : List Line)
      → Splits lines before (Reduce ids) after → IsReduction p before ids

-- the lines are earned, and so they would be with one learned clause more, in a line that is well formed
abbrev pub HasMore : ProblemValue → List Line → Type 0
HasMore p lines = (n : ℕ) × IsEarned p lines n
    × (goal : ConstraintValue) × (hints : List Hint) × IsWellFormed (Learn goal hints) × IsEarned p (lines ++ (Learn goal hints ∷ [])) (n + 1)

-- m is the least value of the row's terms among all models
pub record IsLeastValue (p : ProblemValue) (r : CostRowValue) (m : ℕ) : Type 0 where
  pub reached : (b : List Bool) × IsProblemModel p b × (value b r.terms ≡ m)
  pub least : (b : List Bool) → IsProblemModel p b → m ≤ value b r.terms

-- a live line, or "0 >= 0", covers "the row's terms are at least m"
abbrev pub IsBounded : StateValue → CostRowValue → ℕ → Type 0
IsBounded s r m = (id : ℕ) × (c : ConstraintValue) × (line_or_none s.live id ≡ Some c) × Covers c (record { terms = r.terms; degree = m })

-- the live lines bound each objective by its optimum
abbrev pub AreOptimaBounded : ProblemValue → StateValue → Type 0
AreOptimaBounded p s = All (λ r. (m : ℕ) × IsLeastValue p r m × IsBounded s r m) p.costs

-- "0 >= 1" is live, or there are more than 2^40 variables, or the optima are bounded
abbrev pub HasBoosted : ProblemValue → StateValue → Type 0
HasBoosted p s = ((id : ℕ) × (get s.live id ≡ Some (record { terms = []; degree = 1 }))) ⊎ ((2 ^ 40 < s.vars) ⊎ AreOptimaBounded p s)

-- that is so after some first lines, of which none logs a solution
abbrev pub IsBoosted : ProblemValue → List Line → Type 0
IsBoosted p lines = (before : List Line) × (after : List Line) × (s : StateValue)
    × (lines ≡ before ++ after) × All (λ line. is_sol line ≡ false) before × IsReplay p before s × HasBoosted p s
