-- The next states, and how many constraints a line makes.
use Rattle.std.specs.Prelude.{ℕ, ◌+◌, ◌-◌, ◌==◌, true, false, if◌then◌else◌, List, [], ◌∷◌, ◌++◌, map, fold, ℤ}
use Rattle.std.specs.FinMap.{insert, remove}
use Rattle.scut_base.specs.Literal.{Literal}
use Rattle.pb_lin.specs.Constraint.{ConstraintValue, opposite, total}
use Rattle.proof_laws.specs.State.{StateValue}
use Rattle.proof_laws.specs.declared.line.Line.{Line}
use Rattle.proof_laws.specs.declared.line.Line.TheVariants.{Def, Del, Reduce, End}

-- the state after a line that makes n constraints
abbrev pub counted : ℕ → StateValue → StateValue
counted n s = record s { next_id = s.next_id + n; lines = s.lines + 1 }

-- the state with a constraint live under an id
abbrev pub with_live : StateValue → ℕ → ConstraintValue → StateValue
with_live s id c = record s { live = insert s.live id c }

-- the state after a line that makes this constraint
abbrev pub with_line : StateValue → ConstraintValue → StateValue
with_line s c = counted 1 (with_live s s.next_id c)

-- the same after a line that learns it
abbrev pub with_learned : StateValue → ConstraintValue → StateValue
with_learned s c = record (with_line s c) { learned = s.learned + 1 }

-- a term, or none where the coefficient is 0
abbrev pub term_of : Literal → ℕ → List (Literal × ℕ)
term_of l k = if k == 0 then [] else (l, k) ∷ []

-- the variable implies that the sum reaches k
abbrev pub reached_if : ℕ → ConstraintValue → ConstraintValue
reached_if var sum = record { terms = sum.terms ++ term_of (record { var = var; neg = true }) sum.degree; degree = sum.degree }

-- how far the sum of the negated literals is above what it is where the sum is k: T - k + 1, or 0 where that is below 0
abbrev pub missed_by : ConstraintValue → ℕ
missed_by sum = (total sum.terms + 1) - sum.degree

-- its negation implies that the sum doesn't reach k
abbrev pub reached_only_if : ℕ → ConstraintValue → ConstraintValue
reached_only_if var sum = record {
  terms = map (λ t. (opposite t.0, t.1)) sum.terms ++ term_of (record { var = var; neg = false }) (missed_by sum);
  degree = missed_by sum;
}

-- the state with one variable more, which is true exactly where the sum reaches its degree
abbrev pub with_definition : StateValue → ConstraintValue → StateValue
with_definition s sum = counted 2 (record (with_live (with_live s s.next_id (reached_if (s.vars + 1) sum)) (s.next_id + 1) (reached_only_if (s.vars + 1) sum)) { vars = s.vars + 1 })

-- some literal is true
abbrev pub clause : List Literal → ConstraintValue
clause lits = record { terms = map (λ l. (l, 1)) lits; degree = 1 }

-- the state with this vector logged, and the clause of the cut live
abbrev pub with_solution : StateValue → List Literal → List ℤ → StateValue
with_solution s cut costs = record (with_line s (clause cut)) { sols = s.sols ++ costs ∷ [] }

-- the state with these lines no longer live
abbrev pub without_lines : StateValue → List ℕ → StateValue
without_lines s ids = counted 0 (record s { live = fold remove s.live ids })

-- the state after the end
abbrev pub with_end : StateValue → StateValue
with_end s = counted 0 (record s { ended = true })

-- how many constraints a line makes
abbrev pub made : Line → ℕ
made (Def var sum) = 2
made (Del ids) = 0
made (Reduce ids) = 0
made (End id) = 0
made line = 1
