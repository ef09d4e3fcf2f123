-- The learned clauses that a search may let go of, and its reductions.
use Rattle.std.specs.Prelude.{◌≡◌, ℕ, ◌+◌, ◌-◌, ◌*◌, ◌^◌, ◌<◌, if◌then◌else◌, nat_lt}
use Rattle.std.specs.Prelude.{List, [], ◌∷◌, ◌++◌, length, All, AllPairs, Contains, Option, None, Some, IfSome}
use Rattle.std.specs.List.{count_by}
use Rattle.pb_lin.specs.Constraint.{ConstraintValue}
use Rattle.pb_lin.specs.Problem.{ProblemValue}
use Rattle.hint_rup.specs.declared.hint.Hint.{Hint}
use Rattle.proof_laws.specs.Earned.{IsLearnedId, is_reduce}
use Rattle.proof_laws.specs.declared.line.Line.{Line}
use Rattle.proof_laws.specs.declared.line.Line.TheVariants.{Learn, Reduce}

-- ids of learned clauses, and the number of reductions, where it is known
pub record LedgerValue : Type 0 where
  pub ids : List ℕ
  pub reductions : Option ℕ

-- The ids are of learned clauses that are taken up, rising, and the reductions are counted.
pub record IsLedger (p : ProblemValue) (lines : List Line) (next : ℕ) (ledger : LedgerValue) : Type 0 where
  pub learned : All (IsLearnedId p lines) ledger.ids
  pub between : All (λ id. (length p.rows < id) × (id < next)) ledger.ids
  pub rising : AllPairs (λ i j. i < j) ledger.ids
  pub counted : IfSome ledger.reductions (λ n. count_by is_reduce lines ≡ n)

-- the number of reductions with one more; of more than 40 it isn't told
abbrev pub number_after : Option ℕ → Option ℕ
number_after None = None
number_after (Some n) = if nat_lt n 40 then Some (n + 1) else None

-- the number of reductions after a line
abbrev pub noted : Option ℕ → Line → Option ℕ
noted reductions (Reduce ids) = number_after reductions
noted reductions line = reductions

-- what a ledger tells after a line
abbrev pub ledger_after : LedgerValue → Line → LedgerValue
ledger_after ledger line = record { ids = ledger.ids; reductions = noted ledger.reductions line }

-- what it tells once a clause is learned
abbrev pub with_id : LedgerValue → ℕ → LedgerValue
with_id ledger id = record { ids = ledger.ids ++ id ∷ []; reductions = ledger.reductions }

-- what it tells of these clauses alone
abbrev pub with_ids : LedgerValue → List ℕ → LedgerValue
with_ids ledger ids = record { ids = ids; reductions = ledger.reductions }

-- what it tells where no reduction will be due any more
abbrev pub unknown_number : LedgerValue → LedgerValue
unknown_number ledger = record { ids = ledger.ids; reductions = None }

-- after so many learned clauses the next reduction is due, where the number of reductions is known
abbrev pub IsDue : Option ℕ → ℕ → Type 0
IsDue None learned = ⊥
IsDue (Some done) learned = (done < 40) × (learned ≡ 1000 * (2 ^ (done + 1) - 1))

-- how many reductions may still be made
abbrev pub left : Option ℕ → ℕ
left None = 0
left (Some done) = 40 - done

-- the last line has learned a clause
abbrev pub EndsLearned : List Line → Type 0
EndsLearned lines = (earlier : List Line) × (goal : ConstraintValue) × (hints : List Hint)
    × (lines ≡ earlier ++ Learn goal hints ∷ [])

-- some of these ids, in their order where they rise
pub record IsPart (part whole : List ℕ) : Type 0 where
  pub among : All (Contains whole) part
  pub rising : AllPairs (λ i j. i < j) whole → AllPairs (λ i j. i < j) part
