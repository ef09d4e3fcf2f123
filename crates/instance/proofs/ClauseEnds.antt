-- What the ends of clauses tell of them.
use Rattle.std.proofs.Common.{◌≡◌, ℕ, zero, suc, ◌+◌, ◌-◌, ◌<◌, ◌≤◌, List, [], ◌∷◌, ◌++◌, length, take, drop, Some, refl, ap, ◌∙◌, arith}
use Rattle.std.specs.Prelude.{slice_get, slice_index, slice_range}
use Rattle.std.proofs.Math.Seq.{drop-append_seam}
use Rattle.std.proofs.lemmas.List.{drop-append-le, length-drop, take-append-le, take_all}
use Rattle.scut_base.specs.Literal.{Literal}
use Rattle.instance.specs.Clauses.{clauses_from, clauses_of, AreEnds}

pub length-clauses_from : (start : ℕ) (lits : List Literal) (ends : List ℕ) → length (clauses_from start lits ends) ≡ length ends
length-clauses_from start lits [] = refl
length-clauses_from start lits (end ∷ ends) = ap suc (length-clauses_from end lits ends)

-- a place of a clause is one of its end
pub within_ends : (lits : List Literal) (ends : List ℕ) (clauses : List (List Literal)) (at : ℕ) → clauses_of lits ends ≡ clauses → at < length clauses → at < length ends
within_ends lits ends clauses at is lt = omega (arith, lt, ap length is, length-clauses_from 0 lits ends)

-- the first clause begins within the literals
start_within : (len start : ℕ) (ends : List ℕ) → AreEnds len start ends → start ≤ len
start_within len start [] are = omega (arith, are)
start_within len start (end ∷ ends) are = omega (arith, are.0, start_within len end ends are.1)

-- a clause begins before its end, and ends within the literals
pub clause_within : (len start : ℕ) (ends : List ℕ) (at : ℕ) → at < length ends → AreEnds len start ends → (slice_index (start ∷ ends) at ≤ slice_index ends at) × (slice_index ends at ≤ len)
clause_within len start [] at lt are = absurd (omega (arith, lt))
clause_within len start (end ∷ ends) zero lt are = (are.0, start_within len end ends are.1)
clause_within len start (end ∷ ends) (suc at) lt are = clause_within len end ends at (omega (arith, lt)) are.1

-- the clause at a place
pub clause_at : (start : ℕ) (lits : List Literal) (ends : List ℕ) (at : ℕ) → at < length ends → slice_get (clauses_from start lits ends) at ≡ Some (slice_range lits (slice_index (start ∷ ends) at) (slice_index ends at))
clause_at start lits [] at lt = absurd (omega (arith, lt))
clause_at start lits (end ∷ ends) zero lt = refl
clause_at start lits (end ∷ ends) (suc at) lt = clause_at end lits ends at (omega (arith, lt))

-- a part of a list is the same where more follows the list
slice_range-append : (xs ys : List Literal) (i j : ℕ) → i ≤ j → j ≤ length xs → slice_range (xs ++ ys) i j ≡ slice_range xs i j
slice_range-append xs ys i j le within =
    let rest : drop i (xs ++ ys) ≡ drop i xs ++ ys = drop-append-le i xs ys (omega arith) in
    ap (take (j - i)) rest ∙ take-append-le (j - i) (drop i xs) ys (omega (arith, length-drop i xs))

-- the part from the end of a list on
slice_range_rest : (xs ys : List Literal) → slice_range (xs ++ ys) (length xs) (length xs + length ys) ≡ ys
slice_range_rest xs ys =
    ap (take (length xs + length ys - length xs)) (drop-append_seam xs ys) ∙ take_all (length xs + length ys - length xs) ys (omega arith)

-- one clause more
pub clauses_push : (start : ℕ) (lits more : List Literal) (ends : List ℕ) → AreEnds (length lits) start ends → clauses_from start (lits ++ more) (ends ++ (length lits + length more) ∷ []) ≡ clauses_from start lits ends ++ more ∷ []
clauses_push start lits more [] are = rw are (ap (λ c. c ∷ []) (slice_range_rest lits more))
clauses_push start lits more (end ∷ ends) are =
    let here : slice_range (lits ++ more) start end ≡ slice_range lits start end = slice_range-append lits more start end are.0 (start_within (length lits) end ends are.1) in
    rw here (ap (λ cs. slice_range lits start end ∷ cs) (clauses_push end lits more ends are.1))

pub ends_push : (len start more : ℕ) (ends : List ℕ) → AreEnds len start ends → len ≤ more → AreEnds more start (ends ++ more ∷ [])
ends_push len start more [] are le = (omega (arith, are, le), refl)
ends_push len start more (end ∷ ends) are le = (are.0, ends_push len end more ends are.1 le)
