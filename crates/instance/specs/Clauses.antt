-- The clauses of an instance, one after another in one list of literals.
use Rattle.std.specs.Prelude.{◌≡◌, ℕ, ◌≤◌, List, [], ◌∷◌, slice_range}
use Rattle.scut_base.specs.Literal.{Literal}

-- From `start` on, each clause is the literals up to its end, and the next begins there.
abbrev pub clauses_from : ℕ → List Literal → List ℕ → List (List Literal)
clauses_from start lits [] = []
clauses_from start lits (end ∷ ends) = slice_range lits start end ∷ clauses_from end lits ends

-- the clauses that end at these places of a list of literals
abbrev pub clauses_of : List Literal → List ℕ → List (List Literal)
clauses_of lits ends = clauses_from 0 lits ends

-- From `start` on no end is before the one in front of it, and the last is `len`.
abbrev pub AreEnds : ℕ → ℕ → List ℕ → Type 0
AreEnds len start [] = start ≡ len
AreEnds len start (end ∷ ends) = (start ≤ end) × AreEnds len end ends
