-- Assignments that a relaxation proposes.
use Rattle.std.specs.Prelude.{ℕ, ◌-◌, Bool, false, not, List, fold, replicate, slice_set}
use Rattle.scut_base.specs.Literal.{Literal}

-- the assignment, in which this literal is true now; nothing changes where it has no such variable
abbrev pub with_true : List Bool → Literal → List Bool
with_true a l = slice_set a (l.var - 1) (not l.neg)

-- the assignment of n variables that makes these literals true, of each variable the last, and all other variables false
abbrev pub assigned : ℕ → List Literal → List Bool
assigned n lits = fold with_true (replicate n false) lits
