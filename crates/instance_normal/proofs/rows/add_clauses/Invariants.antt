use Rattle.std.proofs.Common.{ℕ, List, ◌++◌, map, take}
use Rattle.std.specs.Prelude.{All}
use Rattle.std.specs.List.{AllZip}
use Rattle.instance.specs.Shape.{ClauseUpTo}
use Rattle.instance_normal.specs.NormalForm.{RowSource, Clause, IsRowOf}
use Rattle.instance_normal.specs.Fitting.{Fits}
use Rattle.instance_normal.proofs.rows.add_clauses.Given as goal

abbrev pub invariant-loop-at : goal.invariant-loop-at
invariant-loop-at l = record {
  rows : (ss : List RowSource) → AllZip IsRowOf ss l.initial.rows → AllZip IsRowOf (ss ++ map Clause (take l.at l.clauses)) l.rows;
  fits : (n : ℕ) → All (ClauseUpTo n) l.clauses → All (Fits n) l.initial.rows → All (Fits n) l.rows;
}
