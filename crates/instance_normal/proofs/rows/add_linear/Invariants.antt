use Rattle.std.proofs.Common.{ℕ, List, ◌++◌, take}
use Rattle.std.specs.Prelude.{All}
use Rattle.std.specs.List.{AllZip, flat_map}
use Rattle.instance.specs.Shape.{IsRowWithin}
use Rattle.instance_normal.specs.NormalForm.{RowSource, linear_sources, IsRowOf}
use Rattle.instance_normal.specs.Fitting.{Fits}
use Rattle.instance_normal.proofs.rows.add_linear.Given as goal

abbrev pub invariant-loop-row : goal.invariant-loop-row
invariant-loop-row l = record {
  rows : (ss : List RowSource) → AllZip IsRowOf ss l.initial.rows → AllZip IsRowOf (ss ++ flat_map linear_sources (take l.row-index l.linear)) l.rows;
  fits : (n : ℕ) → All (IsRowWithin n) l.linear → All (Fits n) l.initial.rows → All (Fits n) l.rows;
}
