use Rattle.std.proofs.Common.{◌≡◌, take, true}
use Rattle.std.specs.List.{list_all}
use Rattle.instance.specs.Meaning.{row_holds}
use Rattle.instance.proofs.evaluate.all_rows_hold.Given as goal

abbrev pub invariant-loop-row : goal.invariant-loop-row
invariant-loop-row l = list_all (row_holds l.a) (take l.row-index l.rows) ≡ true
