use Rattle.std.proofs.Common.{◌≡◌, fold, take}
use Rattle.command_trim.specs.Marks.{marked}
use Rattle.command_trim.proofs.marks.mark_all.Given as goal

abbrev pub invariant-loop-id : goal.invariant-loop-id
invariant-loop-id l = l.marks ≡ fold (marked l.rows) l.fn.marks (take l.id-index l.ids)
