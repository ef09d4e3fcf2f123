use Rattle.std.proofs.Common.{inl, refl}
use Rattle.command_base.proofs.Answered.{idle}
use Rattle.command_solve.specs.Table.{SolveTable, solve_calls}
use Rattle.command_solve.specs.Words.{asked}
use Rattle.command_solve.proofs.Solve.search_beside.Goals as goal

pub returns-in-Err : goal.returns-in-Err
returns-in-Err g c =
    let a = asked c.args.self.now in
    rw c.from.ensures (idle (SolveTable a) (solve_calls a) (g.H.Shelf.world c.args.shelf.now) (inl refl))
