use Rattle.std.proofs.Common.{◌≡◌, inl, refl, subst, rules}
use Rattle.std.specs.Prelude.{Some}
use Rattle.portfolio.specs.Cycles.{AreTurns}
use Rattle.command_base.proofs.Answered.{idle}
use Rattle.command_solve.specs.Table.{SolveTable, searches_for, solve_calls}
use Rattle.command_solve.specs.TurnDigits.{numbers_of}
use Rattle.command_solve.specs.Words.{asked}
use Rattle.command_solve.proofs.TurnNumbers.{turns_taken}
use Rattle.command_solve.proofs.Solve.search_in_turns.Goals as goal

pub search_by_turns-requires-clause-turns : goal.search_by_turns-requires-clause-turns
search_by_turns-requires-clause-turns g c =
    let a = asked c.args.self.now in
    let given : a.turns ≡ Some c.in-Some.digits.now = search rules in
    let same : numbers_of c.in-Some.digits.now ≡ c.as_slice.result.now = search rules in
    subst (AreTurns (searches_for c.args.inst.now)) same
    (turns_taken a c.args.inst.now c.in-Some.digits.now c.requires.search given c.requires.problem.search)

pub returns-in-Err : goal.returns-in-Err
returns-in-Err g c =
    let a = asked c.args.self.now in
    rw c.from.ensures (idle (SolveTable a) (solve_calls a) (g.H.Shelf.world c.args.shelf.now) (inl refl))
