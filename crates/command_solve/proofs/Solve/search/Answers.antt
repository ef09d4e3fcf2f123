use Rattle.std.proofs.Common.{rules}
use Rattle.command_solve.specs.Words.{asked}
use Rattle.command_solve.proofs.SolveEnds.{problem_of}
use Rattle.command_solve.proofs.Solve.search.Goals as goal

pub search_for-requires-clause-problem : goal.search_for-requires-clause-problem
search_for-requires-clause-problem g c =
    problem_of (asked c.args.self.now) (g.H.Shelf.world c.args.shelf.now).files c.args.input.now.inst c.args.input.now.problem c.requires (search rules)
