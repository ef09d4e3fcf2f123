use Rattle.std.proofs.Common.{rules}
use Rattle.command_elaborate.proofs.Taken.{begun}
use Rattle.command_elaborate.proofs.elaborator.Elaborator.new.Goals as goal

pub invariant_of-result-2 : goal.invariant_of-result-2
invariant_of-result-2 c =
    let fits = begun c.in_ok-problem.problem c.in_ok-state.state c.in_ok-new.field-0 c.in_ok-state.ensures.fits c.vars-vars.ensures.state c.in_ok-new.ensures in
    (search rules, fits.1)
