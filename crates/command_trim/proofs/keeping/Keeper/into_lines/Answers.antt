use Rattle.command_trim.proofs.Keeps.{few_lines}
use Rattle.command_trim.proofs.keeping.Keeper.into_lines.Goals as goal

pub returns-clause-few : goal.returns-clause-few
returns-clause-few c = few_lines c.args.self c.requires.0 c.requires.1 c.vars-vars.ensures.state
