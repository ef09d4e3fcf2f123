use Rattle.proof_lines.proofs.Cutting.{none_left}
use Rattle.proof_lines.proofs.words.Words.is_at_end.Goals as goal

pub returns : goal.returns
returns c = none_left c.self.inside.rest c.args.self.now c.is_none.result c.self.view_is c.is_none.ensures
