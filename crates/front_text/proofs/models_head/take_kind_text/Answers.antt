use Rattle.front_text.proofs.ModelsHeads.{no_kind}
use Rattle.front_text.proofs.models_head.take_kind_text.Goals as goal

pub returns : goal.returns
returns c = no_kind c.args.cursor.now c.skip.new.self c.if-skip.ensures.0 c.if-skip.ensures.1 c.if-skip-2.ensures.1
