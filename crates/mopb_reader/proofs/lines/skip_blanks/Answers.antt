use Rattle.std.proofs.lemmas.List.{take_rest}
use Rattle.mopb_reader.proofs.Cutting.{skip_same, skip_comment, skip_first}
use Rattle.mopb_reader.proofs.lines.skip_blanks.Goals as goal

pub returns-clause-same : goal.returns-clause-same
returns-clause-same c = rw (take_rest c.args.line.now c.blanks_before-start.result, c.blanks_before-start.ensures.value) (skip_same c.args.line.now)

pub returns-clause-comment : goal.returns-clause-comment
returns-clause-comment c = rw (take_rest c.args.line.now c.blanks_before-start.result, c.blanks_before-start.ensures.value) (skip_comment c.args.line.now)

pub returns-clause-at_token : goal.returns-clause-at_token
returns-clause-at_token c = rw (take_rest c.args.line.now c.blanks_before-start.result, c.blanks_before-start.ensures.value) (skip_first c.args.line.now)
