use Rattle.std.proofs.lemmas.List.{take_rest}
use Rattle.mcnf_reader.proofs.Cutting.{words_skip, at_word}
use Rattle.mcnf_reader.proofs.words.skip_blanks.Goals as goal

pub returns-clause-same : goal.returns-clause-same
returns-clause-same c = rw (take_rest c.args.line.now c.blanks_before-start.result, c.blanks_before-start.ensures.value) (words_skip c.args.line.now)

pub returns-clause-at_word : goal.returns-clause-at_word
returns-clause-at_word c = rw (take_rest c.args.line.now c.blanks_before-start.result, c.blanks_before-start.ensures.value) (at_word c.args.line.now)
