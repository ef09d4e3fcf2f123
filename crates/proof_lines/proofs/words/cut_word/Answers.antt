use Rattle.proof_lines.proofs.Cutting.{only_word, first_word}
use Rattle.proof_lines.proofs.words.cut_word.Goals as goal

pub returns-then-end-text : goal.returns-then-end-text
returns-then-end-text c = first_word c.args.text.now c.word_len-end.result c.word_len-end.ensures.value c.if-end-text.true

pub returns-else-end-text : goal.returns-else-end-text
returns-else-end-text c = only_word c.args.text.now c.word_len-end.result c.word_len-end.ensures.value c.if-end-text.false
