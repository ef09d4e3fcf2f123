use Rattle.std.proofs.lemmas.List.{take_rest}
use Rattle.mcnf_reader.proofs.Cutting.{words_first}
use Rattle.mcnf_reader.proofs.words.cut_word.Goals as goal

pub returns : goal.returns
returns c = rw (take_rest c.args.text.now c.word_len-end.result, c.word_len-end.ensures.value) (words_first c.args.text.now c.requires)
