use Rattle.front_text.proofs.Words.{word_before_first}
use Rattle.front_text.proofs.cursor.Cursor.take_word.Goals as goal

pub returns : goal.returns
returns c = word_before_first c.self.inside.rest.now c.args.self.now _ _ c.word_len.result c.self.view_is c.word_len.ensures.value c.split_at.ensures.front c.split_at.ensures.back
