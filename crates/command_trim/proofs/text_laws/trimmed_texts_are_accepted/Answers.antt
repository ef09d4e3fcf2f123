use Rattle.command_trim.proofs.TrimmedTexts.{texts_accepted}
use Rattle.command_trim.proofs.text_laws.trimmed_texts_are_accepted.Goals as goal

pub returns : goal.returns
returns c = texts_accepted
