use Rattle.command_trim.proofs.Live.{put_both, remove_both}
use Rattle.command_trim.proofs.trimming_laws.lines_are_carried.Goals as goal

pub returns-clause-put : goal.returns-clause-put
returns-clause-put c = λ r n k old new d is carries. put_both r n k is old new d carries

pub returns-clause-removed : goal.returns-clause-removed
returns-clause-removed c = remove_both
