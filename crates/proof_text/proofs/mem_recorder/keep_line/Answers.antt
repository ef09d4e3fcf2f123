use Rattle.proof_text.proofs.Replaying.{next_of, kept_more}
use Rattle.proof_text.proofs.mem_recorder.keep_line.Goals as goal

pub returns-in-Ok-clause-id : goal.returns-in-Ok-clause-id
returns-in-Ok-clause-id c = next_of _ _ _ _ c.requires.kept.replay c.in-Ok.ensures.id

pub returns-in-Ok-clause-kept : goal.returns-in-Ok-clause-kept
returns-in-Ok-clause-kept c = rw c.in_ok-push_copy.ensures.ok (kept_more _ _ _ _ _ c.requires.kept c.requires.formed c.in-Ok.ensures.next c.in-Ok.ensures.fits)
