use Rattle.mopb_reader.proofs.Limits.{draft_within, draft_spells}
use Rattle.mopb_reader.proofs.reader.read.Goals as goal

pub finish-requires : goal.finish-requires
finish-requires c = draft_within c.args.bytes.now c.in_ok-draft.draft c.requires c.in_ok-draft.ensures.ok c.in_ok-draft.ensures.draft

pub returns-clause-spelled : goal.returns-clause-spelled
returns-clause-spelled c = rw c.finish.ensures (draft_spells c.args.bytes.now c.in_ok-draft.draft c.requires c.in_ok-draft.ensures.ok c.in_ok-draft.ensures.draft)
