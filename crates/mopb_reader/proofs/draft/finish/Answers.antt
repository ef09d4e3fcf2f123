use Rattle.mopb_reader.proofs.draft.finish.Goals as goal

pub new-requires-2 : goal.new-requires-2
new-requires-2 c = rw c.new.ensures c.requires
