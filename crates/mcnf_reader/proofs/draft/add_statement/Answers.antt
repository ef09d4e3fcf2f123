use Rattle.std.proofs.lemmas.Result.{on_ok_weaker}
use Rattle.mcnf_reader.proofs.Drafts.{draft_nothing, draft_hard, draft_soft, ready_soft}
use Rattle.mcnf_reader.proofs.draft.add_statement.Goals as goal

pub returns-in-Nothing-clause-added : goal.returns-in-Nothing-clause-added
returns-in-Nothing-clause-added c done so_far = rw c.in-Nothing.is (draft_nothing c.args.draft.now done so_far)

pub returns-in-Hard-clause-added : goal.returns-in-Hard-clause-added
returns-in-Hard-clause-added c =
    let within = rw c.in-Hard.is at c.requires.within in
    on_ok_weaker c.add_hard.result (λ same done so_far. rw c.in-Hard.is (draft_hard c.args.draft.now c.add_hard.new.draft done c.in-Hard.lits same within so_far)) c.add_hard.ensures

pub returns-in-Soft-clause-ready : goal.returns-in-Soft-clause-ready
returns-in-Soft-clause-ready c =
    let within = rw c.in-Soft.is at c.requires.within in
    on_ok_weaker c.add_soft.result (λ added. ready_soft c.args.draft.now c.add_soft.new.draft c.in-Soft.objective c.in-Soft.weight c.in-Soft.lits c.requires.ready within added) c.add_soft.ensures

pub returns-in-Soft-clause-added : goal.returns-in-Soft-clause-added
returns-in-Soft-clause-added c =
    let within = rw c.in-Soft.is at c.requires.within in
    on_ok_weaker c.add_soft.result (λ added done so_far. rw c.in-Soft.is (draft_soft c.args.draft.now c.add_soft.new.draft done c.in-Soft.objective c.in-Soft.weight c.in-Soft.lits c.requires.ready within added so_far)) c.add_soft.ensures
