use Rattle.std.proofs.Common.{◌≡◌, ◌<◌, [], length, ◌∙◌, refl, rules}
use Rattle.std.proofs.lemmas.Result.{err_from_is_err_and}
use Rattle.mopb_reader.proofs.Findings.{fault_along}
use Rattle.mopb_reader.proofs.Drafts.{with_objective, head_fits, objective_progress}
use Rattle.mopb_reader.proofs.draft.add_objective.Goals as goal

pub returns-in_err-objective-clause-fault : goal.returns-in_err-objective-clause-fault
returns-in_err-objective-clause-fault c =
    let q = err_from_is_err_and c.from_residual.result c.from_residual.ensures.1 in
    let d = c.args.draft.now in
    let none : d.linear ≡ [] = search rules in
    let room : length d.objectives < 64 = search rules in
    rw (q.1, q.2) (fault_along _ _ _ (head_fits c.args.tokens.now d none room) (c.in_err-objective.ensures.fault (with_objective d)))

pub returns-clause-fault : goal.returns-clause-fault
returns-clause-fault c =
    let d = c.args.draft.now in
    let none : d.linear ≡ [] = search rules in
    let room : length d.objectives < 64 = search rules in
    head_fits c.args.tokens.now d none room ∙ c.in_ok-objective.ensures.fault (with_objective d)
    ∙ objective_progress c.read_objective.new.tokens d (record d { objectives = c.push.new.self; vars = c.max-draft.result }) _
    none c.in_ok-push.ensures.ok refl
