use Rattle.std.proofs.lemmas.Result.{err_from_is_err_and}
use Rattle.mcnf_reader.proofs.StatementFaults.{no_weight_left, weight_wrong, clause_wrong}
use Rattle.mcnf_reader.proofs.line.read_soft.Goals as goal

pub returns-in-None-clause-fault : goal.returns-in-None-clause-fault
returns-in-None-clause-fault c =
    let objective = c.in_ok-objective.ensures.ok in
    no_weight_left c.args.sums.now c.args.first.now c.args.words.now c.in_ok-objective.objective objective.0 objective.1 c.in-None.ensures.0

pub returns-in_err-weight-clause-fault : goal.returns-in_err-weight-clause-fault
returns-in_err-weight-clause-fault c =
    let objective = c.in_ok-objective.ensures.ok in
    let p = err_from_is_err_and c.from_residual-in_err-weight.result c.from_residual-in_err-weight.ensures.1 in
    rw (p.1, p.2) (weight_wrong c.args.sums.now c.args.first.now c.args.words.now c.next.new.self c.in-Some.second.now c.in_ok-objective.objective _ objective.0 objective.1 c.in-Some.ensures c.in_err-weight.ensures.fault)

pub returns-in_err-lits-clause-fault : goal.returns-in_err-lits-clause-fault
returns-in_err-lits-clause-fault c =
    let objective = c.in_ok-objective.ensures.ok in
    let weight = c.in_ok-weight.ensures.ok in
    let p = err_from_is_err_and c.from_residual-in_err-lits.result c.from_residual-in_err-lits.ensures.1 in
    rw (p.1, p.2) (clause_wrong c.args.sums.now c.args.first.now c.args.words.now c.next.new.self c.in-Some.second.now c.in_ok-objective.objective c.in_ok-weight.weight _ objective.0 objective.1 c.in-Some.ensures weight.0 weight.1 c.in_err-lits.ensures.fault)
