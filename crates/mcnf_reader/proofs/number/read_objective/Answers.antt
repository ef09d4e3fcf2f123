use Rattle.std.proofs.Common.{arith}
use Rattle.std.proofs.lemmas.List.{take_rest}
use Rattle.mcnf_reader.proofs.WordFaults.{objective_zero, objective_large}
use Rattle.mcnf_reader.proofs.number.read_objective.Goals as goal

pub returns-then-objective-eq0-clause-fault : goal.returns-then-objective-eq0-clause-fault
returns-then-objective-eq0-clause-fault c =
    let number = c.in_ok-objective.ensures.ok in
    objective_zero c.args.word.now _ c.in_ok-objective.objective (omega arith) (take_rest c.args.word.now 1) number.0 number.1 number.2 c.if-objective-eq0.true

pub returns-then-objective-clause-fault : goal.returns-then-objective-clause-fault
returns-then-objective-clause-fault c =
    let number = c.in_ok-objective.ensures.ok in
    objective_large c.args.word.now _ c.in_ok-objective.objective (omega arith) (take_rest c.args.word.now 1) number.0 number.1 number.2 (omega arith)
