use Rattle.std.proofs.Common.{arith}
use Rattle.mcnf_reader.proofs.WordFaults.{weight_large}
use Rattle.mcnf_reader.proofs.number.read_weight.Goals as goal

pub returns-then-sum-weight-gt-MAX_MAGNITUDE-clause-fault : goal.returns-then-sum-weight-gt-MAX_MAGNITUDE-clause-fault
returns-then-sum-weight-gt-MAX_MAGNITUDE-clause-fault c =
    let number = c.in_ok-weight.ensures.ok in
    weight_large c.args.sum c.args.word.now c.in_ok-weight.weight number.0 number.1 number.2 (omega arith)
