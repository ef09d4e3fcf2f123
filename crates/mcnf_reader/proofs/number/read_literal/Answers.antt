use Rattle.mcnf_reader.proofs.WordFaults.{literal_large}
use Rattle.mcnf_reader.proofs.number.read_literal.Goals as goal

pub returns-then-var-gt-MAX_VARS-clause-fault : goal.returns-then-var-gt-MAX_VARS-clause-fault
returns-then-var-gt-MAX_VARS-clause-fault c =
    let number = c.in_ok-var.ensures.ok in
    literal_large c.args.word.now c.split_minus-negative.result.1.now c.in_ok-var.var c.split_minus-negative.ensures.rest number.0 number.1 number.2 c.if-var-gt-MAX_VARS.true
