use Rattle.std.proofs.Common.{arith, rules}
use Rattle.proof_lines.specs.Reading.{words_from, words_of}
use Rattle.proof_lines.proofs.TermLists.{unit_more}
use Rattle.proof_lines.proofs.short.units_from_start.Goals as goal

pub loop-at-preserved : goal.loop-at-preserved
loop-at-preserved c =
    let text = c.args.text.now in
    let more = unit_more (words_of text) (words_from text c.loop-at.at) (words_from text c.in-Some.lit-1-given.0.0.1) c.loop-at.lits c.push.new.self c.in-Some.lit-1-given.0.0.0 c.loop-at.last c.var-last.result c.in_ok-push.ensures.ok c.var-last.ensures.value (omega (arith, c.len-len.ensures)) (search rules) (omega (arith, c.if-var-last.false, c.var.ensures.value)) (search rules) (c.loop-at.invariant.so_far, c.loop-at.invariant.sum) in
    record { so_far = more.0; sum = more.1 }
