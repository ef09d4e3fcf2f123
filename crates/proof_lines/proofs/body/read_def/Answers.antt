use Rattle.std.proofs.lemmas.Bool.{false≢true}
use Rattle.std.proofs.lemmas.Result.{err_from_is_err_and}
use Rattle.proof_lines.proofs.Bodies.{sum_wrong, sum_unended}
use Rattle.proof_lines.proofs.body.read_def.Goals as goal

pub returns-in_err-sum : goal.returns-in_err-sum
returns-in_err-sum c =
    let p = err_from_is_err_and c.from_residual.result c.from_residual.ensures.1 in
    rw (p.1, p.2) (λ spelling. sum_wrong spelling _ c.args.words.now c.next.new.self c.skip.new.self c.read_constraint.new.words c.in-Some.word.now c.in-Some.ensures c.if-not-skip.ensures c.in_err-sum.ensures)

pub returns-then-not-is_at_end : goal.returns-then-not-is_at_end
returns-then-not-is_at_end c = λ spelling. sum_unended spelling c.args.words.now c.next.new.self c.skip.new.self c.read_constraint.new.words c.in-Some.word.now c.in_ok-sum.sum c.in-Some.ensures c.if-not-skip.ensures c.in_ok-sum.ensures (λ none. absurd (false≢true (c.if-not-is_at_end.ensures.1 none)))
