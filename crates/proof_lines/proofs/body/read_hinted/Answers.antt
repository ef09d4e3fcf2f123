use Rattle.std.proofs.lemmas.Bool.{false≢true}
use Rattle.std.proofs.lemmas.Result.{err_from_is_err_and}
use Rattle.proof_lines.proofs.Bodies.{unhinted, hints_wrong, hinted_unended}
use Rattle.proof_lines.proofs.body.read_hinted.Goals as goal

pub returns-then-not-skip : goal.returns-then-not-skip
returns-then-not-skip c = unhinted c.args.spelling c.requires c.args.words.now c.read_constraint.new.words c.in_ok-goal.goal c.in_ok-goal.ensures c.if-not-skip.ensures.1

pub returns-in_err-hints : goal.returns-in_err-hints
returns-in_err-hints c =
    let p = err_from_is_err_and c.from_residual-in_err-hints.result c.from_residual-in_err-hints.ensures.1 in
    rw (p.1, p.2) (hints_wrong c.args.spelling c.requires _ c.args.words.now c.read_constraint.new.words c.skip.new.self c.read_hints.new.words c.in_ok-goal.goal c.in_ok-goal.ensures c.if-not-skip.ensures c.in_err-hints.ensures)

pub returns-then-not-is_at_end : goal.returns-then-not-is_at_end
returns-then-not-is_at_end c = hinted_unended c.args.spelling c.requires c.args.words.now c.read_constraint.new.words c.skip.new.self c.read_hints.new.words c.in_ok-goal.goal c.in_ok-hints.hints c.in_ok-goal.ensures c.if-not-skip.ensures c.in_ok-hints.ensures (λ none. absurd (false≢true (c.if-not-is_at_end.ensures.1 none)))
