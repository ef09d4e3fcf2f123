use Rattle.std.proofs.Common.{[], ◌∷◌, ap, ◌∙◌}
use Rattle.std.proofs.lemmas.Bool.{false≢true}
use Rattle.std.proofs.lemmas.Result.{err_from_is_err_and}
use Rattle.proof_lines.specs.LineText.{goal_words}
use Rattle.proof_lines.specs.Witnessed.{IsProved}
use Rattle.proof_lines.proofs.GoalCode.{EndsAfter}
use Rattle.proof_lines.proofs.GoalReads.{goal_wrong, more_words}
use Rattle.proof_lines.proofs.ItemParts.{item_pushed}
use Rattle.proof_lines.proofs.goals.read_goals.Goals as goal

pub loop-alloc-preserved : goal.loop-alloc-preserved
loop-alloc-preserved c =
    let read = c.in_ok-proved.ensures in
    item_pushed (goal_words c.args.spelling) IsProved EndsAfter c.args.words.now c.loop-alloc.words c.read_goal.new.words c.loop-alloc.proofs c.push.new.self c.in_ok-proved.proved c.loop-alloc.invariant
    read.0 (c.loop-alloc-test.ensures ∙ ap (λ ws. (58 ∷ []) ∷ ws) read.1) read.2 c.in_ok-push.ensures.ok

pub returns-in_err-proved : goal.returns-in_err-proved
returns-in_err-proved c =
    let p = err_from_is_err_and c.from_residual.result c.from_residual.ensures.1 in
    rw (p.1, p.2) (goal_wrong c.args.spelling c.requires c.args.words.now c.loop-alloc.words c.skip.new.self c.read_goal.new.words c.loop-alloc.proofs c.in_err-proved.field-0.0 c.loop-alloc.invariant c.loop-alloc-test.ensures c.in_err-proved.ensures)

pub returns-then-not-is_at_end : goal.returns-then-not-is_at_end
returns-then-not-is_at_end c =
    more_words c.args.spelling c.requires c.args.words.now c.loop-alloc.words c.skip.new.self c.loop-alloc.proofs c.loop-alloc.invariant c.loop-alloc-test.ensures (λ ended. absurd (false≢true (c.if-not-is_at_end.ensures.1 ended)))
