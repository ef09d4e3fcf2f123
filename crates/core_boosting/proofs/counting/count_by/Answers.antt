-- The line that counts one output more is made.
use Rattle.std.proofs.Common.{◌≡◌, ℕ, ◌+◌, ◌++◌, ◌∷◌, [], List, map, length, sym, subst, ◌∙◌, ap}
use Rattle.pb_lin.specs.Constraint.{opposite}
use Rattle.cutting_planes.specs.declared.token.PolToken.{PolToken}
use Rattle.sum_outputs.specs.Laws.{AreTokensOf}
use Rattle.sum_outputs.proofs.LaterStates.{continues_again}
use Rattle.search_base.proofs.Recordings.{memory_handed}
use Rattle.core_boosting.specs.Counting.{counting, raised_tokens}
use Rattle.core_boosting.specs.Exchanging.{DerivesOwn}
use Rattle.core_boosting.proofs.CountedLines.{count_tokens, count_value}
use Rattle.core_boosting.proofs.counting.count_by.Goals as goal

pub returns-in_err-tokens-clause-recorded : goal.returns-in_err-tokens-clause-recorded
returns-in_err-tokens-clause-recorded g c =
    let a = g.R.Recorder.seen c.args.rec.now in
    memory_handed a a c.in_err-tokens.field-0.0 c.from_residual.result (continues_again a)
    c.in_err-tokens.ensures.fault c.from_residual.ensures.1

pub returns-in_err-in_memory-clause-recorded : goal.returns-in_err-in_memory-clause-recorded
returns-in_err-in_memory-clause-recorded g c =
    let a = g.R.Recorder.seen c.args.rec.now in
    memory_handed a a c.in_err-in_memory.field-0.0 c.from_residual-in_err-in_memory.result (continues_again a)
    c.in_err-in_memory.ensures.fault c.from_residual-in_err-in_memory.ensures.1

pub derive-requires-clause-makes : goal.derive-requires-clause-makes
derive-requires-clause-makes g c =
    let a = g.R.Recorder.seen c.args.rec.now in
    let before = c.args.counted.now in
    let count = length before.outputs + 1 in
    let is : c.in_ok-tokens.tokens ≡ raised_tokens before.line count c.args.lower_line =
    (rw c.in_ok-tokens.ensures.ok at c.raised_tokens.ensures) ∙ ap (λ (k : ℕ). raised_tokens before.line (k + 1) c.args.lower_line) c.len.ensures in
    let next = c.requires.next in
    λ s reached state. (
      counting next.0 (map opposite (before.outputs ++ c.args.output ∷ [])),
      subst (λ (ts : List PolToken). AreTokensOf s ts (counting next.0 (map opposite (before.outputs ++ c.args.output ∷ [])))) (sym is)
          (count_tokens a s reached next.0 before c.args.output c.args.lower_line next.1 state),
    )

pub returns-clause-line : goal.returns-clause-line
returns-clause-line g c =
    let a = g.R.Recorder.seen c.args.rec.now in
    let b = g.R.Recorder.seen c.derive.new.rec in
    let before = c.args.counted.now in
    let count = length before.outputs + 1 in
    let is : c.in_ok-tokens.tokens ≡ raised_tokens before.line count c.args.lower_line =
    (rw c.in_ok-tokens.ensures.ok at c.raised_tokens.ensures) ∙ ap (λ (k : ℕ). raised_tokens before.line (k + 1) c.args.lower_line) c.len.ensures in
    let derives : DerivesOwn a b (raised_tokens before.line count c.args.lower_line) c.in_ok-counted.field-0 =
    subst (λ (ts : List PolToken). DerivesOwn a b ts c.in_ok-counted.field-0) is c.in_ok-counted.ensures.own in
    let ready = c.requires.ready in
    λ lits next t after.
    (derives ready.state t (counting lits (map opposite (before.outputs ++ c.args.output ∷ []))) ready.reached after
    (count_value a ready.state ready.reached lits before c.args.output c.args.lower_line next)).0
