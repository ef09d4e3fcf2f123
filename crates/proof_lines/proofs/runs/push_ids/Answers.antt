use Rattle.std.proofs.Common.{ap, ◌∙◌, arith, ◌++◌, ◌-◌, ◌≡◌, ◌+◌}
use Rattle.std.specs.List.{range_with_len}
use Rattle.proof_lines.proofs.Pieces.{id_pushed}
use Rattle.proof_lines.proofs.runs.push_ids.Goals as goal

pub loop-id-preserved : goal.loop-id-preserved
loop-id-preserved c = id_pushed c.args.piece.0 c.loop-id.id c.args.ids.now c.loop-id.ids c.push.new.self (omega arith) c.loop-id.invariant c.in_ok-push.ensures.ok

pub returns : goal.returns
returns c =
    let end : c.loop-id.id - c.args.piece.0 ≡ (c.args.piece.1 + 1) - c.args.piece.0 = omega arith in
    c.loop-id.invariant ∙ ap (λ n. c.args.ids.now ++ range_with_len c.args.piece.0 n) end
