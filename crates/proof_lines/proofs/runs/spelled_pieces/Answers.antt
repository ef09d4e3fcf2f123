use Rattle.std.proofs.Common.{ℕ, ◌+◌, ◌-◌, List, ◌++◌, length, take, drop, refl, ap, sym, ◌∙◌, arith}
use Rattle.std.proofs.lemmas.List.{at_drop_all, drop_more, take_rest}
use Rattle.proof_lines.specs.Pieces.{pieces_after}
use Rattle.proof_lines.proofs.Pieces.{all_spelled, begin_spelled, none_spelled}
use Rattle.proof_lines.proofs.runs.spelled_pieces.Goals as goal

pub returns-in_default : goal.returns-in_default
returns-in_default c = c.new-pieces.ensures ∙ none_spelled c.args.ids.now c.in_default.len_below

pub loop-id-init : goal.loop-id-init
loop-id-init c = record {
  order = omega arith;
  to_come = begin_spelled c.args.ids.now _ _ _ c.new-pieces.ensures c.in-len1-up.len_at_least refl (take_rest c.args.ids.now 1);
}

pub loop-id-preserved : goal.loop-id-preserved
loop-id-preserved c =
    let rest : List ℕ = take (length c.args.ids.now - 1) (drop 1 c.args.ids.now) in
    record {
      order = c.in_ok-piece.ensures.order;
      to_come = c.in_ok-piece.ensures.to_come (drop (c.loop-id.id-index + 1) rest)
          ∙ ap (λ xs. c.loop-id.pieces ++ pieces_after c.loop-id.piece xs) (sym (drop_more rest c.loop-id.id-index 0 c.loop-id-test.true))
          ∙ c.loop-id.invariant.to_come;
    }

pub returns : goal.returns
returns c =
    let rest : List ℕ = take (length c.args.ids.now - 1) (drop 1 c.args.ids.now) in
    c.in_ok-push_piece.ensures
    ∙ ap (λ ps. c.loop-id.pieces ++ ps) (sym (all_spelled c.loop-id.piece))
    ∙ sym (at_drop_all (λ xs. c.loop-id.pieces ++ pieces_after c.loop-id.piece xs) rest c.loop-id.id-index c.loop-id-test.false)
    ∙ c.loop-id.invariant.to_come
