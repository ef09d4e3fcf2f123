use Rattle.std.proofs.Common.{ℕ, List, [], ◌∷◌, ◌++◌, ap, sym, ◌∙◌}
use Rattle.scut_base.specs.Literal.{Literal}
use Rattle.pb_lin.proofs.AtPlace.{take_place}
use Rattle.relaxations.proofs.row_totalizers.weights_of.Goals as goal

pub loop-at-preserved : goal.loop-at-preserved
loop-at-preserved c =
    c.in_ok-push.ensures.ok ∙ ap (λ (ts : List (Literal × ℕ)). ts ++ c.term-lit.result ∷ []) c.loop-at.invariant
    ∙ sym (take_place c.args.sum.now.terms c.loop-at.at c.term-lit.result c.term-lit.ensures)
