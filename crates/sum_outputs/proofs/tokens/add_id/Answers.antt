-- One line more in a sum.
use Rattle.std.proofs.Common.{◌≡◌, ◌++◌, ◌∷◌, [], List, ◌∙◌, ap, sym}
use Rattle.cutting_planes.specs.declared.token.PolToken.{PolToken}
use Rattle.cutting_planes.specs.declared.token.PolToken.TheVariants.{Id, Add}
use Rattle.sum_outputs.specs.ClauseTokens.{summed}
use Rattle.sum_outputs.proofs.TokenLists.{summed_more}
use Rattle.sum_outputs.proofs.tokens.add_id.Goals as goal

pub returns-in_ok-push-2 : goal.returns-in_ok-push-2
returns-in_ok-push-2 c = λ ids is.
    let some : summed ids ≡ [] → ⊥ = λ none. let first = c.is_empty-first.ensures.1 (is ∙ none) in let not_first = c.if-not-first.true in cc in
    let one = c.in_ok-push.ensures.ok in
    let two = c.in_ok-push-2.ensures.ok in
    two ∙ ap (λ (ts : List PolToken). ts ++ Add ∷ []) (one ∙ ap (λ (ts : List PolToken). ts ++ Id c.args.id ∷ []) is) ∙ sym (summed_more ids c.args.id some)
