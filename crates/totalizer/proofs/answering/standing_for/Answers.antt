-- Those before the place have less, and those from it on serve greater numbers alone.
use Rattle.std.proofs.Common.{◌≡◌, ◌⊎◌, ⊎_elim, ℕ, ◌<◌, get_or, ap, sym, ◌∙◌, arith}
use Rattle.std.proofs.lemmas.Bool.{cases_order}
use Rattle.std.proofs.lemmas.List.{get_or_default}
use Rattle.sum_outputs.specs.declared.sum_output.SumOutput.{SumOutput}
use Rattle.totalizer.proofs.answering.standing_for.Goals as goal

pub returns-then-k-output : goal.returns-then-k-output
returns-then-k-output c = λ i d short from.
    let os = c.args.outputs.now in
    let place = c.place_of-place.result in
    let is = c.place_of-place.ensures in
    let x = c.index-outputs-place in
    let above = c.if-k-output.true in
    ⊎_elim
    (λ (same : i ≡ place).
    let here = ap (λ (j : ℕ). get_or os j d) same ∙ get_or_default os place d x.result (omega arith) ∙ sym x.is in
    let number = ap (λ (o : SumOutput). o.from) here in
    absurd (omega arith))
    (λ (other : (i < place) ⊎ (place < i)). ⊎_elim
    (λ (less : i < place). is.below i d less)
    (λ (more : place < i).
    let apart = c.requires.apart place i d more short in
    let most = is.above place d (omega arith) (omega arith) in
    absurd (omega arith))
    other)
    (cases_order i place)
