use Rattle.std.proofs.Common.{take, sym, subst, arith, ◌∙◌}
use Rattle.std.specs.List.{All, Contains}
use Rattle.std.proofs.lemmas.List.{take_all}
use Rattle.std.proofs.lemmas.List.Elements.{All-push}
use Rattle.oracle.proofs.ClauseCores.{found, longer}
use Rattle.oracle.proofs.cores.are_among.Goals as goal

pub loop-lit-preserved : goal.loop-lit-preserved
loop-lit-preserved c =
    let lits = c.args.lits.now in
    let assumed = c.args.assumed.now in
    let i = c.loop-lit.lit-index in
    let x = c.lit-item.result in
    subst (All (Contains assumed)) (sym (longer lits i x c.loop-lit-test.true c.lit-item.is))
    (All-push (Contains assumed) (take i lits) x c.loop-lit.invariant
    (found assumed x (sym c.contains.ensures.value ∙ c.if-not-contains.false)))

pub returns : goal.returns
returns c true_is =
    subst (All (Contains c.args.assumed.now)) (take_all c.loop-lit.lit-index c.args.lits.now (omega (arith, c.loop-lit-test.false))) c.loop-lit.invariant
