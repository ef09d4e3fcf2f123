use Rattle.std.proofs.Common.{ℕ, ◌+◌, take, sym, subst, arith}
use Rattle.std.proofs.lemmas.List.{take_all}
use Rattle.oracle.specs.Solving.{AreAssumptions}
use Rattle.oracle.proofs.ClauseCores.{longer}
use Rattle.linear_search.proofs.Assuming.{AreRising, assumptions, one_more}
use Rattle.linear_search.proofs.closing.may_be_assumed.Goals as goal

pub loop-lit-preserved : goal.loop-lit-preserved
loop-lit-preserved c =
    let lits = c.args.lits.now in
    let i = c.loop-lit.lit-index in
    let x = c.lit-item.result in
    let is = c.var-var.ensures.value in
    subst (λ (n : ℕ). AreRising c.args.vars n (take (i + 1) lits)) (sym is)
    (subst (AreRising c.args.vars x.var) (sym (longer lits i x c.loop-lit-test.true c.lit-item.is))
    (one_more c.args.vars c.loop-lit.last (take i lits) x c.loop-lit.invariant
    (omega (arith, is, c.if-var-last.false)) (omega (arith, is, c.if-vars-var.false))))

pub returns : goal.returns
returns c true_is =
    subst (AreAssumptions c.args.vars) (take_all c.loop-lit.lit-index c.args.lits.now (omega (arith, c.loop-lit-test.false)))
    (assumptions c.args.vars c.loop-lit.last (take c.loop-lit.lit-index c.args.lits.now) c.loop-lit.invariant)
