-- The last literal has the greatest variable, so a literal of that variable is the last one.
use Rattle.std.proofs.Common.{◌≡◌, ◌<◌, ◌-◌, ◌≤◌, All, AllPairs, sym, subst, arith}
use Rattle.std.specs.Prelude.{Contains}
use Rattle.std.proofs.lemmas.List.Elements.{All-contains}
use Rattle.std.proofs.lemmas.Result.{on_ok_weaker}
use Rattle.scut_base.specs.Literal.{Literal}
use Rattle.instance_normal.proofs.Distinct.{member_at, rising_push, upto_last, put_again}
use Rattle.search_base.proofs.cut.add_once.Goals as goal

pub returns-clause-added : goal.returns-clause-added
returns-clause-added c =
    let last : Literal = c.at.result.now in
    let there : Contains c.args.distinct.now last =
    member_at c.args.distinct.now (c.len-len.result - 1) last c.at.ensures in
    let le = All-contains (λ (l : Literal). l.var ≤ c.args.lit.var) c.args.distinct.now last c.requires.upto there in
    let same : last.var ≡ c.args.lit.var = omega (arith, c.var.ensures.value, c.var-2.ensures.value) in
    put_again c.args.distinct.now c.args.lit
    (subst (Contains c.args.distinct.now) (c.requires.alike last there same) there)

pub returns-then-var-clause-rising : goal.returns-then-var-clause-rising
returns-then-var-clause-rising c =
    let less : c.at.result.now.var < c.args.lit.var =
    omega (arith, c.var.ensures.value, c.var-2.ensures.value, c.if-var.true) in
    let below : All (λ (m : Literal). m.var < c.args.lit.var) c.args.distinct.now =
    upto_last c.args.distinct.now c.args.lit.var (c.len-len.result - 1) c.at.result.now c.requires.rising
    (omega arith) c.at.ensures less in
    on_ok_weaker c.push-then-var.result
    (λ is. subst (AllPairs (λ (x y : Literal). x.var < y.var)) (sym is)
    (rising_push c.args.distinct.now c.args.lit c.requires.rising below))
    c.push-then-var.ensures.ok
