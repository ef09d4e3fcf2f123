use Rattle.std.proofs.Common.{ℕ, ◌<◌, ◌≤◌, List, sym, subst, arith}
use Rattle.scut_base.specs.Literal.{Literal}
use Rattle.search_tests.proofs.Rising.{AreUpTo, none_up_to, one_more}
use Rattle.search_tests.proofs.solver.assumptions.Goals as goal

pub loop-code-init : goal.loop-code-init
loop-code-init c = subst (λ (ls : List Literal). AreUpTo c.args.vars 0 ls) (sym c.new-lits.ensures.items) (none_up_to c.args.vars 0)

pub loop-code-preserved : goal.loop-code-preserved
loop-code-preserved c =
    let n = c.args.vars in
    let l = c.new-in-loop-code.result in
    let above : c.loop-code.last < l.var = omega (arith, c.if-var-last.false, c.new-in-loop-code.ensures.var) in
    let within : l.var ≤ n = omega (arith, c.if-vars-var.false, c.new-in-loop-code.ensures.var) in
    let more = one_more n c.loop-code.last c.loop-code.lits.items l c.loop-code.invariant above within in
    subst (λ (last : ℕ). AreUpTo n last c.push.new.self.items) c.new-in-loop-code.ensures.var
    (subst (λ (ls : List Literal). AreUpTo n l.var ls) (sym c.in_ok-push.ensures.items) more)

pub returns : goal.returns
returns c = c.loop-code.invariant.assumptions
