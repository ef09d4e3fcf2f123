-- All variables, or the first ones.
use Rattle.std.proofs.Common.{◌≡◌, ◌≤◌, List, arith, sym, subst}
use Rattle.std.proofs.lemmas.Result.{err_from_is_err_and}
use Rattle.proof_laws.specs.declared.line.Line.{Line}
use Rattle.harden.specs.Hardening.{ArePartOf, HardensTo}
use Rattle.harden.proofs.Adding.{part}
use Rattle.harden.proofs.hardening.fix_all.Goals as goal

pub returns-in_err-fix_next-clause-part : goal.returns-in_err-fix_next-clause-part
returns-in_err-fix_next-clause-part g c =
    let fault = err_from_is_err_and c.from_residual.result c.from_residual.ensures.1 in
    let p = c.args.occurrences.now in
    let low : c.loop-done.done ≤ p.vars = let test = c.loop-done-test.true in let vars = c.vars-done-end.ensures.value in omega (arith, test, vars) in
    rw fault.1 (subst (λ (ls : List Line). ArePartOf ls p) (sym c.in_err-fix_next.ensures.part) (part p (g.O.Recorder.seen c.loop-done.oracle) c.loop-done.done c.loop-done.invariant.lines low))

pub returns-clause-lines : goal.returns-clause-lines
returns-clause-lines g c =
    let all : c.loop-done.done ≡ c.args.occurrences.now.vars = let most = c.loop-done.auto.done-end in let vars = c.vars-done-end.ensures.value in let test = c.loop-done-test.false in omega arith in
    subst (HardensTo c.args.occurrences.now (g.O.Recorder.seen c.loop-done.oracle)) all c.loop-done.invariant.lines
