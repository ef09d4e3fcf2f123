-- From no lines to all.
use Rattle.std.proofs.Common.{◌++◌, List, ap, sym, subst}
use Rattle.std.proofs.lemmas.Result.{on_ok_weaker}
use Rattle.pb_lin.specs.Problem.{ProblemValue}
use Rattle.proof_laws.specs.declared.line.Line.{Line}
use Rattle.harden.specs.Hardened.{hardened}
use Rattle.harden.specs.Hardening.{HardensTo}
use Rattle.harden.proofs.Adding.{begins, searched}
use Rattle.harden.proofs.hardening.harden.Goals as goal

pub returns-in_err-occurrences-clause-part : goal.returns-in_err-occurrences-clause-part
returns-in_err-occurrences-clause-part g c = (hardened c.args.problem.now, sym (ap (λ (ls : List Line). ls ++ hardened c.args.problem.now) c.requires.begun))

pub fix_all-requires : goal.fix_all-requires
fix_all-requires g c = subst (λ (p : ProblemValue). HardensTo p (g.O.Recorder.seen c.args.oracle.now) 0) (sym c.in_ok-occurrences.ensures)
    (begins c.args.problem.now (g.O.Recorder.seen c.args.oracle.now) c.vars-vars.ensures.problem c.requires.problem c.requires.begun c.requires.whole)

pub returns-clause-searched : goal.returns-clause-searched
returns-clause-searched g c = on_ok_weaker c.fix_all.result (λ so. searched c.in_ok-occurrences.occurrences (g.O.Recorder.seen c.fix_all.new.oracle) c.in_ok-occurrences.occurrences.vars so) c.fix_all.ensures.lines
