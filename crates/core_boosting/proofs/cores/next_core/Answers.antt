-- What the oracle's answer says, and what it leaves.
use Rattle.std.proofs.Common.{inl, inr, ap, refl, sym, subst, ◌∙◌, arith}
use Rattle.pb_lin.specs.Problem.{ProblemValue}
use Rattle.proof_laws.specs.State.{StateValue}
use Rattle.proof_laws.specs.Replay.{IsReplay}
use Rattle.proof_laws.proofs.Replays.{replay_once}
use Rattle.oracle.specs.Solving.{AreAssumptions, IsAnswer}
use Rattle.oracle.specs.declared.answer.Answer.TheVariants.{Sat, Unsat}
use Rattle.search_base.proofs.Turning.{goes_again}
use Rattle.core_boosting.specs.Boosting.{EndsBoosting}
use Rattle.core_boosting.proofs.Calls.{boosts_asked, boosts_memory, boosts_refused, boosts_same, not_ended}
use Rattle.core_boosting.proofs.CoreClauses.{core_line, denied, may_deny, no_core, reaches_offset, search_vars, some_of}
use Rattle.core_boosting.proofs.cores.next_core.Goals as goal

pub returns-then-vars-gt-MOST_VARIABLES-clause-core : goal.returns-then-vars-gt-MOST_VARIABLES-clause-core
returns-then-vars-gt-MOST_VARIABLES-clause-core g c =
    let a = g.O.Recorder.seen c.args.oracle.now in
    λ s reached.
    let same = ap (λ (u : StateValue). u.vars) (replay_once a.problem a.lines c.state.result.now s c.state.ensures.replays reached) in
    let many = c.if-vars-gt-MOST_VARIABLES.true in
    let value = c.vars.ensures.value in
    inr (inl (omega arith))

pub returns-then-vars-gt-MOST_VARIABLES-clause-goes_on : goal.returns-then-vars-gt-MOST_VARIABLES-clause-goes_on
returns-then-vars-gt-MOST_VARIABLES-clause-goes_on g c = boosts_same (g.O.Recorder.seen c.args.oracle.now) _ c.requires.may

pub returns-in_err-denials-clause-goes_on : goal.returns-in_err-denials-clause-goes_on
returns-in_err-denials-clause-goes_on g c =
    let a = g.O.Recorder.seen c.args.oracle.now in
    boosts_memory a a c.from_residual.result c.from_residual.ensures.1 refl (goes_again a)

pub solve-requires-clause-unended : goal.solve-requires-clause-unended
solve-requires-clause-unended g c = not_ended (g.O.Recorder.seen c.args.oracle.now) c.requires.may.ready

pub solve-requires-clause-assumptions : goal.solve-requires-clause-assumptions
solve-requires-clause-assumptions g c =
    let terms = c.args.terms.now in
    λ s reached. subst (AreAssumptions s.vars) (sym (c.as_slice.ensures ∙ c.in_ok-denials.ensures))
    (may_deny s.vars terms c.requires.weights (c.requires.variables s reached))

pub returns-in_err-solve-clause-goes_on : goal.returns-in_err-solve-clause-goes_on
returns-in_err-solve-clause-goes_on g c =
    let a = g.O.Recorder.seen c.args.oracle.now in
    let b = g.O.Recorder.seen c.solve.new.self in
    let call = c.in_err-solve.ensures in
    boosts_refused a b c.requires.may call.keeps call.lines call.within c.from_residual-in_err-solve.result
    c.in_err-solve.field-0.0 c.from_residual-in_err-solve.ensures.1 call.earned call.fault

pub returns-in-Sat-clause-core : goal.returns-in-Sat-clause-core
returns-in-Sat-clause-core g c =
    let a = g.O.Recorder.seen c.args.oracle.now in
    let b = g.O.Recorder.seen c.solve.new.self in
    let terms = c.args.terms.now in
    let call = c.in_ok-solve.ensures in
    let answer : IsAnswer a.problem b.lines (denied terms) (Sat c.in-Sat.field-0) =
    rw c.in_ok-denials.ensures at rw c.as_slice.ensures at rw c.in-Sat.is at call.answer in
    λ s reached. subst (λ (p : ProblemValue). EndsBoosting p terms s) (sym call.keeps.problem)
    (inr (inr (reaches_offset a.problem terms c.in-Sat.field-0 s
    (answer s (subst (λ (p : ProblemValue). IsReplay p b.lines s) call.keeps.problem reached)))))

pub returns-in-Sat-clause-goes_on : goal.returns-in-Sat-clause-goes_on
returns-in-Sat-clause-goes_on g c =
    let a = g.O.Recorder.seen c.args.oracle.now in
    let b = g.O.Recorder.seen c.solve.new.self in
    let call = c.in_ok-solve.ensures in
    boosts_asked a b c.requires.may call.keeps call.lines call.within _ call.whole (call.earned tt)

pub returns-then-is_empty-clause-core : goal.returns-then-is_empty-clause-core
returns-then-is_empty-clause-core g c =
    let a = g.O.Recorder.seen c.args.oracle.now in
    let b = g.O.Recorder.seen c.solve.new.self in
    let terms = c.args.terms.now in
    let call = c.in_ok-solve.ensures in
    let core = c.in-Unsat.core in
    let answer : IsAnswer a.problem b.lines (denied terms) (Unsat core) =
    rw c.in_ok-denials.ensures at rw c.as_slice.ensures at rw c.in-Unsat.is at call.answer in
    λ s reached. inl (no_core terms core.lits core.id s
    (answer s (subst (λ (p : ProblemValue). IsReplay p b.lines s) call.keeps.problem reached))
    (c.is_empty.ensures.0 c.if-is_empty.true))

pub returns-then-is_empty-clause-goes_on : goal.returns-then-is_empty-clause-goes_on
returns-then-is_empty-clause-goes_on g c =
    let a = g.O.Recorder.seen c.args.oracle.now in
    let b = g.O.Recorder.seen c.solve.new.self in
    let call = c.in_ok-solve.ensures in
    boosts_asked a b c.requires.may call.keeps call.lines call.within _ call.whole (call.earned tt)

pub returns-clause-core : goal.returns-clause-core
returns-clause-core g c =
    let a = g.O.Recorder.seen c.args.oracle.now in
    let b = g.O.Recorder.seen c.solve.new.self in
    let terms = c.args.terms.now in
    let call = c.in_ok-solve.ensures in
    let core = c.in-Unsat.core in
    let answer : IsAnswer a.problem b.lines (denied terms) (Unsat core) =
    rw c.in_ok-denials.ensures at rw c.as_slice.ensures at rw c.in-Unsat.is at call.answer in
    let one = some_of core.lits (λ e. let t = c.is_empty.ensures.1 e in let f = c.if-is_empty.false in cc) in
    λ s reached.
    let again = subst (λ (p : ProblemValue). IsReplay p b.lines s) call.keeps.problem reached in
    let same = search_vars a.problem a.lines b.lines c.state.result.now s call.lines c.state.ensures.replays again in
    let few = c.if-vars-gt-MOST_VARIABLES.false in
    let value = c.vars.ensures.value in
    record { few = omega arith; core = core_line terms core.lits core.id s (answer s again) one.0 one.1 }

pub returns-clause-goes_on : goal.returns-clause-goes_on
returns-clause-goes_on g c =
    let a = g.O.Recorder.seen c.args.oracle.now in
    let b = g.O.Recorder.seen c.solve.new.self in
    let call = c.in_ok-solve.ensures in
    boosts_asked a b c.requires.may call.keeps call.lines call.within _ call.whole (call.earned tt)
