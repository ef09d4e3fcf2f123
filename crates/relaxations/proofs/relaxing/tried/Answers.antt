-- A model that is tried has costs within the limits where the test says so.
use Rattle.std.proofs.Common.{◌≡◌, Bool, List, refl, subst, sym}
use Rattle.scut_base.specs.Literal.{Literal}
use Rattle.pb_lin.specs.Problem.{ProblemValue}
use Rattle.proof_rules.specs.Recording.{Snapshot}
use Rattle.oracle.specs.Solving.{IsAnswer}
use Rattle.oracle.specs.declared.answer.Answer.TheVariants.{Sat}
use Rattle.relaxations.proofs.Proposals.{as_long, long_model, model_within}
use Rattle.relaxations.proofs.relaxing.tried.Goals as goal

answered : (a : Snapshot) (p : ProblemValue) → a.problem ≡ p → (lits : List Literal) (x : List Bool)
    → IsAnswer p a.lines lits (Sat x) → IsAnswer a.problem a.lines lits (Sat x)
answered a p same lits x is = subst (λ (q : ProblemValue). IsAnswer q a.lines lits (Sat x)) (sym same) is

pub costs_at-requires : goal.costs_at-requires
costs_at-requires g c =
    let a = let R = g.O.Recorder in R.seen c.args.oracle.now in
    let p = c.args.problem.now in
    let lits = c.args.lits.now in
    let x = c.in-Some.model in
    let answer = answered a p c.requires.problem lits x (rw c.in-Some.is at c.solution_by.ensures) in
    long_model a a p c.args.limits.now lits x refl c.requires.problem answer c.state-state.result.now c.state-state.ensures.replays

pub weakly_dominates-requires : goal.weakly_dominates-requires
weakly_dominates-requires g c =
    let a = let R = g.O.Recorder in R.seen c.args.oracle.now in
    let p = c.args.problem.now in
    let lits = c.args.lits.now in
    let x = c.in-Some.model in
    let answer = answered a p c.requires.problem lits x (rw c.in-Some.is at c.solution_by.ensures) in
    as_long a a p c.args.limits.now lits x refl c.requires.problem answer c.in_ok-costs.costs c.in_ok-costs.ensures c.requires.count

pub returns-then-weakly_dominates : goal.returns-then-weakly_dominates
returns-then-weakly_dominates g c =
    let a = let R = g.O.Recorder in R.seen c.args.oracle.now in
    let p = c.args.problem.now in
    let lits = c.args.lits.now in
    let x = c.in-Some.model in
    let answer = answered a p c.requires.problem lits x (rw c.in-Some.is at c.solution_by.ensures) in
    record {
      tells = model_within a a p c.args.limits.now lits x refl c.requires.problem answer c.in_ok-costs.costs c.in_ok-costs.ensures
          (sym c.if-weakly_dominates.ensures);
    }
