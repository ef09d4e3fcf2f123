use Rattle.std.proofs.Common.{refl, sym, ap, ◌∙◌, subst, List, Some}
use Rattle.scut_base.specs.Literal.{Literal}
use Rattle.pb_lin.specs.Constraint.{ConstraintValue}
use Rattle.proof_laws.specs.Steps.{clause}
use Rattle.proof_laws.specs.WellFormed.{IsWellFormed}
use Rattle.proof_laws.specs.declared.line.Line.TheVariants.{Rup}
use Rattle.proof_rules.specs.Recording.{MayBeAdded}
use Rattle.cdcl_core.proofs.NamedLines.{done_implied, implied_formed, implied_legal, named_implied, only_implied, steps_implied, stored_reached}
use Rattle.cdcl_core.proofs.Working.{implies_unchanged, steps_none, steps_unchanged}
use Rattle.cdcl_core.proofs.solver.Solver.name_clause.Goals as goal

pub returns-in-Some-clause-named : goal.returns-in-Some-clause-named
returns-in-Some-clause-named g c =
    rw (← c.self.view_is) (stored_reached g.R.Recorder.seen _ _ c.in-Some.id (clause c.args.lits) c.self.view_is c.requires.working
    (c.in-Some.ensures ∙ ap (λ (ls : List Literal). Some (clause ls)) c.as_slice.ensures))

pub returns-in-Some-clause-steps : goal.returns-in-Some-clause-steps
returns-in-Some-clause-steps g c = steps_none g.R.Recorder.seen _ _ _ refl refl refl refl c.requires.working

pub returns-in-Some-clause-implied : goal.returns-in-Some-clause-implied
returns-in-Some-clause-implied g c = implies_unchanged g.R.Recorder.seen c.args.self.now _ _ _ refl refl

pub record_made-requires-clause-formed : goal.record_made-requires-clause-formed
record_made-requires-clause-formed g c =
    subst (λ (goal : ConstraintValue). IsWellFormed (Rup goal c.args.hints)) (sym c.clause-goal.ensures)
    (implied_formed g.R.Recorder.seen _ _ c.args.lits c.args.hints c.self.view_is c.requires.working (record { rising = c.requires.rising; within = c.requires.within; given = c.requires.hints }))

pub record_made-requires-clause-legal : goal.record_made-requires-clause-legal
record_made-requires-clause-legal g c =
    subst (λ (goal : ConstraintValue). MayBeAdded (g.R.Recorder.seen c.self.inside.recorder).problem (g.R.Recorder.seen c.self.inside.recorder).lines (Rup goal c.args.hints)) (sym c.clause-goal.ensures)
    (implied_legal g.R.Recorder.seen _ _ c.args.lits c.args.hints c.self.view_is c.requires.working (record { rising = c.requires.rising; within = c.requires.within; given = c.requires.hints }))

pub returns-in_err-id-clause-steps : goal.returns-in_err-id-clause-steps
returns-in_err-id-clause-steps g c = steps_unchanged g.R.Recorder.seen _ _ _ c.self.view_is refl refl c.in_err-id.ensures.keeps c.in_err-id.ensures.same c.requires.working

pub returns-in_err-id-clause-implied : goal.returns-in_err-id-clause-implied
returns-in_err-id-clause-implied g c = implies_unchanged g.R.Recorder.seen _ _ _ _ c.self.view_is c.in_err-id.ensures.same

pub returns-clause-named : goal.returns-clause-named
returns-clause-named g c =
    let added = rw c.clause-goal.ensures at c.in_ok-id.ensures.added in
    named_implied g.R.Recorder.seen _ _ c.args.lits c.args.hints c.self.view_is c.requires.working (record { rising = c.requires.rising; within = c.requires.within; given = c.requires.hints })
    _ c.in_ok-id.ensures.keeps added c.in_ok-id.id c.in_ok-id.ensures.id

pub returns-clause-ends : goal.returns-clause-ends
returns-clause-ends g c =
    let added = rw c.clause-goal.ensures at c.in_ok-id.ensures.added in
    done_implied g.R.Recorder.seen _ _ c.args.lits c.args.hints c.self.view_is c.requires.working (record { rising = c.requires.rising; within = c.requires.within; given = c.requires.hints })
    _ c.in_ok-id.ensures.keeps added c.state.result.now c.state.ensures.replays c.vars-vars.ensures.state c.in_ok-id.ensures.whole refl refl refl refl

pub returns-clause-steps : goal.returns-clause-steps
returns-clause-steps g c =
    let added = rw c.clause-goal.ensures at c.in_ok-id.ensures.added in
    steps_implied g.R.Recorder.seen _ _ c.args.lits c.args.hints c.self.view_is c.requires.working (record { rising = c.requires.rising; within = c.requires.within; given = c.requires.hints })
    _ c.in_ok-id.ensures.keeps added refl refl

pub returns-clause-implied : goal.returns-clause-implied
returns-clause-implied g c =
    let added = rw c.clause-goal.ensures at c.in_ok-id.ensures.added in
    only_implied g.R.Recorder.seen _ _ c.args.lits c.args.hints c.self.view_is c.requires.working (record { rising = c.requires.rising; within = c.requires.within; given = c.requires.hints })
    _ _ added refl
