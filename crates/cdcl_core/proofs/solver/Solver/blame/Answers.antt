use Rattle.std.proofs.Common.{◌≡◌, ◌<◌, ◌≤◌, ℕ, List, All, AllPairs, map, refl, sym, ap, ◌∙◌, subst}
use Rattle.scut_base.specs.Literal.{Literal}
use Rattle.pb_lin.specs.Constraint.{opposite}
use Rattle.oracle.specs.Solving.{IsClauseAgainst}
use Rattle.proof_laws.specs.Steps.{clause}
use Rattle.clause_prop.specs.Steps.{TrailValue}
use Rattle.cdcl_state.specs.Analysis.{IsForcedFalse}
use Rattle.cdcl_state.specs.Searching.{SearchValue}
use Rattle.cdcl_core.proofs.NamedLines.{trail_inside}
use Rattle.cdcl_core.proofs.Working.{implies_unchanged, steps_none}
use Rattle.cdcl_core.proofs.Blaming.{blame_within, blame_rising, clause_against, core_named}
use Rattle.cdcl_core.proofs.solver.Solver.blame.Goals as goal

pub returns-in_err-lits-clause-steps : goal.returns-in_err-lits-clause-steps
returns-in_err-lits-clause-steps g c = steps_none g.R.Recorder.seen _ _ _ c.self.view_is refl refl refl c.requires.working

pub returns-in_err-lits-clause-implied : goal.returns-in_err-lits-clause-implied
returns-in_err-lits-clause-implied g c = implies_unchanged g.R.Recorder.seen _ _ _ _ c.self.view_is refl

pub returns-in_err-clause-clause-steps : goal.returns-in_err-clause-clause-steps
returns-in_err-clause-clause-steps g c = steps_none g.R.Recorder.seen _ _ _ c.self.view_is refl refl refl c.requires.working

pub returns-in_err-clause-clause-implied : goal.returns-in_err-clause-clause-implied
returns-in_err-clause-clause-implied g c = implies_unchanged g.R.Recorder.seen _ _ _ _ c.self.view_is refl

pub name_clause-requires-clause-rising : goal.name_clause-requires-clause-rising
name_clause-requires-clause-rising g c =
    let falsified = trail_inside (λ (t : TrailValue). IsForcedFalse t c.args.lit) _ _ c.self.view_is c.requires.falsified in
    subst (AllPairs (λ (l m : Literal). l.var < m.var)) (sym (c.in_ok-clause.ensures ∙ ap (map opposite) c.as_slice.ensures))
    (blame_rising c.self.inside.search.store c.self.inside.search.trail c.args.lit c.in_ok-lits.field-0 c.level-level.ensures.search falsified c.in_ok-lits.ensures.blame)

pub name_clause-requires-clause-within : goal.name_clause-requires-clause-within
name_clause-requires-clause-within g c =
    let falsified = trail_inside (λ (t : TrailValue). IsForcedFalse t c.args.lit) _ _ c.self.view_is c.requires.falsified in
    let same : c.self.inside.search.trail.vars ≡ c.blame.new.self.trail.vars = ap (λ (s : SearchValue). s.trail.vars) (sym c.in_ok-lits.ensures.same) in
    subst (λ (n : ℕ). All (λ (l : Literal). (0 < l.var) × (l.var ≤ n)) c.in_ok-clause.clause) same
    (subst (All (λ (l : Literal). (0 < l.var) × (l.var ≤ c.self.inside.search.trail.vars))) (sym (c.in_ok-clause.ensures ∙ ap (map opposite) c.as_slice.ensures))
    (blame_within c.self.inside.search.store c.self.inside.search.trail c.args.lit c.in_ok-lits.field-0 c.level-level.ensures.search falsified c.in_ok-lits.ensures.blame))

pub returns-clause-core : goal.returns-clause-core
returns-clause-core g c = core_named _ _ c.in_ok-lits.field-0.lits c.in_ok-clause.clause c.in_ok-id.id (c.in_ok-clause.ensures ∙ ap (map opposite) c.as_slice.ensures) c.in_ok-id.ensures.named

pub returns-clause-among : goal.returns-clause-among
returns-clause-among g c = rw (← c.self.view_is) c.in_ok-lits.ensures.blame.decisions

pub returns-clause-implied : goal.returns-clause-implied
returns-clause-implied g c =
    rw (← c.self.view_is) (λ first after goal hints is.
    subst (IsClauseAgainst c.in_ok-lits.field-0.lits) (sym (c.in_ok-id.ensures.implied first after goal hints is ∙ ap clause (c.in_ok-clause.ensures ∙ ap (map opposite) c.as_slice.ensures)))
    (clause_against c.in_ok-lits.field-0.lits))
