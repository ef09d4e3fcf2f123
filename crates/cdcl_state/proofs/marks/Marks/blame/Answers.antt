use Rattle.std.specs.Prelude.{◌≢◌, ◌<◌, ◌≤◌, ℕ}
use Rattle.std.proofs.Common.{sym, ◌∙◌, ap, subst}
use Rattle.std.proofs.lemmas.Option.{same_Some}
use Rattle.scut_base.specs.Literal.{Literal}
use Rattle.clause_prop.specs.declared.step.Step.{Step}
use Rattle.cdcl_state.specs.declared.reach.Reach.TheVariants.{Decisions}
use Rattle.cdcl_state.proofs.Closing.{with_reason}
use Rattle.cdcl_state.proofs.Marking.{place_within}
use Rattle.cdcl_state.proofs.Outcomes.{apart_from, blame_hints, blamed, step_of_false}
use Rattle.cdcl_state.proofs.TrailSteps.{no_step, step_variable}
use Rattle.cdcl_state.proofs.marks.Marks.blame.Goals as goal

pub unreachable-requires : goal.unreachable-requires
unreachable-requires c =
    let f = c.requires.falsified in
    no_step c.args.trail.now c.args.lit f.place f.step c.requires.search.steps c.in_default.ensures f.there (ap (λ (m : Literal). m.var) f.is)

pub explain-requires-clause-within : goal.explain-requires-clause-within
explain-requires-clause-within c = place_within c.args.trail.now c.args.lit.var c.in-Some.place c.in-Some.ensures

pub explain-requires-clause-forced : goal.explain-requires-clause-forced
explain-requires-clause-forced c s at =
    let f = c.requires.falsified in
    let there = step_of_false c.args.trail.now (λ r. r.reason ≢ 0) c.args.lit c.in-Some.place c.requires.search.steps c.in-Some.ensures f in
    subst (λ (r : Step). r.reason ≢ 0) (same_Some f.step s (sym there ∙ at)) f.has

pub outcome-requires-clause-apart : goal.outcome-requires-clause-apart
outcome-requires-clause-apart c =
    let f = c.requires.falsified in
    apart_from c.args.store.now c.args.trail.now Decisions f.place f.step c.args.lit c.requires.search f.there (with_reason f.step f.has) (sym (ap (λ (m : Literal). m.var) f.is))

pub returns-clause-blame : goal.returns-clause-blame
returns-clause-blame c =
    let t = c.args.trail.now in
    let l = c.args.lit in
    let f = c.requires.falsified in
    let places = c.explain.new.self.places in
    let lits = c.in_ok-lits.lits in
    let outcome = c.in_ok-lits.ensures in
    let there = step_of_false t (λ r. r.reason ≢ 0) l c.in-Some.place c.requires.search.steps c.in-Some.ensures f in
    let variable = subst (λ (n : ℕ). (0 < n) × (n ≤ t.vars)) (ap (λ (m : Literal). m.var) f.is) (step_variable t f.place f.step c.requires.search.steps f.there) in
    record {
      rising = outcome.rising;
      among = outcome.among;
      decisions = blamed t c.explain.new.self.on.items places l lits outcome;
      hints = blame_hints c.args.store.now t c.explain.new.self.on.items c.explain.new.self.seen.items places c.explain.new.self.least c.in_ok-hints.hints lits l c.requires.search.steps variable (c.in_ok-hints.ensures).walk outcome ((c.in_ok-hints.ensures).closing l f.step there f.is);
    }
