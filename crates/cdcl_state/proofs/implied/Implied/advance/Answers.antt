use Rattle.std.specs.Prelude.{ℕ, ◌<◌, length}
use Rattle.std.proofs.Common.{sym, subst}
use Rattle.cdcl_state.proofs.Judging.{popped_busy, popped_place}
use Rattle.cdcl_state.proofs.implied.Implied.advance.Goals as goal

pub look-verdict-requires-clause-busy : goal.look-verdict-requires-clause-busy
look-verdict-requires-clause-busy c = popped_busy (length c.args.trail.now.steps) c.args.self.now c.pop.new.self c.in-Some.visit c.requires.busy c.in-Some.ensures

pub look-verdict-requires-clause-place : goal.look-verdict-requires-clause-place
look-verdict-requires-clause-place c = popped_place (length c.args.trail.now.steps) c.args.self.now c.pop.new.self c.in-Some.visit c.requires.busy c.in-Some.ensures

pub returns-clause-busy : goal.returns-clause-busy
returns-clause-busy c =
    let n = length c.args.trail.now.steps in
    let place = popped_place n c.args.self.now c.pop.new.self c.in-Some.visit c.requires.busy c.in-Some.ensures in
    c.follow.ensures.busy n (popped_busy n c.args.self.now c.pop.new.self c.in-Some.visit c.requires.busy c.in-Some.ensures)
    (subst (λ (k : ℕ). k < n) (sym c.look-verdict.ensures.place) place) c.look-verdict.ensures.verdict
