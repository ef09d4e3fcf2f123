use Rattle.std.proofs.Common.{sym, subst, arith}
use Rattle.cdcl_state.specs.declared.reach.Reach.{Reach}
use Rattle.cdcl_state.specs.Walking.{WalksBack}
use Rattle.cdcl_state.proofs.marks.Marks.walk_back.Goals as goal

pub returns-in-Decisions : goal.returns-in-Decisions
returns-in-Decisions c =
    let done = c.resolve_marked.ensures in
    let after = rw c.in-Decisions.is at c.requires.after in
    subst (λ (r : Reach). WalksBack c.args.store.now c.args.trail.now r c.args.end c.args.self.now c.resolve_marked.new.self c.args.hints.now.items c.resolve_marked.new.hints.items c.resolve_marked.result)
    (sym c.in-Decisions.is) (record { walk = done.walk; room = done.room; after = omega (arith, done.falls, after); closing = done.closing })
