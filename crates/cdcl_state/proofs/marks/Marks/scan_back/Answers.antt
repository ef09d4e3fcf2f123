use Rattle.std.specs.Prelude.{◌≡◌, ◌+◌, ◌-◌, ◌<◌, ℕ, reverse}
use Rattle.std.proofs.Common.{◌∙◌, sym, subst, arith}
use Rattle.cdcl_state.specs.Walking.{IsClosing, spare}
use Rattle.cdcl_state.proofs.marks.Marks.scan_back.Goals as goal

pub back-preserved : goal.back-preserved
back-preserved c =
    let done = c.in_ok-step_back.ensures in
    let before = c.back.invariant in
    let left : c.back.self.least + spare c.args.reach < c.back.place = omega (arith, c.back-test.true, c.spare-spare.ensures) in
    let next : c.back.place - 1 + 1 ≡ c.back.place = omega (arith, left) in
    record {
      walk = done.walk;
      room = done.room ∙ before.room;
      falls = omega (arith, done.falls, before.falls);
      after = omega (arith, left, done.falls);
      within = omega (arith, before.within);
      closing = λ given start. done.closing given (subst (λ (n : ℕ). IsClosing c.args.store.now c.args.trail.now c.args.reach c.back.self.on.items n given (reverse c.back.hints.items)) (sym next) (before.closing given start));
    }

pub returns : goal.returns
returns c =
    let before = c.back.invariant in
    let end : c.back.place ≡ c.back.self.least + spare c.args.reach = omega (arith, c.back-test.false, c.spare-spare.ensures, before.after) in
    record {
      walk = before.walk;
      room = before.room;
      after = omega (arith, before.falls, c.requires.after);
      closing = λ given start. subst (λ (n : ℕ). IsClosing c.args.store.now c.args.trail.now c.args.reach c.back.self.on.items n given (reverse c.back.hints.items)) end (before.closing given start);
    }
