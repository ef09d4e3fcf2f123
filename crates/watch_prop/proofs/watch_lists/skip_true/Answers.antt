use Rattle.std.proofs.Common.{◌<◌, get_or, length, arith, sym, subst, inl, inr}
use Rattle.std.specs.List.{Contains}
use Rattle.std.proofs.lemmas.Bool.{cases_eq}
use Rattle.watch_prop.specs.declared.watch_lists.Entry.{Entry}
use Rattle.watch_prop.specs.Watching.{lits_of, no_entry}
use Rattle.watch_prop.proofs.watch_lists.skip_true.Goals as goal

pub loop-at-preserved : goal.loop-at-preserved
loop-at-preserved c =
    let inv = c.loop-at.invariant in
    let after = inv.after in
    let within : c.loop-at.at < length c.args.list.now = (let h = c.loop-at-test.true in let e = c.len.ensures in omega (arith, h, e)) in
    let here : Contains (lits_of c.args.trail.now.steps) (get_or c.args.list.now c.loop-at.at no_entry).blocker = subst (λ (x : Entry). Contains (lits_of c.args.trail.now.steps) x.blocker) (sym (c.at.ensures.value no_entry)) (c.is_true.ensures.value.0 c.if-not-is_true.false) in
    record {
      after = omega (arith, after);
      held = λ k from below. elim (cases_eq k c.loop-at.at) [
        | inl e ↦ subst (λ i. (i < length c.args.list.now) × Contains (lits_of c.args.trail.now.steps) (get_or c.args.list.now i no_entry).blocker) (sym e) (within, here)
        | inr n ↦ inv.held k from (omega arith)
      ];
    }
