use Rattle.std.proofs.Common.{◌≡◌, ◌<◌, ◌≤◌, ℕ, List, [], ◌∷◌, get_or, refl, arith, subst, length}
use Rattle.watch_prop.specs.Watching.{lits_of}
use Rattle.watch_prop.specs.Watches.{AreTaken, AreWatches}
use Rattle.watch_prop.proofs.WatchKept.{kept_push}
use Rattle.watch_prop.proofs.WatchTaken.{taken_all, taken_none}
use Rattle.watch_prop.proofs.watches.Watches.packed.Goals as goal

-- no step of an empty trail was looked at
ends_none : (ends : List ℕ) → ((p : ℕ) → p < length ends → (p < get_or ends p 0) × (get_or ends p 0 ≤ 0)) → ends ≡ []
ends_none [] within = refl
ends_none (e ∷ ends) within = absurd (let w = within 0 (omega arith) in omega (arith, w.0, w.1))

pub loop-slot-init : goal.loop-slot-init
unfolding AreWatches
loop-slot-init c =
    let t = c.args.trail.now in
    let new = c.new-packed.ensures t.vars in
    record {
      ready = kept_push c.new-packed.result.slots c.new-packed.result.lists.items c.new-packed.result.ends.items t.vars [] (lits_of t.steps) new.0;
      none = ends_none c.new-packed.result.ends.items new.0.within;
      taken = λ lines hold. taken_none c.new-packed.result c.args.self.now lines new.1;
    }

pub loop-slot-preserved : goal.loop-slot-preserved
loop-slot-preserved c = record {
  ready = c.in_ok-take_over.ensures.ready;
  none = c.in_ok-take_over.ensures.none;
  taken = λ lines hold. c.in_ok-take_over.ensures.taken lines hold (c.loop-slot.invariant.taken lines hold);
}

pub returns-clause-hold : goal.returns-clause-hold
returns-clause-hold c = λ lines hold.
    let w = c.args.self.now in
    taken_all c.loop-slot.packed w lines hold (subst (AreTaken c.loop-slot.packed w lines) (omega (arith, c.loop-slot-test.false, c.loop-slot.auto.slot-end, c.in_ok-count.ensures, c.len.ensures)) (c.loop-slot.invariant.taken lines hold))
