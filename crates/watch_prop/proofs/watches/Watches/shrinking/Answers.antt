use Rattle.std.proofs.Common.{◌<◌, ◌≤◌, ◌-◌, ℕ, List, get_or, length, take, sym, subst, arith}
use Rattle.scut_base.specs.Literal.{Literal}
use Rattle.watch_prop.specs.Watching.{IsKept, lits_of}
use Rattle.watch_prop.specs.Watches.{AreWatches}
use Rattle.watch_prop.proofs.WatchKept.{kept_cut}
use Rattle.watch_prop.proofs.WatchVisits.{lits_cut}
use Rattle.watch_prop.proofs.watches.Watches.shrinking.Goals as goal

pub returns : goal.returns
unfolding AreWatches
returns c = λ store watches.
    let w = c.args.self.now in
    let t = c.args._trail.now in
    let ready = watches.0 in
    let m : ℕ = length c.cut_ends.new.ends.items in
    let small : (p : ℕ) → p < m → get_or w.ends.items p 0 ≤ c.args.keep = λ p h. (let len = c.cut_ends.ensures.len in let last = c.cut_ends.ensures.last (omega arith) in let up = ready.rising p (m - 1) (omega arith) (omega arith) in omega arith) in (
      subst (λ (ls : List Literal). IsKept w.slots w.lists.items c.cut_ends.new.ends.items t.vars ls) (sym (lits_cut c.args.keep t.steps))
          (subst (λ (es : List ℕ). IsKept w.slots w.lists.items es t.vars (take c.args.keep (lits_of t.steps))) (sym c.cut_ends.ensures.front)
          (kept_cut w.slots w.lists.items w.ends.items t.vars (lits_of t.steps) m c.args.keep ready c.cut_ends.ensures.len small)),
      watches.1,
    )
