use Rattle.std.proofs.Common.{List, [], ◌∷◌, sym, subst}
use Rattle.scut_base.specs.Literal.{Literal}
use Rattle.watch_prop.specs.Watching.{IsKept, lits_of}
use Rattle.watch_prop.specs.Watches.{AreWatches}
use Rattle.watch_prop.proofs.WatchKept.{kept_push}
use Rattle.watch_prop.proofs.WatchVisits.{lits_pushed}
use Rattle.watch_prop.proofs.watches.longer_trail_keeps_watches.Goals as goal

pub returns : goal.returns
unfolding AreWatches
returns c = λ w lines t s watches. (
  subst (λ (ls : List Literal). IsKept w.slots w.lists.items w.ends.items t.vars ls) (sym (lits_pushed t.steps s)) (kept_push w.slots w.lists.items w.ends.items t.vars (lits_of t.steps) (s.lit ∷ []) watches.0),
  watches.1,
)
