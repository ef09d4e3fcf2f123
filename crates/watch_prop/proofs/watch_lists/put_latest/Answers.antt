use Rattle.std.proofs.Common.{sym, subst}
use Rattle.std.proofs.lemmas.List.Sorted.{IsPermutation-swap}
use Rattle.watch_prop.specs.Watching.{IsDistinct}
use Rattle.watch_prop.proofs.WatchLists.{distinct_swapped}
use Rattle.watch_prop.proofs.watch_lists.put_latest.Goals as goal

pub returns-clause-same : goal.returns-clause-same
returns-clause-same c = IsPermutation-swap c.args.clause.now c.swap.new.self c.args.front c.latest-best.result c.requires.within c.latest-best.ensures.within c.swap.ensures

pub returns-clause-distinct : goal.returns-clause-distinct
returns-clause-distinct c = λ distinct. subst IsDistinct (sym c.swap.ensures) (distinct_swapped c.args.clause.now c.args.front c.latest-best.result c.requires.within c.latest-best.ensures.within distinct)
