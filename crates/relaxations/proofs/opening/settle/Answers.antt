-- The outputs are tied to the bounds, and then the models are settled.
use Rattle.std.proofs.Common.{◌≡◌, List, sym, subst}
use Rattle.std.specs.List.{All}
use Rattle.totalizer.specs.declared.reform.Reform.{Reform}
use Rattle.search_base.proofs.ModelLines.{totalizer_goes_on}
use Rattle.search_base.proofs.Turning.{goes_twice}
use Rattle.relaxations.proofs.opening.settle.Goals as goal

pub settle-requires-clause-good : goal.settle-requires-clause-good
settle-requires-clause-good g c =
    let R = g.R.Recorder in
    let call = c.in_ok-tie_bounds.ensures in
    let law = c.adding_stays_good_but.ensures in
    law.bounds (R.seen c.args.rec.now) (R.seen c.tie_bounds.new.rec) c.args.bounds.now c.tie_bounds.new.bounds
    c.args.board.now c.args.pending.now c.requires.good call.recorded.continues call.recorded.whole call.fits

pub settle-requires-clause-own : goal.settle-requires-clause-own
settle-requires-clause-own g c =
    subst (λ (rs : List Reform). All (λ r. r.lower_line ≡ 0) rs) (sym c.in_ok-tie_bounds.ensures.reforms) c.requires.own

pub returns-clause-goes_on : goal.returns-clause-goes_on
returns-clause-goes_on g c =
    let R = g.R.Recorder in
    let a = R.seen c.args.rec.now in
    let b = R.seen c.tie_bounds.new.rec in
    goes_twice a b (R.seen c.settle.new.rec) (totalizer_goes_on a b c.in_ok-tie_bounds.ensures.recorded.continues)
    c.settle.ensures.goes_on
