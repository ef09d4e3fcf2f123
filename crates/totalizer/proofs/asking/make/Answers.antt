-- The nodes below the root are extended, and then it is asked.
use Rattle.std.proofs.Common.{List, refl, sym, subst, arith}
use Rattle.std.proofs.lemmas.Result.{err_from_is_err_and}
use Rattle.sum_outputs.specs.declared.sum_output.SumOutput.{SumOutput}
use Rattle.sum_outputs.proofs.LaterStates.{continues_twice, handed_on, ready_later, recorded_ok}
use Rattle.totalizer.specs.Totalizing.{Fits}
use Rattle.totalizer.specs.Demanding.{AddsDemanded}
use Rattle.totalizer.proofs.Roots.{some_nodes}
use Rattle.totalizer.proofs.AskedRoot.{IsAskedRoot, asked_bound}
use Rattle.totalizer.proofs.AskedTotalizer.{totalizer_of, AreCalls, fits_asked, adds_demanded}
use Rattle.totalizer.proofs.asking.make.Goals as goal

pub extend_all-requires-clause-tree : goal.extend_all-requires-clause-tree
extend_all-requires-clause-tree g c = c.requires.fits.rooted.tree

pub extend_all-requires-clause-some : goal.extend_all-requires-clause-some
extend_all-requires-clause-some g c = let long = c.requires.long in some_nodes c.args.nodes.now (omega arith)

pub extend_all-requires-clause-made : goal.extend_all-requires-clause-made
extend_all-requires-clause-made g c = c.requires.fits.made

pub ask_root-requires-clause-rooted : goal.ask_root-requires-clause-rooted
ask_root-requires-clause-rooted g c = c.requires.fits.rooted

pub ask_root-requires-clause-made : goal.ask_root-requires-clause-made
ask_root-requires-clause-made g c = c.in_ok-extend_all.ensures.extends.made

pub ask_root-requires-clause-complete : goal.ask_root-requires-clause-complete
ask_root-requires-clause-complete g c = c.in_ok-extend_all.ensures.extends.complete

pub ask_root-requires-clause-most : goal.ask_root-requires-clause-most
ask_root-requires-clause-most g c = c.requires.most

pub ask_root-requires-clause-long : goal.ask_root-requires-clause-long
ask_root-requires-clause-long g c = c.requires.long

pub overflow_sub-nodes : goal.overflow_sub-nodes
overflow_sub-nodes g c =
    let long = c.requires.long in
    let some = some_nodes c.args.nodes.now (omega arith) in
    omega arith

pub ask_root-requires-clause-ready : goal.ask_root-requires-clause-ready
ask_root-requires-clause-ready g c =
    let R = g.R.Recorder in
    let a = R.seen c.args.rec.now in
    let b = R.seen c.extend_all.new.rec in
    let first = c.in_ok-extend_all.ensures in
    ready_later a b c.requires.ready first.recorded.continues first.recorded.whole

pub returns-in_err-asked-clause-recorded : goal.returns-in_err-asked-clause-recorded
returns-in_err-asked-clause-recorded g c =
    let R = g.R.Recorder in
    let a = R.seen c.args.rec.now in
    let b = R.seen c.extend_all.new.rec in
    let first = c.in_ok-extend_all.ensures in
    let d = R.seen c.ask_root.new.rec in
    let out = c.from_residual-in_err-asked in
    let p = err_from_is_err_and out.result out.ensures.1 in
    let call = c.in_err-asked.ensures in
    handed_on a b d c.in_err-asked.field-0.0 p.0 out.result p.1 p.2 first.recorded.continues call.recorded

pub returns-clause-recorded : goal.returns-clause-recorded
returns-clause-recorded g c =
    let R = g.R.Recorder in
    let a = R.seen c.args.rec.now in
    let b = R.seen c.extend_all.new.rec in
    let first = c.in_ok-extend_all.ensures in
    let d = R.seen c.ask_root.new.rec in
    let second = c.in_ok-asked.ensures in
    recorded_ok a d _ (continues_twice a b d first.recorded.continues second.recorded.continues) second.recorded.whole

pub returns-clause-bound : goal.returns-clause-bound
returns-clause-bound g c =
    let R = g.R.Recorder in
    let a = R.seen c.args.rec.now in
    let b = R.seen c.extend_all.new.rec in
    let first = c.in_ok-extend_all.ensures in
    let d = R.seen c.ask_root.new.rec in
    let second = c.in_ok-asked.ensures in
    let nodes = c.args.nodes.now in
    let made = c.extend_all.new.made in
    let o = c.in_ok-asked.asked in
    let os = c.in_ok-asked.outputs in
    let last : IsAskedRoot b d nodes made c.args.k o os = record {
      ready = ready_later a b c.requires.ready first.recorded.continues first.recorded.whole;
      on = second.recorded.continues;
      long = c.requires.long;
      are = first.extends.made;
      asked = second.asked;
    } in
    asked_bound b d nodes made c.args.k o os last c.requires.from_one c.requires.most

pub returns-clause-added : goal.returns-clause-added
returns-clause-added g c =
    let R = g.R.Recorder in
    let a = R.seen c.args.rec.now in
    let b = R.seen c.extend_all.new.rec in
    let first = c.in_ok-extend_all.ensures in
    let d = R.seen c.ask_root.new.rec in
    let second = c.in_ok-asked.ensures in
    let nodes = c.args.nodes.now in
    let made = c.extend_all.new.made in
    let o = c.in_ok-asked.asked in
    let os = c.in_ok-asked.outputs in
    let last : IsAskedRoot b d nodes made c.args.k o os = record {
      ready = ready_later a b c.requires.ready first.recorded.continues first.recorded.whole;
      on = second.recorded.continues;
      long = c.requires.long;
      are = first.extends.made;
      asked = second.asked;
    } in
    let calls : AreCalls a b d nodes c.args.made.now made c.args.k o os = record {
      ready = c.requires.ready;
      on = first.recorded.continues;
      from_one = c.requires.from_one;
      fits = c.requires.fits;
      extends = first.extends;
      last = last;
    } in
    let before = totalizer_of nodes c.args.made.now in
    let adds = adds_demanded a b d nodes c.args.made.now made c.args.k o os calls in (
      c.args.k,
      refl,
      subst (λ (ms : List (List SumOutput)). AddsDemanded a d c.args.k before (totalizer_of nodes ms) o.lit)
          (sym c.set.ensures) adds,
    )

pub returns-clause-fits : goal.returns-clause-fits
returns-clause-fits g c =
    let R = g.R.Recorder in
    let a = R.seen c.args.rec.now in
    let b = R.seen c.extend_all.new.rec in
    let first = c.in_ok-extend_all.ensures in
    let d = R.seen c.ask_root.new.rec in
    let second = c.in_ok-asked.ensures in
    let nodes = c.args.nodes.now in
    let made = c.extend_all.new.made in
    let o = c.in_ok-asked.asked in
    let os = c.in_ok-asked.outputs in
    let last : IsAskedRoot b d nodes made c.args.k o os = record {
      ready = ready_later a b c.requires.ready first.recorded.continues first.recorded.whole;
      on = second.recorded.continues;
      long = c.requires.long;
      are = first.extends.made;
      asked = second.asked;
    } in
    let calls : AreCalls a b d nodes c.args.made.now made c.args.k o os = record {
      ready = c.requires.ready;
      on = first.recorded.continues;
      from_one = c.requires.from_one;
      fits = c.requires.fits;
      extends = first.extends;
      last = last;
    } in
    subst (λ (ms : List (List SumOutput)). Fits d (totalizer_of nodes ms)) (sym c.set.ensures)
    (fits_asked a b d nodes c.args.made.now made c.args.k o os calls)
