use Rattle.std.proofs.Common.{rules, ◌<◌, ◌^◌, length, ◌∙◌, arith, subst, sym}
use Rattle.std.proofs.lemmas.Result.{err_from_is_err_and}
use Rattle.command_models.specs.Gathering.{AreGathered}
use Rattle.command_models.proofs.OneMore.{all_touched, gathered_upto, gathering_stopped}
use Rattle.command_models.proofs.gathering.gather_all.Goals as goal

pub returns-in_err-reps-clause-stop : goal.returns-in_err-reps-clause-stop
returns-in_err-reps-clause-stop g c =
    let w = g.H.Shelf.world in
    let l = c.loop-at in
    let few : length c.args.entries.now < 2 ^ 63 = search rules in
    let p = err_from_is_err_and c.from_residual.result c.from_residual.ensures.1 in
    rw (p.1, p.2)
    (gathering_stopped c.args.request.now c.args.inst.now c.args.problem.now (w c.args.shelf.now) (w l.shelf) (w c.gather_entry.new.shelf) c.args.entries.now few
    l.at c.loop-at-test.true c.index-entries-at.result c.index-entries-at.is l.invariant.later l.invariant.gathered.touched c.in_err-reps.field-0.0 c.in_err-reps.ensures.stop)

pub returns-in-Err-clause-stop : goal.returns-in-Err-clause-stop
returns-in-Err-clause-stop g c =
    let w = g.H.Shelf.world in
    let l = c.loop-at in
    let few : length c.args.entries.now < 2 ^ 63 = search rules in
    record {
      cause = tt;
      touched = all_touched c.args.request.now c.args.inst.now c.args.problem.now (w c.args.shelf.now) (w l.shelf) (w c.gather_entry.new.shelf) c.args.entries.now few
          l.at c.loop-at-test.true c.index-entries-at.result c.index-entries-at.is l.invariant.gathered.touched c.in_ok-reps.ensures.gathered.touched;
    }

pub loop-at-preserved : goal.loop-at-preserved
loop-at-preserved g c =
    let w = g.H.Shelf.world in
    let l = c.loop-at in
    let few : length c.args.entries.now < 2 ^ 63 = search rules in
    let more = gathered_upto c.args.request.now c.args.inst.now c.args.problem.now (w c.args.shelf.now) (w l.shelf) (w c.gather_entry.new.shelf) c.args.entries.now few
    l.at c.loop-at-test.true c.index-entries-at.result c.index-entries-at.is l.all c.in_ok-reps.reps l.invariant.gathered c.in_ok-reps.ensures.gathered in
    record {
      gathered = rw c.in-Ok.ensures.ok more;
      said = c.in_ok-reps.ensures.said ∙ l.invariant.said;
      warned = c.in_ok-reps.ensures.warned ∙ l.invariant.warned;
      later = λ call name. omega (arith, l.invariant.later call name, c.in_ok-reps.ensures.later call name);
    }
