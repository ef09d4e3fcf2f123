use Rattle.std.proofs.Common.{rules, ◌≡◌, ◌<◌, ◌^◌, length, inr, ◌∙◌, ap, sym, List, refl}
use Rattle.std.specs.Prelude.{Err}
use Rattle.std.proofs.lemmas.Result.{err_from_is_err_and}
use Rattle.command_models.proofs.TextEnds.{gathering_failed, text_failed, text_touched, text_written}
use Rattle.command_models.proofs.writing.write_all.Goals as goal

pub returns-in_err-reps-clause-stop : goal.returns-in_err-reps-clause-stop
returns-in_err-reps-clause-stop g c =
    let w = g.H.Shelf.world in
    let few : length c.args.entries.now < 2 ^ 63 = search rules in
    let p = err_from_is_err_and c.from_residual.result c.from_residual.ensures.1 in
    rw (p.1, p.2)
    (gathering_failed c.args.request.now c.args.inst.now c.args.problem.now c.args.entries.now few (w c.args.shelf.now) (w c.gather_all.new.shelf) c.in_err-reps.field-0.0 c.in_err-reps.ensures.stop)

pub returns-in-Ok-clause-written : goal.returns-in-Ok-clause-written
returns-in-Ok-clause-written g c =
    let w = g.H.Shelf.world in
    let few : length c.args.entries.now < 2 ^ 63 = search rules in
    text_written c.args.request.now c.args.inst.now c.args.problem.now c.args.entries.now few (w c.args.shelf.now) (w c.gather_all.new.shelf) (w c.write_models.new.shelf)
    c.in_ok-reps.reps c.as_slice.result.now c.as_slice.ensures c.base.result.now c.base.ensures c.in_ok-reps.ensures.gathered c.in-Ok.ensures.ok

pub returns-in-Err-Failed-clause-stop : goal.returns-in-Err-Failed-clause-stop
returns-in-Err-Failed-clause-stop g c =
    let w = g.H.Shelf.world in
    let few : length c.args.entries.now < 2 ^ 63 = search rules in
    let same : c.as_slice.result.now ≡ c.in_ok-reps.reps = c.as_slice.ensures in
    record {
      cause = inr (text_failed c.args.request.now c.args.inst.now c.args.problem.now c.args.entries.now few (w c.args.shelf.now) (w c.gather_all.new.shelf) (w c.write_models.new.shelf)
          c.in_ok-reps.reps c.as_slice.result.now same c.base.result.now c.base.ensures c.in_ok-reps.ensures.gathered c.in_ok-reps.ensures.later (c.in-Err-Failed.ensures.failed (ap Err c.in-Err-Failed.field-0-is)));
      touched = text_touched c.args.request.now c.args.inst.now c.args.problem.now c.args.entries.now few (w c.args.shelf.now) (w c.gather_all.new.shelf) (w c.write_models.new.shelf)
          c.in_ok-reps.reps c.as_slice.result.now same c.base.result.now c.base.ensures c.in_ok-reps.ensures.gathered c.in-Err-Failed.ensures.err;
    }

pub returns-clause-stop : goal.returns-clause-stop
returns-clause-stop g c =
    let w = g.H.Shelf.world in
    let few : length c.args.entries.now < 2 ^ 63 = search rules in
    record {
      cause = tt;
      touched = text_touched c.args.request.now c.args.inst.now c.args.problem.now c.args.entries.now few (w c.args.shelf.now) (w c.gather_all.new.shelf) (w c.write_models.new.shelf)
          c.in_ok-reps.reps c.as_slice.result.now c.as_slice.ensures c.base.result.now c.base.ensures c.in_ok-reps.ensures.gathered c.in-Err-NoMemory.ensures.err;
    }
