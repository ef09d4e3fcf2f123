-- Each search begins the log anew; a model that is found is one more, and where none is found all are listed.
use Rattle.std.proofs.Common.{◌≡◌, ◌+◌, ◌∷◌, [], length, rules, ap, ◌∙◌, arith, length-append}
use Rattle.std.proofs.lemmas.Result.{err_from_is_err_and}
use Rattle.instance.specs.ParetoFront.{problem_vector}
use Rattle.representative_search.specs.Gathered.{IsGathered, IsPartOfSearch}
use Rattle.representative_search.proofs.BegunAnew.{touches_twice}
use Rattle.representative_search.proofs.FurtherModels.{lists_again, more_gathered, stops_again}
use Rattle.representative_search.proofs.gathering.gather.Goals as goal

pub returns-in_err-model : goal.returns-in_err-model
returns-in_err-model g c =
    let world = g.H.Shelf.world in
    let q = err_from_is_err_and c.from_residual.result c.from_residual.ensures.1 in
    let Found = IsGathered (world c.args.shelf.now).files (world c.next_model.new.shelf).files c.args.name.now c.args.inst.now c.args.problem.now c.args.vec.now c.args.most in
    rw (q.1, q.2) (stops_again c.args.name.now c.args.problem.now (problem_vector c.args.inst.now c.args.vec.now) (world c.args.shelf.now) (world c.loop-alloc.shelf) (world c.next_model.new.shelf)
    c.loop-alloc.invariant.keeps Found _ c.in_err-model.ensures.stop c.next_model.ensures.keeps)

pub loop-alloc-preserved : goal.loop-alloc-preserved
loop-alloc-preserved g c =
    let world = g.H.Shelf.world in
    let before = c.loop-alloc.invariant in
    let pushed = c.in_ok-push-in-Some.ensures.ok in
    let size : length c.push.new.self ≡ length c.loop-alloc.models + 1 = ap length pushed ∙ length-append c.loop-alloc.models (c.in-Some.model ∷ []) in
    record {
      gathered = more_gathered c.args.inst.now c.args.vec.now c.loop-alloc.models c.push.new.self c.in-Some.model before.gathered
          (rw (c.in-Some.is, c.as_slice.ensures) at c.in_ok-model.ensures.found) pushed;
      few = omega arith;
      keeps = touches_twice (IsPartOfSearch c.args.problem.now (problem_vector c.args.inst.now c.args.vec.now)) c.args.name.now (world c.args.shelf.now) (world c.loop-alloc.shelf) (world c.next_model.new.shelf)
          before.keeps c.next_model.ensures.keeps;
    }

pub returns-in_err-push-in-Some : goal.returns-in_err-push-in-Some
returns-in_err-push-in-Some g c =
    let world = g.H.Shelf.world in
    record {
      found = search rules;
      stop = search rules;
      keeps = touches_twice (IsPartOfSearch c.args.problem.now (problem_vector c.args.inst.now c.args.vec.now)) c.args.name.now (world c.args.shelf.now) (world c.loop-alloc.shelf) (world c.next_model.new.shelf)
          c.loop-alloc.invariant.keeps c.next_model.ensures.keeps;
    }

pub returns-in-None : goal.returns-in-None
returns-in-None g c =
    let world = g.H.Shelf.world in
    let us = problem_vector c.args.inst.now c.args.vec.now in
    let mid = c.loop-alloc.invariant in
    let further = rw (c.in-None.is, c.as_slice.ensures) at c.in_ok-model.ensures.found in
    record {
      found = record {
        reps = record {
          serving = record { serve = mid.gathered.serve; different = mid.gathered.different; count = search rules };
          whole = λ _. further.0;
        };
        log = λ _. lists_again c.args.name.now c.args.problem.now us (world c.args.shelf.now) (world c.loop-alloc.shelf) (world c.next_model.new.shelf) mid.keeps c.loop-alloc.models further.1;
      };
      stop = tt;
      keeps = touches_twice (IsPartOfSearch c.args.problem.now us) c.args.name.now (world c.args.shelf.now) (world c.loop-alloc.shelf) (world c.next_model.new.shelf)
          mid.keeps c.next_model.ensures.keeps;
    }
