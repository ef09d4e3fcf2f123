use Rattle.std.proofs.Common.{◌≡◌, ◌≤◌, ◌^◌, ℕ, List, Bool, length, ◌∙◌, ap, subst, sym}
use Rattle.instance.specs.ParetoFront.{problem_vector}
use Rattle.representatives.specs.Bounded.{IsBounded}
use Rattle.command_check_models.specs.Judging.{IsEntryStop}
use Rattle.command_check_models.specs.Words.{log_name}
use Rattle.command_check_models.specs.declared.stop.ModelsStop.{ModelsStop}
use Rattle.command_check_models.proofs.Judged.{few_models, log_accepted, log_stopped, log_taken}
use Rattle.command_check_models.proofs.judging.judge_log.Goals as goal

pub bounded_problem-requires-clause-few : goal.bounded_problem-requires-clause-few
bounded_problem-requires-clause-few g c =
    let r = c.args.reps.now in
    subst (λ (models : List (List Bool)). length models ≤ 2 ^ 20) (sym c.as_slice-models.ensures)
    (few_models r.all (length r.models) c.args.request.now.most c.requires.all c.requires.serving.count c.most-most.ensures.request.few)

pub returns-in-Ok-clause-right : goal.returns-in-Ok-clause-right
returns-in-Ok-clause-right g c =
    let r = c.args.reps.now in
    log_accepted (g.H.Shelf.world c.args.shelf.now).files c.args.request.now c.args.inst.now c.args.problem.now c.in_ok-bounded.bounded c.args.number c.args.entry.now r
    c.requires.given (few_models r.all (length r.models) c.args.request.now.most c.requires.all c.requires.serving.count c.most-most.ensures.request.few) c.requires.serving c.requires.all
    (subst (λ (models : List (List Bool)). IsBounded c.args.problem.now (problem_vector c.args.inst.now c.args.entry.now.costs) models c.in_ok-bounded.bounded) c.as_slice-models.ensures c.in_ok-bounded.ensures)
    c.as_str.result.now (c.as_str.ensures.value ∙ c.in_ok-name.ensures ∙ ap (λ (base : List ℕ). log_name base c.args.number) c.base.ensures) c.in-Ok.ensures.ended c.ended_log_lists_all.ensures

pub returns-in-Ok-clause-taken : goal.returns-in-Ok-clause-taken
returns-in-Ok-clause-taken g c =
    let r = c.args.reps.now in
    log_taken (g.H.Shelf.world c.args.shelf.now).files c.args.request.now c.args.inst.now c.args.problem.now c.in_ok-bounded.bounded c.args.number c.args.entry.now r
    c.requires.given (few_models r.all (length r.models) c.args.request.now.most c.requires.all c.requires.serving.count c.most-most.ensures.request.few) c.requires.serving c.requires.all
    (subst (λ (models : List (List Bool)). IsBounded c.args.problem.now (problem_vector c.args.inst.now c.args.entry.now.costs) models c.in_ok-bounded.bounded) c.as_slice-models.ensures c.in_ok-bounded.ensures)
    c.as_str.result.now (c.as_str.ensures.value ∙ c.in_ok-name.ensures ∙ ap (λ (base : List ℕ). log_name base c.args.number) c.base.ensures) c.in-Ok.ensures.ended

pub returns-clause-stop : goal.returns-clause-stop
returns-clause-stop g c =
    let r = c.args.reps.now in
    let world = g.H.Shelf.world in
    subst (λ (stop : ModelsStop). IsEntryStop stop (world c.args.shelf.now).files c.args.request.now c.args.inst.now c.args.problem.now c.args.number c.args.entry.now r (world c.args.shelf.now).faults (world c.take_ended.new.shelf).faults) (sym c.stop_of.ensures)
    (log_stopped (world c.args.shelf.now).files c.args.request.now c.args.inst.now c.args.problem.now c.in_ok-bounded.bounded c.args.number c.args.entry.now r
    c.requires.given (few_models r.all (length r.models) c.args.request.now.most c.requires.all c.requires.serving.count c.most-most.ensures.request.few) c.requires.serving c.requires.all
    (subst (λ (models : List (List Bool)). IsBounded c.args.problem.now (problem_vector c.args.inst.now c.args.entry.now.costs) models c.in_ok-bounded.bounded) c.as_slice-models.ensures c.in_ok-bounded.ensures)
    c.as_str.result.now (c.as_str.ensures.value ∙ c.in_ok-name.ensures ∙ ap (λ (base : List ℕ). log_name base c.args.number) c.base.ensures)
    (world c.args.shelf.now).faults (world c.take_ended.new.shelf).faults c.in-Err.stop c.in-Err.ensures.stop)
