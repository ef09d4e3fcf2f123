use Rattle.std.proofs.Common.{◌≡◌, List, drop, ap, ◌∙◌, sym}
use Rattle.std.proofs.lemmas.List.{take_rest}
use Rattle.front_set.specs.declared.entry.Entry.{Entry}
use Rattle.instance.specs.declared.objective.Objective.{Objective}
use Rattle.instance.specs.Shape.{InstanceValue}
use Rattle.log_checker.specs.ListJudging.{any_comparable, compared_from}
use Rattle.log_checker.proofs.Comparing.{some_comparable, apart_from_all}
use Rattle.log_checker.proofs.list.has_comparable.Goals as goal

objectives_are : (c : goal.After-any_comparable) → c.as_slice-objectives.result.now ≡ c.args.inst.now.objectives
objectives_are c = c.as_slice-objectives.ensures ∙ ap (λ (v : InstanceValue). v.objectives) c.inst.view_is

tested : (c : goal.After-any_comparable) → c.any_comparable.result ≡ any_comparable c.args.inst.now.objectives (drop c.compared_from-from.result c.args.before.now) c.args.entry.now.costs
tested c =
    c.any_comparable.ensures
    ∙ ap (λ (es : List Entry). any_comparable c.as_slice-objectives.result.now es c.args.entry.now.costs) (take_rest c.args.before.now c.compared_from-from.result)
    ∙ ap (λ (os : List Objective). any_comparable os (drop c.compared_from-from.result c.args.before.now) c.args.entry.now.costs) (objectives_are c)

pub returns-clause-found : goal.returns-clause-found
returns-clause-found c = λ found. some_comparable c.args.inst.now c.args.before.now c.args.entry.now c.compared_from-from.result (sym (tested c) ∙ found)

pub returns-clause-none : goal.returns-clause-none
returns-clause-none c = λ none. apart_from_all c.args.inst.now c.args.before.now c.args.entry.now c.compared_from-from.result c.requires.before c.requires.entry c.requires.after
    (c.compared_from-from.ensures.from ∙ ap (λ (os : List Objective). compared_from os c.args.before.now) (objectives_are c))
    (sym (tested c) ∙ none)
