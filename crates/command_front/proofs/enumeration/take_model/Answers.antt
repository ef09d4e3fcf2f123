use Rattle.std.proofs.Common.{◌≡◌, ◌∙◌, ap, subst, sym, Bool, List}
use Rattle.front_set.specs.declared.entry.Entry.{Entry}
use Rattle.instance.specs.Meaning.{IsModel, costs_of}
use Rattle.instance.specs.ParetoFront.{problem_vector}
use Rattle.command_front.proofs.Enumerated.{one_model_more}
use Rattle.command_front.proofs.enumeration.take_model.Goals as goal

pub returns-in_ok-insert : goal.returns-in_ok-insert
returns-in_ok-insert c = λ k numbered so_far.
    let p : Entry = record { costs = c.in_ok-vector.vector; model = c.in_ok-copy.field-0 } in
    let same : p.model ≡ c.args.a.now = c.in_ok-copy.ensures in
    one_model_more c.args.inst.now c.args.front.now c.insert.new.self p k so_far c.in_ok-insert.ensures.stands (same ∙ numbered)
    record {
      model = subst (λ (a : List Bool). IsModel c.args.inst.now a) (sym same) (c.is_model.ensures.0 c.if-is_model.true);
      costs = c.in_ok-vector.ensures.vector ∙ ap (problem_vector c.args.inst.now) (c.in_ok-costs.ensures.costs ∙ ap (costs_of c.args.inst.now) (sym same));
      bounds = c.in_ok-vector.ensures.bounds;
    }
