use Rattle.std.proofs.Common.{◌≡◌, ◌∙◌, ap, take_at, arith}
use Rattle.pb_lin.specs.Constraint.{ConstraintValue}
use Rattle.cutting_planes.specs.Runs.{nonzero, weakened_all}
use Rattle.cutting_planes.proofs.Runs.{run_dropped, run_normal}
use Rattle.cutting_planes.proofs.weaken.weakened_all.Goals as goal

pub from_parts-requires : goal.from_parts-requires
from_parts-requires c =
    let whole : ConstraintValue = record { terms = c.c.inside.terms; degree = c.c.inside.degree } in
    let made : record { terms = c.nonzero_terms.result; degree = c.saturating_sub-degree.result } ≡ weakened_all c.args.run.now whole =
    run_dropped c.args.run.now whole c.deref_mut.result.now c.clear_all-lost.new.terms c.nonzero_terms.result c.saturating_sub-degree.result c.clear_all-lost.result c.c.invariant (c.deref_mut.ensures.value ∙ c.into_vec-terms.ensures) (c.nonzero_terms.ensures ∙ ap nonzero (take_at c.clear_all-lost.new.terms _ c.into_vec-terms.result.len (omega (arith, c.clear_all-lost.auto.terms, c.deref_mut.ensures.len)))) c.saturating_sub-degree.ensures c.clear_all-lost.ensures in
    run_normal c.args.run.now whole (record { terms = c.nonzero_terms.result; degree = c.saturating_sub-degree.result }) c.c.invariant made

pub returns : goal.returns
returns c =
    let whole : ConstraintValue = record { terms = c.c.inside.terms; degree = c.c.inside.degree } in
    c.from_parts.ensures
    ∙ run_dropped c.args.run.now whole c.deref_mut.result.now c.clear_all-lost.new.terms c.nonzero_terms.result c.saturating_sub-degree.result c.clear_all-lost.result c.c.invariant (c.deref_mut.ensures.value ∙ c.into_vec-terms.ensures) (c.nonzero_terms.ensures ∙ ap nonzero (take_at c.clear_all-lost.new.terms _ c.into_vec-terms.result.len (omega (arith, c.clear_all-lost.auto.terms, c.deref_mut.ensures.len)))) c.saturating_sub-degree.ensures c.clear_all-lost.ensures
    ∙ ap (weakened_all c.args.run.now) c.c.view_is
