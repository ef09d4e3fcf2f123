use Rattle.std.proofs.Common.{sym, ap, ◌∙◌, subst}
use Rattle.std.specs.FinMap.{remove}
use Rattle.pb_lin.specs.LineMap.{LineMap}
use Rattle.cdcl_trail.proofs.Stores.{get_new}
use Rattle.cdcl_state.proofs.StoredLines.{remove_inserted, some_of, lines_up_to_more}
use Rattle.cdcl_state.proofs.search.store_line.Goals as goal

pub added-requires-clause-in_step : goal.added-requires-clause-in_step
added-requires-clause-in_step g c =
    subst (λ (m : LineMap). g.P.Propagator.in_step c.args.propagator.now m c.args.trail.now)
    (sym (ap (λ (m : LineMap). remove m c.args.id) c.in_ok-put.ensures.ok ∙ remove_inserted c.args.store.now c.args.id c.args.line.now c.requires.fresh))
    c.requires.in_step

pub added-requires-clause-there : goal.added-requires-clause-there
added-requires-clause-there g c = some_of _ c.args.line.now (ap (λ (m : LineMap). Rattle.std.specs.FinMap.get m c.args.id) c.in_ok-put.ensures.ok ∙ get_new c.args.store.now c.args.id c.args.line.now)

pub added-requires-clause-variables : goal.added-requires-clause-variables
added-requires-clause-variables g c = lines_up_to_more c.args.trail.now.vars c.args.store.now c.put.new.self c.args.id c.args.line.now c.in_ok-put.ensures.ok c.requires.variables c.requires.line

pub returns-in-Err-clause-err : goal.returns-in-Err-clause-err
returns-in-Err-clause-err g c = c.drop_id.ensures ∙ ap (λ (m : LineMap). remove m c.args.id) c.in_ok-put.ensures.ok ∙ remove_inserted c.args.store.now c.args.id c.args.line.now c.requires.fresh
