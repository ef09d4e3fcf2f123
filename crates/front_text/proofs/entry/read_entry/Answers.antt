use Rattle.std.proofs.lemmas.Result.{err_from_is_err_and}
use Rattle.front_text.proofs.Entries.{no_entry}
use Rattle.front_text.proofs.entry.read_entry.Goals as goal

pub returns-in_err-model : goal.returns-in_err-model
returns-in_err-model c =
    let p = err_from_is_err_and c.from_residual-in_err-model.result c.from_residual-in_err-model.ensures.1 in
    rw (p.1, p.2) (no_entry _ c.args.cursor.now c.read_costs.new.cursor c.read_model.new.cursor c.in_ok-costs.costs c.in_ok-costs.ensures.0 c.in_ok-costs.ensures.1 c.in_err-model.ensures)
