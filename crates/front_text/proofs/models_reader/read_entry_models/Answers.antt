use Rattle.std.proofs.Common.{arith}
use Rattle.std.proofs.lemmas.Result.{err_from_is_err_and}
use Rattle.front_text.proofs.ModelsEntries.{no_more_models}
use Rattle.front_text.proofs.models_reader.read_entry_models.Goals as goal

pub returns-in_err-read_model : goal.returns-in_err-read_model
returns-in_err-read_model c =
    let p = err_from_is_err_and c.from_residual.result c.from_residual.ensures.1 in
    rw (p.1, p.2) (no_more_models c.args.cursor.now c.loop-at.cursor c.read_model.new.cursor c.loop-at.models c.args.count _ c.requires c.loop-at.invariant.taken (omega arith) c.in_err-read_model.ensures)
