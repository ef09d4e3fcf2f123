use Rattle.std.proofs.lemmas.Result.{err_from_is_err_and}
use Rattle.front_text.proofs.ModelsEntries.{entry_read, no_entry_begins, no_entry_read}
use Rattle.front_text.proofs.models_reader.read_entry.Goals as goal

pub returns-in_default : goal.returns-in_default
returns-in_default c = no_entry_begins c.args.cursor.now c.requires c.in_default.ensures

pub returns-in_err-models : goal.returns-in_err-models
returns-in_err-models c =
    let p = err_from_is_err_and c.from_residual.result c.from_residual.ensures.1 in
    rw (p.1, p.2) (no_entry_read c.args.cursor.now c.take_kind.new.cursor c.read_entry_models.new.cursor c.in-Some.kind _ c.requires c.in-Some.ensures c.in_err-models.ensures)

pub returns : goal.returns
returns c = (tt, entry_read c.args.cursor.now c.take_kind.new.cursor c.read_entry_models.new.cursor c.in-Some.kind c.in_ok-models.models c.requires c.in-Some.ensures c.in_ok-models.ensures)
