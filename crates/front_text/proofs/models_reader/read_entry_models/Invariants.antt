use Rattle.std.proofs.Common.{◌≡◌, ◌++◌, length}
use Rattle.front_text.proofs.ModelsEntries.{lines_of}
use Rattle.front_text.proofs.models_reader.read_entry_models.Given as goal

abbrev pub invariant-loop-at : goal.invariant-loop-at
invariant-loop-at l = record {
  taken : l.fn.cursor ≡ lines_of l.models ++ l.cursor;
  number : length l.models ≡ l._at;
}
