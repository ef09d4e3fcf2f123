use Rattle.std.proofs.Common.{◌≡◌, length}
use Rattle.front_text.specs.ModelsReading.{TakesEntries}
use Rattle.front_text.proofs.models_reader.read_entries.Given as goal

abbrev pub invariant-loop-at : goal.invariant-loop-at
invariant-loop-at l = record {
  taken : TakesEntries l.fn.cursor l.cursor l.entries;
  number : length l.entries ≡ l.at;
}
