use Rattle.std.specs.Prelude.{◌≡◌, map, drop}
use Rattle.command_base.specs.FileWords.{all_differ}
use Rattle.command_base.proofs.file_words.all_differ.Given as goal

abbrev pub invariant-loop-at : goal.invariant-loop-at
invariant-loop-at l = all_differ (map (λ s. s.now) l.names) ≡ all_differ (map (λ s. s.now) (drop l.at l.names))
