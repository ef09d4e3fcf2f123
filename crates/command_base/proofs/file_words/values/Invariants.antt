use Rattle.std.specs.Prelude.{◌≡◌, map, take}
use Rattle.clap.specs.Words.{rows_of, found_of}
use Rattle.command_base.specs.FileWords.{values_of}
use Rattle.command_base.proofs.file_words.values.Given as goal

abbrev pub invariant-loop-place : goal.invariant-loop-place
invariant-loop-place l = map (λ s. s.now) l.names.items ≡ values_of (map (λ s. s.now) (take l.place-index l.places)) (rows_of (found_of l.matches))
