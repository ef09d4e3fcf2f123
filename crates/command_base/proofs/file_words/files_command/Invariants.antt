use Rattle.std.specs.Prelude.{◌≡◌, map, take}
use Rattle.clap.specs.Words.{app_of}
use Rattle.command_base.specs.FileWords.{files_app}
use Rattle.command_base.proofs.file_words.files_command.Given as goal

abbrev pub invariant-loop-place : goal.invariant-loop-place
invariant-loop-place l = app_of l.command ≡ files_app l.name (map (λ s. s.now) (take l.place-index l.places))
