use Rattle.std.specs.Prelude.{◌≡◌, map, drop}
use Rattle.std.specs.Str.{bytes_eq}
use Rattle.std.specs.List.{list_any}
use Rattle.command_base.proofs.file_words.is_among.Given as goal

abbrev pub invariant-loop-other : goal.invariant-loop-other
invariant-loop-other l = list_any (bytes_eq l.name) (map (λ s. s.now) l.names) ≡ list_any (bytes_eq l.name) (map (λ s. s.now) (drop l.other-index l.names))
