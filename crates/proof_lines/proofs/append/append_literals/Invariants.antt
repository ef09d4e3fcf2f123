use Rattle.std.proofs.Common.{◌≡◌, ◌++◌, take}
use Rattle.std.specs.List.{flat_map}
use Rattle.proof_lines.specs.LineText.{literal_word}
use Rattle.proof_lines.specs.Spaces.{after_space}
use Rattle.proof_lines.proofs.append.append_literals.Given as goal

abbrev pub invariant-loop-lit : goal.invariant-loop-lit
invariant-loop-lit l = l.text.items ≡ l.fn.text.items ++ flat_map (λ m. after_space (literal_word m)) (take l.lit-index l.lits)
