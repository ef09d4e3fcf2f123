use Rattle.std.proofs.Common.{◌≡◌, ◌++◌, take}
use Rattle.std.specs.List.{flat_map}
use Rattle.proof_lines.specs.Reading.{term_words}
use Rattle.proof_lines.specs.Spaces.{after_spaces}
use Rattle.proof_lines.proofs.append.append_terms.Given as goal

abbrev pub invariant-loop-at : goal.invariant-loop-at
invariant-loop-at l = l.text.items ≡ l.fn.text.items ++ flat_map (λ t. after_spaces (term_words t)) (take l.at l.c.terms)
