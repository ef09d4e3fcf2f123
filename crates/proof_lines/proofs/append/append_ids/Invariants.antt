use Rattle.std.proofs.Common.{◌≡◌, ◌++◌, take}
use Rattle.std.specs.List.{flat_map}
use Rattle.proof_lines.specs.Ids.{id_word}
use Rattle.proof_lines.specs.Spaces.{after_space}
use Rattle.proof_lines.proofs.append.append_ids.Given as goal

abbrev pub invariant-loop-id : goal.invariant-loop-id
invariant-loop-id l = l.text.items ≡ l.fn.text.items ++ flat_map (λ i. after_space (id_word l.fn.spelling i)) (take l.id-index l.ids)
