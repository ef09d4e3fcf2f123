use Rattle.std.proofs.Common.{◌≡◌, ◌++◌, take}
use Rattle.std.specs.List.{flat_map}
use Rattle.proof_lines.specs.LineText.{token_words}
use Rattle.proof_lines.specs.Spaces.{after_spaces}
use Rattle.proof_lines.proofs.append.append_tokens.Given as goal

abbrev pub invariant-loop-token : goal.invariant-loop-token
invariant-loop-token l = l.text.items ≡ l.fn.text.items ++ flat_map (λ t. after_spaces (token_words l.fn.spelling t)) (take l.token-index l.tokens)
