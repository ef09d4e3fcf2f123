use Rattle.std.proofs.Common.{◌≡◌, ◌++◌, take}
use Rattle.std.specs.List.{flat_map}
use Rattle.command_trim.specs.Trimmed.{token_ids}
use Rattle.command_trim.proofs.ids.push_tokens.Given as goal

abbrev pub invariant-loop-token : goal.invariant-loop-token
invariant-loop-token l = l.ids ≡ l.fn.ids ++ flat_map token_ids (take l.token-index l.tokens)
