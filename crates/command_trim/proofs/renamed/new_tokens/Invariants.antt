use Rattle.std.proofs.Common.{◌≡◌, map, take}
use Rattle.command_trim.specs.Renames.{renaming}
use Rattle.command_trim.specs.Trimmed.{new_token}
use Rattle.command_trim.proofs.renamed.new_tokens.Given as goal

abbrev pub invariant-loop-token : goal.invariant-loop-token
invariant-loop-token l = l.new ≡ map (new_token (renaming l.renames)) (take l.token-index l.tokens)
