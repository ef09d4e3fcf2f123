use Rattle.std.proofs.Common.{◌≡◌, take, true}
use Rattle.std.specs.List.{flat_map, list_all}
use Rattle.command_trim.specs.Renames.{renaming}
use Rattle.command_trim.specs.Trimmed.{is_kept, token_ids}
use Rattle.command_trim.proofs.renamed.are_kept.Given as goal

abbrev pub invariant-loop-token : goal.invariant-loop-token
invariant-loop-token l = list_all (is_kept (renaming l.renames)) (flat_map token_ids (take l.token-index l.tokens)) ≡ true
