use Rattle.std.proofs.Common.{◌≡◌, ◌<◌, false, get_or, length, sym, ap, ◌∙◌, rules}
use Rattle.std.specs.List.{list_all}
use Rattle.std.proofs.lemmas.List.{get_or_read}
use Rattle.cutting_planes.specs.declared.token.PolToken.TheVariants.{Saturate}
use Rattle.command_trim.specs.Renames.{renaming}
use Rattle.command_trim.specs.Trimmed.{is_kept, token_ids}
use Rattle.command_trim.proofs.NewLines.{fails_at}
use Rattle.command_trim.proofs.renamed.are_kept.Goals as goal

pub returns-then-not-is_kept_token : goal.returns-then-not-is_kept_token
returns-then-not-is_kept_token c =
    let r = renaming c.args.renames.now in
    let short : c.loop-token.token-index < length c.args.tokens.now = search rules in
    let item = get_or_read c.args.tokens.now _ _ short c.token-item.is Saturate in
    let wrong : c.is_kept_token.result ≡ false = search rules in
    let here : list_all (is_kept r) (token_ids (get_or c.args.tokens.now c.loop-token.token-index Saturate)) ≡ false =
    ap (λ t. list_all (is_kept r) (token_ids t)) (sym item) ∙ sym c.is_kept_token.ensures ∙ wrong in
    sym (fails_at (is_kept r) token_ids c.args.tokens.now c.loop-token.token-index Saturate short here)
