use Rattle.std.proofs.Common.{◌∷◌, sym, ap, ◌∙◌, arith}
use Rattle.std.specs.Fmt.{decimal}
use Rattle.proof_lines.proofs.ShortWords.{from_within}
use Rattle.proof_lines.proofs.short.cut_number.Goals as goal

pub returns : goal.returns
returns c =
    let read = c.in_ok-number.ensures in
    (read.1, sym (from_within c.args.text.now 0 (omega arith)) ∙ read.2 ∙ ap (λ ws. decimal c.in_ok-number.number ∷ ws) (sym c.rest_from.ensures))
