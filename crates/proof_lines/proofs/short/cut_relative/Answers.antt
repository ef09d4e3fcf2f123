use Rattle.std.proofs.Common.{◌∷◌, sym, ap, ◌∙◌, arith}
use Rattle.std.specs.Option.{option_copied}
use Rattle.proof_lines.specs.declared.spelling.Spelling.TheVariants.{Relative}
use Rattle.proof_lines.specs.Reading.{words_left}
use Rattle.proof_lines.proofs.IdWords.{below_next, digits_word}
use Rattle.proof_lines.proofs.ShortWords.{back_first}
use Rattle.proof_lines.proofs.short.cut_relative.Goals as goal

pub returns-in-45 : goal.returns-in-45
returns-in-45 c =
    let back = c.in_ok-id.ensures in
    let range = below_next c.args.rows c.args.next_id c.in_ok-id.id back.0 in
    (omega (arith, range.1, c.requires), back_first c.args.rows c.args.next_id c.in_ok-id.id c.in_ok-distance.distance c.args.text.now (words_left (option_copied c.in_ok-distance.rest)) back.0 back.1 (omega arith) c.in_ok-distance.ensures.1)

pub returns : goal.returns
returns c =
    let number = c.in_ok-plain.ensures in
    (omega (arith, number.0), number.1 ∙ ap (λ w. w ∷ words_left (option_copied c.in_ok-plain.left)) (sym (digits_word (Relative c.args.rows c.args.next_id) c.in_ok-plain.plain (sym c.is_made.ensures ∙ c.if-is_made.false))))
