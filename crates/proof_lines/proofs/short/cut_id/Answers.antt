use Rattle.std.proofs.Common.{◌≡◌, [], ◌∷◌, rules, subst, sym}
use Rattle.proof_laws.specs.WellFormed.{IsId}
use Rattle.proof_lines.specs.declared.spelling.Spelling.{Spelling}
use Rattle.proof_lines.specs.declared.spelling.Spelling.TheVariants.{Plain}
use Rattle.proof_lines.specs.Ids.{id_word}
use Rattle.proof_lines.proofs.ShortWords.{Cut, plain_cut}
use Rattle.proof_lines.proofs.short.cut_id.Goals as goal

pub returns-in-Plain : goal.returns-in-Plain
returns-in-Plain c =
    let is : c.args.spelling ≡ Plain = search rules in
    subst (λ (s : Spelling). Cut (λ id. id_word s id ∷ []) IsId c.args.text.now c.cut_number.result) (sym is) (plain_cut c.args.text.now c.cut_number.result c.cut_number.ensures)
