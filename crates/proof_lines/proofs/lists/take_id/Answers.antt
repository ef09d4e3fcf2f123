use Rattle.std.proofs.Common.{◌≡◌, sym, ◌∙◌, rules}
use Rattle.proof_laws.specs.WellFormed.{IsId}
use Rattle.proof_lines.specs.Ids.{id_word}
use Rattle.proof_lines.proofs.WordParts.{word_taken}
use Rattle.proof_lines.proofs.lists.take_id.Goals as goal

pub returns : goal.returns
returns c =
    let same : c.short_id.new.self ≡ c.args.words.now = search rules in
    word_taken (id_word c.args.spelling) IsId c.args.words.now c.next.new.self c.in_ok-next.field-0.now c.id_of.result (sym same ∙ c.in_ok-next.ensures) c.id_of.ensures
