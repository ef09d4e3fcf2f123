use Rattle.std.proofs.Common.{◌≡◌, sym, ◌∙◌, rules}
use Rattle.proof_laws.specs.WellFormed.{IsVariable}
use Rattle.proof_lines.specs.LineText.{literal_word}
use Rattle.proof_lines.proofs.WordParts.{word_taken}
use Rattle.proof_lines.proofs.lists.take_literal.Goals as goal

pub returns : goal.returns
returns c =
    let same : c.short_literal.new.self ≡ c.args.words.now = search rules in
    word_taken literal_word (λ l. IsVariable l.var) c.args.words.now c.next.new.self c.in_ok-next.field-0.now c.literal_of.result (sym same ∙ c.in_ok-next.ensures) c.literal_of.ensures
