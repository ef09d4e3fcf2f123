use Rattle.std.proofs.Common.{◌≡◌, sym, ◌∙◌, rules}
use Rattle.proof_laws.specs.WellFormed.{IsHint}
use Rattle.proof_lines.specs.LineText.{hint_word}
use Rattle.proof_lines.proofs.WordParts.{word_taken}
use Rattle.proof_lines.proofs.hints.take_hint.Goals as goal

pub returns : goal.returns
returns c =
    let same : c.short_id.new.self ≡ c.args.words.now = search rules in
    word_taken (hint_word c.args.spelling) IsHint c.args.words.now c.next.new.self c.in_ok-next.field-0.now c.hint_of.result (sym same ∙ c.in_ok-next.ensures) c.hint_of.ensures
