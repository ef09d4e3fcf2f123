use Rattle.std.proofs.Common.{refl, arith}
use Rattle.std.specs.Fmt.{decimal}
use Rattle.hint_rup.specs.declared.hint.Hint.TheVariants.{Id}
use Rattle.proof_laws.specs.WellFormed.{IsHint}
use Rattle.proof_lines.specs.declared.spelling.Spelling.TheVariants.{Plain}
use Rattle.proof_lines.specs.LineText.{hint_word}
use Rattle.proof_lines.specs.Reading.{words_from, words_of}
use Rattle.proof_lines.proofs.WordParts.{one_word_more}
use Rattle.proof_lines.proofs.short.hints_from_start.Goals as goal

pub loop-at-preserved : goal.loop-at-preserved
loop-at-preserved c =
    let text = c.args.text.now in
    one_word_more (hint_word Plain) IsHint (words_of text) (words_from text c.loop-at.at) (words_from text c.in-Some.next) c.loop-at.hints c.push.new.self (Id c.in-Some.id) (decimal c.in-Some.id) c.loop-at.invariant c.in-Some.ensures.2 (omega (arith, c.in-Some.ensures.1), refl) c.in_ok-push.ensures.ok
