use Rattle.std.proofs.Common.{refl}
use Rattle.std.proofs.lemmas.Bool.{false≢true}
use Rattle.proof_laws.specs.WellFormed.{IsHint}
use Rattle.proof_lines.specs.LineText.{hint_word}
use Rattle.proof_lines.proofs.Codes.{hint_code}
use Rattle.proof_lines.proofs.WordParts.{one_word_more, part_unread, words_read}
use Rattle.proof_lines.proofs.hints.read_hints.Goals as goal

pub loop-spelling-init : goal.loop-spelling-init
loop-spelling-init c = words_read (hint_word c.args.spelling) IsHint c.args.words.now c.first_hints.new.words c.in_ok-hints.hints c.in_ok-hints.ensures

pub loop-spelling-preserved : goal.loop-spelling-preserved
loop-spelling-preserved c = one_word_more (hint_word c.args.spelling) IsHint c.args.words.now c.loop-spelling.words c.take_hint.new.words c.loop-spelling.hints c.push.new.self c.in-Some.hint (hint_word c.args.spelling c.in-Some.hint) c.loop-spelling.invariant c.in-Some.ensures.1 (c.in-Some.ensures.0, refl) c.in_ok-push-in-Some.ensures.ok

pub returns-in-None : goal.returns-in-None
returns-in-None c = part_unread (hint_word c.args.spelling) IsHint (hint_code c.args.spelling c.requires) c.args.words.now c.loop-spelling.words c.take_hint.new.words c.take_hint.new.words c.loop-spelling.hints c.loop-spelling.invariant (λ ended. absurd (false≢true (c.loop-spelling-test.ensures.1 ended))) c.in-None.ensures
