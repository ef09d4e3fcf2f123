use Rattle.std.proofs.Common.{refl}
use Rattle.std.proofs.lemmas.Bool.{false≢true}
use Rattle.proof_laws.specs.WellFormed.{IsVariable}
use Rattle.proof_lines.specs.LineText.{literal_word}
use Rattle.proof_lines.proofs.Codes.{literal_code}
use Rattle.proof_lines.proofs.WordParts.{one_word_more, part_unread}
use Rattle.proof_lines.proofs.lists.read_literals.Goals as goal

pub loop-words-preserved : goal.loop-words-preserved
loop-words-preserved c = one_word_more literal_word (λ l. IsVariable l.var) c.args.words.now c.loop-words.words c.take_literal.new.words c.loop-words.lits c.push.new.self c.in-Some.lit (literal_word c.in-Some.lit) c.loop-words.invariant c.in-Some.ensures.1 (c.in-Some.ensures.0, refl) c.in_ok-push-in-Some.ensures.ok

pub returns-in-None : goal.returns-in-None
returns-in-None c = part_unread literal_word (λ l. IsVariable l.var) literal_code c.args.words.now c.loop-words.words c.take_literal.new.words c.take_literal.new.words c.loop-words.lits c.loop-words.invariant (λ ended. absurd (false≢true (c.loop-words-test.ensures.1 ended))) c.in-None.ensures
