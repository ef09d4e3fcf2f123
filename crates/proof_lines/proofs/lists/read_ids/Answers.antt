use Rattle.std.proofs.Common.{refl}
use Rattle.std.proofs.lemmas.Bool.{false≢true}
use Rattle.proof_laws.specs.WellFormed.{IsId}
use Rattle.proof_lines.specs.Ids.{id_word}
use Rattle.proof_lines.proofs.Codes.{id_code}
use Rattle.proof_lines.proofs.WordParts.{one_word_more, part_unread}
use Rattle.proof_lines.proofs.lists.read_ids.Goals as goal

pub loop-spelling-preserved : goal.loop-spelling-preserved
loop-spelling-preserved c = one_word_more (id_word c.args.spelling) IsId c.args.words.now c.loop-spelling.words c.take_id.new.words c.loop-spelling.ids c.push.new.self c.in-Some.id (id_word c.args.spelling c.in-Some.id) c.loop-spelling.invariant c.in-Some.ensures.1 (c.in-Some.ensures.0, refl) c.in_ok-push-in-Some.ensures.ok

pub returns-in-None : goal.returns-in-None
returns-in-None c = part_unread (id_word c.args.spelling) IsId (id_code c.args.spelling c.requires) c.args.words.now c.loop-spelling.words c.take_id.new.words c.take_id.new.words c.loop-spelling.ids c.loop-spelling.invariant (λ ended. absurd (false≢true (c.loop-spelling-test.ensures.1 ended))) c.in-None.ensures
