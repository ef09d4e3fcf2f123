use Rattle.std.proofs.Common.{refl, sym, ◌∙◌}
use Rattle.std.proofs.lemmas.Bool.{false≢true}
use Rattle.proof_lines.proofs.LineReading.{body_spelled, body_syntax, no_kind, no_room}
use Rattle.proof_lines.proofs.reader.read_line.Goals as goal

pub returns-in_default-kind_of-clause-syntax : goal.returns-in_default-kind_of-clause-syntax
returns-in_default-kind_of-clause-syntax c = λ fault. no_kind c.args.spelling c.requires c.args.text.now c.in-Some.word.now c.next.new.self (sym c.new-words.ensures ∙ c.in-Some.ensures) c.in_default-kind_of.ensures

pub returns-clause-spelled : goal.returns-clause-spelled
returns-clause-spelled c = body_spelled c.args.spelling c.requires c.args.text.now c.in-Some.word.now c.next.new.self c.in-Some-kind_of.kind c.read_body.result (sym c.new-words.ensures ∙ c.in-Some.ensures) c.in-Some-kind_of.ensures.1 (c.if-not-has_room.ensures.0 refl) c.read_body.ensures

pub returns-clause-syntax : goal.returns-clause-syntax
returns-clause-syntax c = body_syntax c.args.spelling c.requires c.args.text.now c.in-Some.word.now c.next.new.self c.in-Some-kind_of.kind c.read_body.result (sym c.new-words.ensures ∙ c.in-Some.ensures) c.in-Some-kind_of.ensures.1 c.read_body.ensures

pub returns-then-not-has_room-clause-syntax : goal.returns-then-not-has_room-clause-syntax
returns-then-not-has_room-clause-syntax c = λ fault. no_room c.args.spelling c.requires c.args.text.now c.in-Some.word.now c.next.new.self c.in-Some-kind_of.kind (sym c.new-words.ensures ∙ c.in-Some.ensures) c.in-Some-kind_of.ensures.1 (λ room. absurd (false≢true (c.if-not-has_room.ensures.1 room)))
