use Rattle.std.proofs.Common.{refl}
use Rattle.proof_lines.proofs.TokenParts.{one_token_more, no_token_here, no_tokens}
use Rattle.proof_lines.proofs.tokens.read_tokens.Goals as goal

pub loop-word-preserved : goal.loop-word-preserved
loop-word-preserved c = one_token_more c.args.spelling c.requires c.args.words.now c.loop-word.words c.next_in_part.new.self c.take_token.new.words c.loop-word.tokens c.push.new.self c.in-Some.word.now c.in-Some-take_token.token c.loop-word.invariant c.in-Some.ensures.0 c.in-Some-take_token.ensures c.in_ok-push-in-Some-take_token.ensures.ok

pub returns-in-None : goal.returns-in-None
returns-in-None c = no_token_here c.args.spelling c.requires c.args.words.now c.loop-word.words c.next_in_part.new.self c.take_token.new.words c.loop-word.tokens c.in-Some.word.now c.loop-word.invariant c.in-Some.ensures.0 c.in-Some.ensures.1 c.in-None.ensures

pub returns-then-is_empty : goal.returns-then-is_empty
returns-then-is_empty c = no_tokens c.args.spelling c.requires c.args.words.now c.loop-word.words c.loop-word.tokens c.loop-word.invariant (c.if-is_empty.ensures.0 refl) c.in_default.ensures.1
