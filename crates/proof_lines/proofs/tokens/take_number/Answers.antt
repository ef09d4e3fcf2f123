use Rattle.std.proofs.Common.{[], ◌∷◌, sym, subst, ◌∙◌, arith}
use Rattle.std.proofs.lemmas.Bool.{false≢true}
use Rattle.proof_lines.specs.Reading.{BeginsWith}
use Rattle.proof_lines.proofs.TokenParts.{number_wrong}
use Rattle.proof_lines.proofs.tokens.take_number.Goals as goal

pub returns-then-number-from : goal.returns-then-number-from
returns-then-number-from c = number_wrong c.args.spelling c.requires.spelling c.args.number c.args.words.now (λ below digits. omega arith) c.requires.small c.if-skip.ensures.1 (λ begins. c.if-skip-2.ensures.1 (subst (BeginsWith (100 ∷ [])) (sym c.if-skip.ensures.0) begins))

pub returns-then-is_back : goal.returns-then-is_back
returns-then-is_back c = number_wrong c.args.spelling c.requires.spelling c.args.number c.args.words.now (λ below digits. absurd (false≢true (sym digits ∙ sym c.is_back.ensures ∙ c.if-is_back.true))) c.requires.small c.if-skip.ensures.1 (λ begins. c.if-skip-2.ensures.1 (subst (BeginsWith (100 ∷ [])) (sym c.if-skip.ensures.0) begins))
