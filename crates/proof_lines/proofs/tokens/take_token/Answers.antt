use Rattle.std.proofs.Common.{ℕ, List, ◌∷◌, sym, subst}
use Rattle.proof_lines.specs.Reading.{TakesToken}
use Rattle.proof_lines.proofs.TokenParts.{id_taken}
use Rattle.proof_lines.proofs.tokens.take_token.Goals as goal

pub returns-in-Some-literal_of : goal.returns-in-Some-literal_of
returns-in-Some-literal_of c = subst (λ (w : List ℕ). TakesToken c.args.spelling (w ∷ c.args.words.now) c.take_literal.new.words c.take_literal.result) (sym c.in-Some-literal_of.ensures.1) (c.take_literal.ensures c.args.spelling)

pub returns : goal.returns
returns c = id_taken c.args.spelling c.requires c.args.word.now c.args.words.now c.take_back.new.words c.take_back.result c.in_default.ensures c.in_default-literal_of.ensures c.in_default-symbol_of.ensures c.take_back.ensures
