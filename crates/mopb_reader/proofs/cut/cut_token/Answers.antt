use Rattle.std.proofs.Common.{◌≡◌, ◌∙◌, ℕ, true, false, get_or, length, [], ◌∷◌, refl, ap, sym, arith}
use Rattle.std.specs.List.{between}
use Rattle.std.specs.Char.{is_ascii_digit}
use Rattle.std.proofs.lemmas.Bool.Decides.{nat_tests}
use Rattle.std.proofs.lemmas.Slice.{first_rest}
use Rattle.instance.specs.declared.row.Rel.TheVariants.{Equal}
use Rattle.mopb_reader.specs.Lexemes.{Sign, Relation, Semicolon, Other}
use Rattle.mopb_reader.proofs.Cutting.{byte_first, other_alone, other_plain}
use Rattle.mopb_reader.proofs.cut.cut_token.Goals as goal

pub returns-in_default : goal.returns-in_default
returns-in_default c =
    let line = c.args.line.now in
    let b : ℕ = get_or line 0 0 in
    let plain : is_ascii_digit b ≡ false = sym c.is_ascii_digit.ensures.value ∙ c.if-is_ascii_digit.false in
    (Other b, other_alone line b (between 1 (length line) line) (first_rest line 0 c.requires.some) c.requires.token (λ t. absurd cc) (λ z. absurd (grind (arith, nat_tests))) (λ z. absurd (grind (arith, nat_tests))) (λ z. absurd (grind (arith, nat_tests))) (λ z. absurd (grind (arith, nat_tests))) (λ z. absurd (grind (arith, nat_tests))) (λ z. absurd (grind (arith, nat_tests))) (λ z. absurd (grind (arith, nat_tests))) (λ z. absurd (grind (arith, nat_tests))) (λ z. absurd (grind (arith, nat_tests))), ap (λ t. t ∷ []) (other_plain b (λ z. absurd (grind (arith, nat_tests))) (λ z. absurd (grind (arith, nat_tests)))), tt)

pub returns-in-43 : goal.returns-in-43
returns-in-43 c = (Sign false, byte_first c.args.line.now 43 (Sign false) c.requires.some c.in-43.is (λ _. refl), refl, tt)

pub returns-in-45 : goal.returns-in-45
returns-in-45 c = (Sign true, byte_first c.args.line.now 45 (Sign true) c.requires.some c.in-45.is (λ _. refl), refl, tt)

pub returns-in-59 : goal.returns-in-59
returns-in-59 c = (Semicolon, byte_first c.args.line.now 59 (Semicolon) c.requires.some c.in-59.is (λ _. refl), refl, tt)

pub returns-in-61 : goal.returns-in-61
returns-in-61 c = (Relation Equal, byte_first c.args.line.now 61 (Relation Equal) c.requires.some c.in-61.is (λ _. refl), refl, tt)
