use Rattle.std.proofs.Common.{◌≡◌, ◌++◌, map, rules, subst, sym}
use Rattle.std.specs.List.{All}
use Rattle.proof_laws.specs.WellFormed.{IsHint}
use Rattle.proof_lines.specs.LineText.{hint_word}
use Rattle.proof_lines.specs.declared.spelling.Spelling.{Spelling}
use Rattle.proof_lines.specs.declared.spelling.Spelling.TheVariants.{Plain}
use Rattle.std.specs.Prelude.{IfOk}
use Rattle.proof_lines.proofs.hints.first_hints.Goals as goal

pub returns-in-Plain : goal.returns-in-Plain
returns-in-Plain c =
    let is : c.args.spelling ≡ Plain = search rules in
    subst (λ (s : Spelling). IfOk c.plain_hints.result (λ hints. All IsHint hints × (c.args.words.now ≡ map (hint_word s) hints ++ c.plain_hints.new.self))) (sym is) c.plain_hints.ensures
