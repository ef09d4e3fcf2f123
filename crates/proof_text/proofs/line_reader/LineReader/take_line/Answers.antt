use Rattle.std.proofs.Common.{◌≡◌, ℕ, List, Some, take, drop, ◌+◌, subst, ap, ◌∙◌, sym, rules}
use Rattle.proof_lines.specs.Ids.{after_line}
use Rattle.proof_lines.specs.LineText.{SpellsLine, SpellsNoLine}
use Rattle.proof_text.specs.Reading.{ReaderValue}
use Rattle.proof_text.proofs.Readings.{given_line, wrong_line}
use Rattle.proof_text.proofs.line_reader.LineReader.take_line.Goals as goal

pub returns-in-Ok-clause-next : goal.returns-in-Ok-clause-next
returns-in-Ok-clause-next c =
    let old = c.args.self.now in
    let len = c.args.len in
    let view = c.self.view_is in
    let spells : SpellsLine c.args.spelling (take len old.rest) c.in-Ok.line = subst (λ (t : List ℕ). SpellsLine c.args.spelling (take len t) c.in-Ok.line) (c.as_slice.ensures ∙ ap (λ (r : ReaderValue). r.rest) view) c.in-Ok.ensures.spelled in
    given_line old c.requires.sound c.args.spelling c.requires.begun len c.requires.line _ c.in-Ok.line spells
    (ap (λ (r : ReaderValue). r.given + 1) view)
    (ap Some c.after_line.ensures.value)
    (c.skip_line.ensures ∙ ap (λ (r : ReaderValue). drop (len + 1) r.rest) view)
    (ap (λ (r : ReaderValue). r.wrong) view)

pub returns-in-Err-Syntax-clause-syntax : goal.returns-in-Err-Syntax-clause-syntax
returns-in-Err-Syntax-clause-syntax c k e bytes lines stands =
    let old = c.args.self.now in
    let len = c.args.len in
    let view = c.self.view_is in
    let lacks : SpellsNoLine c.args.spelling (take len old.rest) = subst (λ (t : List ℕ). SpellsNoLine c.args.spelling (take len t)) (c.as_slice.ensures ∙ ap (λ (r : ReaderValue). r.rest) view) (c.in-Err-Syntax.ensures.syntax (search rules)) in
    wrong_line old c.requires.sound c.args.spelling c.requires.begun len c.requires.line _ k lacks
    (ap (λ (r : ReaderValue). r.given) view)
    (search rules)
    (search rules)
    bytes lines stands
