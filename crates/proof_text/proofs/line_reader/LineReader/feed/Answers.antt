use Rattle.std.proofs.Common.{◌≡◌, true, List, ℕ, ◌++◌, None, ap, ◌∙◌, rules}
use Rattle.std.specs.Option.{is_some}
use Rattle.proof_laws.specs.declared.line.Line.{Line}
use Rattle.proof_text.specs.Reading.{ReaderValue}
use Rattle.proof_text.proofs.Readings.{fed_more, fed_wrong, ok_then}
use Rattle.proof_text.proofs.line_reader.LineReader.feed.Goals as goal

pub returns-then-is_some-clause-fed : goal.returns-then-is_some-clause-fed
returns-then-is_some-clause-fed c bytes lines stands =
    let some : is_some c.args.self.now.wrong ≡ true = search rules in
    fed_wrong c.args.self.now bytes c.args.piece.now lines some stands

pub returns-then-is_some-2-clause-fed : goal.returns-then-is_some-2-clause-fed
returns-then-is_some-2-clause-fed c =
    let old = c.args.self.now in
    let view = c.self.view_is in
    let sound : old.wrong ≡ None = search rules in
    let some : is_some old.begun ≡ true = search rules in
    ok_then c.extend.result _ _ c.extend.ensures.ok (λ longer. fed_more old _ c.args.piece.now sound some
    (ap (λ (r : ReaderValue). r.given) view)
    (ap (λ (r : ReaderValue). r.begun) view)
    (longer ∙ ap (λ (r : ReaderValue). r.rest ++ c.args.piece.now) view)
    (ap (λ (r : ReaderValue). r.wrong) view))
