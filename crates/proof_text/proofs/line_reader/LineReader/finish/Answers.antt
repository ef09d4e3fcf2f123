use Rattle.std.proofs.Common.{◌≡◌, ◌+◌, ℕ, List, None, Some, inr, subst, sym, ap, ◌∙◌, rules}
use Rattle.proof_text.specs.LogText.{IsWholeLines, IsHeaderPart, IsUnfinishedAt, newlines}
use Rattle.proof_text.specs.Reading.{ReaderValue}
use Rattle.proof_text.proofs.Readings.{begun_some, unbegun_part, ends_early, ends_well, ends_badly}
use Rattle.proof_text.proofs.line_reader.LineReader.finish.Goals as goal

pub returns-then-is_none-clause-syntax : goal.returns-then-is_none-clause-syntax
returns-then-is_none-clause-syntax c k e bytes lines stands =
    let r = c.args.self.now in
    let sound : r.wrong ≡ None = search rules in
    let unbegun : r.begun ≡ None = search rules in
    let part : IsHeaderPart r.rest = unbegun_part r unbegun (rw (← c.self.view_is) c.self.invariant) in
    let number : 1 ≡ k = cc in
    inr (subst (λ (j : ℕ). IsUnfinishedAt bytes j) number (ends_early r sound unbegun part bytes lines stands))

pub returns-then-ends_whole-clause-whole : goal.returns-then-ends_whole-clause-whole
returns-then-ends_whole-clause-whole c ok bytes lines stands =
    let r = c.args.self.now in
    let sound : r.wrong ≡ None = search rules in
    let begun = begun_some r.begun (search rules) in
    let whole : IsWholeLines r.rest = search rules in
    ends_well r sound begun.0 begun.1 whole bytes lines stands

pub returns-in-Some-line_after-clause-syntax : goal.returns-in-Some-line_after-clause-syntax
returns-in-Some-line_after-clause-syntax c k e bytes lines stands =
    let r = c.args.self.now in
    let s = c.self.inside in
    let sound : r.wrong ≡ None = search rules in
    let begun = begun_some r.begun (search rules) in
    let same : c.in-Some-line_after.line ≡ k = cc in
    let number = ap (λ (v : ReaderValue). v.given + newlines v.rest + 2) (sym c.self.view_is) ∙ ap (λ (t : List ℕ). s.given + newlines t + 2) (sym c.as_slice-2.ensures) ∙ sym c.in-Some-line_after.ensures ∙ same in
    let rest = c.as_slice.ensures ∙ ap (λ (v : ReaderValue). v.rest) c.self.view_is in
    let ragged = λ (whole : IsWholeLines r.rest). c.if-ends_whole.ensures (subst (λ (t : List ℕ). IsWholeLines t) (sym rest) whole) in
    inr (subst (λ (j : ℕ). IsUnfinishedAt bytes j) number (ends_badly r sound begun.0 begun.1 ragged bytes lines stands))
