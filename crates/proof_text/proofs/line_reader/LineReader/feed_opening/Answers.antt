use Rattle.std.proofs.Common.{◌≡◌, ◌+◌, ◌++◌, List, ℕ, drop, refl, ap, subst, sym, ◌∙◌}
use Rattle.proof_text.specs.Versions.{header_line}
use Rattle.proof_text.specs.Cutting.{IsLineOf}
use Rattle.proof_text.specs.Reading.{ReaderValue}
use Rattle.proof_text.proofs.Readings.{fed_header, header_cut, no_part}
use Rattle.proof_text.proofs.line_reader.LineReader.feed_opening.Goals as goal

pub skip_line-requires : goal.skip_line-requires
skip_line-requires c =
    let opens = c.in-There.ensures in
    subst (λ (t : List ℕ). IsLineOf t c.in-There.len) c.as_slice.ensures (header_cut c.in-There.first c.as_slice.result.now c.in-There.len opens.1 opens.2).1

pub invariant_of-self-in-Wrong : goal.invariant_of-self-in-Wrong
invariant_of-self-in-Wrong c = no_part c.self.inside.begun (ap (λ (r : ReaderValue). r.begun) c.self.view_is ∙ c.requires.begun) c.forget.new.self c.forget.ensures

pub returns-in-There-clause-fed : goal.returns-in-There-clause-fed
returns-in-There-clause-fed c bytes lines stands =
    let old = c.args.self.now in
    let view = c.self.view_is in
    let opens = c.in-There.ensures in
    let len = c.in-There.len in
    let first = c.in-There.first in
    let cut = (header_cut first c.as_slice.result.now len opens.1 opens.2).0 in
    let all : old.rest ++ c.args.piece.now ≡ c.as_slice.result.now = ap (λ (r : ReaderValue). r.rest ++ c.args.piece.now) (sym view) ∙ sym c.in_ok-extend.ensures.ok ∙ sym c.as_slice.ensures in
    let left : drop (len + 1) c.as_slice.result.now ≡ c.skip_line.new.self = ap (drop (len + 1)) c.as_slice.ensures ∙ sym c.skip_line.ensures in
    fed_header old c.requires.sound c.requires.begun bytes c.args.piece.now lines stands _ first opens.0
    (ap (λ (r : ReaderValue). r.given) view)
    refl
    (all ∙ cut ∙ ap (λ (t : List ℕ). header_line first ++ t) left)
    (ap (λ (r : ReaderValue). r.wrong) view ∙ c.requires.sound)
