use Rattle.std.proofs.Common.{◌≡◌, ◌<◌, List, sym, subst, ◌∙◌}
use Rattle.std.specs.List.{AllPairs}
use Rattle.std.proofs.lemmas.Bool.{false≢true}
use Rattle.scut_base.specs.Literal.{Literal}
use Rattle.proof_laws.specs.WellFormed.{IsVariable}
use Rattle.proof_lines.specs.LineText.{literal_word}
use Rattle.proof_lines.proofs.Codes.{literal_code}
use Rattle.proof_lines.proofs.WordParts.{only_part}
use Rattle.proof_lines.proofs.lists.read_rising_literals.Goals as goal

pub returns-then-not-variables_rise : goal.returns-then-not-variables_rise
returns-then-not-variables_rise c = λ x rest valid ends is.
    let same : x ≡ c.in_ok-lits.lits = only_part literal_word (λ l. IsVariable l.var) literal_code c.args.words.now c.read_literals.new.words c.in_ok-lits.lits c.in_ok-lits.ensures x rest valid.0 ends is in
    absurd (false≢true (c.if-not-variables_rise.ensures.1 (subst (λ (xs : List Literal). AllPairs (λ l m. l.var < m.var) xs) (same ∙ sym c.as_slice.ensures) valid.1)))
