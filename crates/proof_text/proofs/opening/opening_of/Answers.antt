use Rattle.std.proofs.Common.{List, ℕ, ◌++◌, ap, subst, sym, ◌∙◌}
use Rattle.std.proofs.lemmas.List.{take_rest}
use Rattle.proof_text.specs.Cutting.{IsOpening, rows_words}
use Rattle.proof_text.proofs.Openings.{neither, part_one, part_two, rows_left}
use Rattle.proof_text.proofs.opening.opening_of.Goals as goal
use Rattle.proof_text.proofs.opening.opening_of.Goals.{then-begins_with-2-via-then-begins_with-2, then-begins_with-2-via-else-begins_with-2+then-begins_with-3}

pub returns-then-begins_with-2 : goal.returns-then-begins_with-2
returns-then-begins_with-2 c =
    elim c.then-begins_with-2.branch [
      | then-begins_with-2-via-then-begins_with-2 w ↦ part_one c.args.bytes.now w.if-begins_with-2.ensures
      | then-begins_with-2-via-else-begins_with-2+then-begins_with-3 w ↦ part_two c.args.bytes.now w.if-begins_with-3.ensures
    ]

pub returns-then-begins_with-4 : goal.returns-then-begins_with-4
returns-then-begins_with-4 c =
    let bytes = c.args.bytes.now in
    subst (λ (t : List ℕ). IsOpening c.opening_of_rows.result t)
    (ap (λ (t : List ℕ). rows_words ++ t) (take_rest bytes 29) ∙ sym (rows_left bytes c.if-begins_with-4.ensures))
    c.opening_of_rows.ensures

pub returns : goal.returns
returns c = neither c.args.bytes.now c.if-begins_with.ensures c.if-begins_with-2.ensures c.if-begins_with-3.ensures c.if-begins_with-4.ensures
