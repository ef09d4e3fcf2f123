use Rattle.std.proofs.Common.{◌≡◌, sym, ◌∙◌, arith}
use Rattle.proof_lines.proofs.Numbers.{one_number}
use Rattle.proof_text.proofs.opening.rows_of.Goals as goal

pub returns-then-rows-gt-MAX_ROWS : goal.returns-then-rows-gt-MAX_ROWS
returns-then-rows-gt-MAX_ROWS c = λ x small is.
    let reads = c.in_ok-rows.ensures in
    let same : c.in_ok-rows.rows ≡ x = one_number c.in_ok-rows.rows x (omega (arith, reads.0)) (omega (arith, small)) (sym reads.1 ∙ is) in
    omega (arith, same, small)
