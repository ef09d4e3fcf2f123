use Rattle.std.proofs.Common.{◌≡◌, ◌∙◌, sym, ap, length, arith}
use Rattle.std.specs.Prelude.{codes, slice_index}
use Rattle.std.proofs.lemmas.Bool.{ltb-true, ltb-false}
use Rattle.std.proofs.lemmas.Result.{IfErr-weaker}
use Rattle.mcnf_reader.proofs.StatementFaults.{soft_wrong, empty_letter}
use Rattle.mcnf_reader.proofs.line.read_statement.Goals.{in_default-via-then-first-lt1, in_default-via-else-first-lt1+then-first-lt2+in_default-1, in_default-via-else-first-lt1+else-first-lt2+in_default-1}
use Rattle.mcnf_reader.proofs.line.read_statement.Goals as goal

pub returns-in_default-clause-fault : goal.returns-in_default-clause-fault
returns-in_default-clause-fault c =
    let first = c.in-Some.first.now in
    let other : (slice_index first 0 ≡ 99 → ⊥) × (first ≡ codes "h" → ⊥) =
    elim c.in_default.branch [
      | in_default-via-then-first-lt1 w ↦ (λ e. omega (arith, empty_letter first (omega (arith, ltb-true))), λ e. omega (arith, ltb-true, ap length e))
      | in_default-via-else-first-lt1+then-first-lt2+in_default-1 w ↦ (λ e. omega arith, λ e. omega (arith, ap (λ x. slice_index x 0) e))
      | in_default-via-else-first-lt1+else-first-lt2+in_default-1 w ↦ (λ e. omega arith, λ e. omega (arith, ltb-false, ap length e))
    ] in
    IfErr-weaker c.read_soft.result _ _ (λ f wrong. soft_wrong c.args.sums.now _ c.next.new.self first f (sym c.new-words.ensures ∙ c.in-Some.ensures) other.0 other.1 wrong) c.read_soft.ensures.fault
