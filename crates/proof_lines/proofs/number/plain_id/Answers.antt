use Rattle.std.proofs.Common.{◌≡◌, ◌^◌, arith, refl, sym, ◌∙◌}
use Rattle.std.specs.Fmt.{decimal}
use Rattle.std.proofs.lemmas.Bool.{false≢true}
use Rattle.proof_lines.proofs.Numbers.{not_plain, not_read, too_long, digits_spell, one_number}
use Rattle.proof_lines.proofs.number.plain_id.Goals as goal
use Rattle.proof_lines.proofs.number.plain_id.Goals.{then-word-gt-NARROW_DIGITS-via-then-word-gt-NARROW_DIGITS, then-word-gt-NARROW_DIGITS-via-else-word-gt-NARROW_DIGITS+then-not-is_plain}

pub returns-then-word-gt-NARROW_DIGITS : goal.returns-then-word-gt-NARROW_DIGITS
returns-then-word-gt-NARROW_DIGITS c = λ x below is.
    elim c.then-word-gt-NARROW_DIGITS.branch [
      | then-word-gt-NARROW_DIGITS-via-then-word-gt-NARROW_DIGITS w ↦ too_long c.args.word.now w.if-word-gt-NARROW_DIGITS.true x below is
      | then-word-gt-NARROW_DIGITS-via-else-word-gt-NARROW_DIGITS+then-not-is_plain w ↦ not_plain c.args.word.now (λ plain. absurd (false≢true (w.if-not-is_plain.ensures.1 plain))) x (omega arith) is
    ]

pub returns-in_err-id : goal.returns-in_err-id
returns-in_err-id c =
    rw c.from_residual.ensures (λ x below is. not_read (10 ^ 19) c.args.word.now c.in_err-id.ensures x (omega arith) (omega arith) is)

pub returns-then-id-gt-MAX_ID : goal.returns-then-id-gt-MAX_ID
returns-then-id-gt-MAX_ID c = λ x below is.
    let reads = c.in_ok-id.ensures in
    let spelled : c.args.word.now ≡ decimal c.in_ok-id.id = digits_spell c.args.word.now c.in_ok-id.id (c.if-not-is_plain.ensures.0 refl) reads.0 reads.1 (omega (arith, reads.2)) in
    let same : c.in_ok-id.id ≡ x = one_number c.in_ok-id.id x (omega (arith, reads.2)) (omega arith) (sym spelled ∙ is) in
    omega arith

pub returns : goal.returns
returns c =
    let reads = c.in_ok-id.ensures in
    (omega arith, digits_spell c.args.word.now c.in_ok-id.id (c.if-not-is_plain.ensures.0 refl) reads.0 reads.1 (omega (arith, reads.2)))
