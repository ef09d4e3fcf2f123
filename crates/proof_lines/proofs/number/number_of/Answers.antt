use Rattle.std.proofs.Common.{◌≡◌, ◌^◌, arith, refl, sym, ◌∙◌, ap}
use Rattle.std.specs.Fmt.{decimal}
use Rattle.std.proofs.lemmas.Bool.{false≢true}
use Rattle.proof_lines.proofs.Numbers.{not_plain, not_read, few_digits, digits_spell, wide_value}
use Rattle.proof_lines.proofs.number.number_of.Goals as goal

pub returns-then-not-is_plain : goal.returns-then-not-is_plain
returns-then-not-is_plain c = λ x below is. not_plain c.args.word.now (λ plain. absurd (false≢true (c.if-not-is_plain.ensures.1 plain))) x (omega arith) is

pub returns-then-word-gt-NARROW_DIGITS : goal.returns-then-word-gt-NARROW_DIGITS
returns-then-word-gt-NARROW_DIGITS c = wide_value c.args.word.now c.wide.result (c.if-not-is_plain.ensures.0 refl) c.wide.ensures

pub returns-in_err-number : goal.returns-in_err-number
returns-in_err-number c =
    rw c.from_residual.ensures (λ x below is. not_read (10 ^ 19) c.args.word.now c.in_err-number.ensures x (omega arith) (few_digits x c.args.word.now (omega arith) c.if-word-gt-NARROW_DIGITS.false is) is)

pub returns : goal.returns
returns c =
    let reads = c.in_ok-number.ensures in
    let same : c.from.result ≡ c.in_ok-number.number = c.from.ensures in
    (omega (arith, reads.2), digits_spell c.args.word.now c.in_ok-number.number (c.if-not-is_plain.ensures.0 refl) reads.0 reads.1 (omega (arith, reads.2)) ∙ ap decimal (sym same))
