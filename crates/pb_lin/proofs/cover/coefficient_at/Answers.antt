use Rattle.std.proofs.Common.{◌≡◌, ℕ, true, false, arith, ap, sym, ◌∙◌, subst}
use Rattle.std.proofs.lemmas.Option.{get_or_from_slice_get, slice_get_within}
use Rattle.scut_base.specs.Literal.{Literal, is_same}
use Rattle.pb_lin.proofs.Coefficients.{coefficient_at, coefficient_none}
use Rattle.pb_lin.proofs.cover.coefficient_at.Goals as goal

pub returns-then-len-place : goal.returns-then-len-place
returns-then-len-place c = sym (coefficient_none c.args.c.now.terms c.args.literal c.args.place c.len.ensures.normal.merged.rising c.requires (λ d short. absurd (omega (arith, c.len.ensures.value))))

pub returns-then-eq : goal.returns-then-eq
returns-then-eq c =
    let terms = c.args.c.now.terms in
    let t = c.term-term.result in
    let here = get_or_from_slice_get terms c.args.place t t c.term-term.ensures in
    ap (λ (s : Literal × ℕ). s.1) (sym here)
    ∙ sym (coefficient_at terms c.args.literal c.args.place t c.len.ensures.normal.merged.rising c.requires (slice_get_within terms c.args.place t c.term-term.ensures)
    (subst (λ (s : Literal × ℕ). is_same s.0 c.args.literal ≡ true) (sym here) (sym c.eq.ensures ∙ c.if-eq.true)))

pub returns-else-eq : goal.returns-else-eq
returns-else-eq c =
    let terms = c.args.c.now.terms in
    let t = c.term-term.result in
    sym (coefficient_none terms c.args.literal c.args.place c.len.ensures.normal.merged.rising c.requires (λ d short.
    subst (λ (s : Literal × ℕ). is_same s.0 c.args.literal ≡ false) (sym (get_or_from_slice_get terms c.args.place t d c.term-term.ensures)) (sym c.eq.ensures ∙ c.if-eq.false)))
