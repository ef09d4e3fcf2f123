use Rattle.std.proofs.Common.{◌≡◌, ◌≤◌, ◌∙◌, ap, sym, ℕ, get_or, length, length-set, arith}
use Rattle.std.specs.Option.{is_none}
use Rattle.std.proofs.lemmas.List.{get_or_default, length-map}
use Rattle.scut_base.specs.Literal.{Literal}
use Rattle.scut_base.specs.Assignment.{partial_truth}
use Rattle.pb_lin.specs.Propagation.{is_forced}
use Rattle.hint_rup.specs.Propagation.{with_true}
use Rattle.hint_rup.proofs.ForcedLiterals.{literal_at, test_at_zero, goes_on_set, goes_on_same, forced_by_all}
use Rattle.hint_rup.proofs.propagation.force_literals.Goals as goal
use Rattle.hint_rup.proofs.propagation.force_literals.Goals.{then-is_open, else-is_open}

pub is_open-requires : goal.is_open-requires
is_open-requires c =
    let l = c.lit-item.result in
    let at = literal_at c.args.line.now.terms c.literals-lit-items.result.now c.loop-lit.lit-index l c.literals-lit-items.ensures.value c.loop-lit-test.true c.lit-item.is in
    let upto = c.requires.within c.loop-lit.lit-index (l, 1) at.0 in
    let same = ap (λ (m : Literal). m.var) at.1 in
    omega (arith, c.loop-lit.invariant.length)

pub set-requires-clause-within : goal.set-requires-clause-within
set-requires-clause-within c =
    let l = c.lit-item.result in
    let at = literal_at c.args.line.now.terms c.literals-lit-items.result.now c.loop-lit.lit-index l c.literals-lit-items.ensures.value c.loop-lit-test.true c.lit-item.is in
    let upto = c.requires.within c.loop-lit.lit-index (l, 1) at.0 in
    let same = ap (λ (m : Literal). m.var) at.1 in
    omega (arith, c.loop-lit.invariant.length)

pub loop-lit-preserved : goal.loop-lit-preserved
loop-lit-preserved c =
    let p = c.args.scratch.now in
    let q = c.loop-lit.scratch in
    let line = c.args.line.now in
    let i = c.loop-lit.lit-index in
    let l = c.lit-item.result in
    let at = literal_at line.terms c.literals-lit-items.result.now i l c.literals-lit-items.ensures.value c.loop-lit-test.true c.lit-item.is in
    let t : Literal × ℕ = get_or c.args.line.now.terms c.loop-lit.lit-index (c.lit-item.result, 1) in
    let is : t ≡ get_or line.terms i t = get_or_default line.terms i (l, 1) t at.0 in
    let test : c.is_open.result ≡ is_forced p line t =
    test_at_zero p q line i t c.is_open.result c.literals-lit-items.ensures.normal.merged at.0 is c.loop-lit.invariant.forced c.requires.slack (c.requires.ones i (l, 1) at.0) (c.is_open.ensures ∙ ap (λ (m : Literal). is_none (partial_truth q m)) at.1) in
    elim c.if-is_open.branch [
      | then-is_open w ↦ record {
        forced = w.scratch-is ∙ w.set.ensures ∙ ap (with_true q) at.1 ∙ goes_on_set p q line i t at.0 is c.loop-lit.invariant.forced (sym test ∙ w.if-is_open.true);
        length = ap length (w.scratch-is ∙ w.set.ensures) ∙ length-set q _ _ ∙ c.loop-lit.invariant.length;
      }
      | else-is_open w ↦ record {
        forced = w.scratch-is ∙ goes_on_same p q line i t at.0 is c.loop-lit.invariant.forced (sym test ∙ w.if-is_open.false);
        length = ap length w.scratch-is ∙ c.loop-lit.invariant.length;
      }
    ]

pub returns-clause-forced : goal.returns-clause-forced
returns-clause-forced c =
    let long : length c.literals-lit-items.result.now ≡ length c.args.line.now.terms = ap length c.literals-lit-items.ensures.value ∙ length-map c.args.line.now.terms (λ t. t.0) in
    let past : length c.args.line.now.terms ≤ c.loop-lit.lit-index = omega arith in
    forced_by_all c.args.scratch.now c.loop-lit.scratch c.args.line.now c.loop-lit.lit-index past c.loop-lit.invariant.forced
