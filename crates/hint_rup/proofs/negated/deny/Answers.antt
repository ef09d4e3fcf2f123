use Rattle.std.proofs.Common.{◌≡◌, ◌∙◌, ap, sym, ℕ, get_or, length, length-set, arith}
use Rattle.std.specs.Option.{is_none}
use Rattle.std.proofs.lemmas.List.{get_or_default, length-map}
use Rattle.scut_base.specs.Literal.{Literal}
use Rattle.scut_base.specs.Assignment.{partial_truth}
use Rattle.pb_lin.specs.Constraint.{negation, opposite, opposite_terms}
use Rattle.pb_lin.specs.Propagation.{is_forced}
use Rattle.hint_rup.specs.Propagation.{with_true}
use Rattle.hint_rup.proofs.ClauseFates.{is_open_truth}
use Rattle.hint_rup.proofs.ForcedLiterals.{literal_at, test_at_zero, goes_on_set, goes_on_same, forced_by_all}
use Rattle.hint_rup.proofs.Negations.{merged_negation, none_where, opposite_at, opposite_is, opposite_ones, opposite_open}
use Rattle.hint_rup.proofs.negated.deny.Goals as goal
use Rattle.hint_rup.proofs.negated.deny.Goals.{then-is_none, else-is_none}

pub get-requires : goal.get-requires
get-requires c =
    let l = c.lit-item.result in
    let at = literal_at c.args.clause.now.terms c.literals-lit-items.result.now c.loop-lit.lit-index l c.literals-lit-items.ensures.value c.loop-lit-test.true c.lit-item.is in
    let upto = c.requires.within c.loop-lit.lit-index (l, 1) at.0 in
    let same = ap (λ (m : Literal). m.var) at.1 in
    omega (arith, c.loop-lit.invariant.length)

pub set-requires-clause-within : goal.set-requires-clause-within
set-requires-clause-within c =
    let l = c.lit-item.result in
    let at = literal_at c.args.clause.now.terms c.literals-lit-items.result.now c.loop-lit.lit-index l c.literals-lit-items.ensures.value c.loop-lit-test.true c.lit-item.is in
    let upto = c.requires.within c.loop-lit.lit-index (l, 1) at.0 in
    let same = ap (λ (m : Literal). m.var) at.1 in
    omega (arith, c.loop-lit.invariant.length, c.not.ensures.var)

pub set-requires-clause-open : goal.set-requires-clause-open
set-requires-clause-open c =
    let q = c.loop-lit.scratch in
    let l = c.lit-item.result in
    ap (partial_truth q) (opposite_is c.not.result l c.not.ensures.var c.not.ensures.neg)
    ∙ is_open_truth (partial_truth q (opposite l)) (sym (opposite_open q l) ∙ sym (ap is_none c.get.ensures) ∙ sym (none_where c.get.result c.is_none.result c.is_none.ensures) ∙ c.if-is_none.true)

pub loop-lit-preserved : goal.loop-lit-preserved
loop-lit-preserved c =
    let p = c.args.scratch.now in
    let q = c.loop-lit.scratch in
    let n = negation c.args.clause.now in
    let i = c.loop-lit.lit-index in
    let l = c.lit-item.result in
    let at = opposite_at c.args.clause.now.terms c.literals-lit-items.result.now i l c.literals-lit-items.ensures.value c.loop-lit-test.true c.lit-item.is in
    let t : Literal × ℕ = get_or (opposite_terms c.args.clause.now.terms) c.loop-lit.lit-index (opposite c.lit-item.result, 1) in
    let is : t ≡ get_or n.terms i t = get_or_default n.terms i (opposite l, 1) t at.0 in
    let test : c.is_none.result ≡ is_forced p n t =
    test_at_zero p q n i t c.is_none.result (merged_negation c.args.clause.now c.literals-lit-items.ensures.normal) at.0 is c.loop-lit.invariant.forced c.requires.slack (opposite_ones c.args.clause.now.terms c.requires.ones i (opposite l, 1) at.0)
    (none_where c.get.result c.is_none.result c.is_none.ensures ∙ ap is_none c.get.ensures ∙ opposite_open q l ∙ ap (λ (m : Literal). is_none (partial_truth q m)) at.1) in
    elim c.if-is_none.branch [
      | then-is_none w ↦ record {
        forced = w.scratch-is ∙ w.set.ensures ∙ ap (with_true q) (opposite_is w.not.result l w.not.ensures.var w.not.ensures.neg ∙ at.1) ∙ goes_on_set p q n i t at.0 is c.loop-lit.invariant.forced (sym test ∙ w.if-is_none.true);
        length = ap length (w.scratch-is ∙ w.set.ensures) ∙ length-set q _ _ ∙ c.loop-lit.invariant.length;
      }
      | else-is_none w ↦ record {
        forced = w.scratch-is ∙ goes_on_same p q n i t at.0 is c.loop-lit.invariant.forced (sym test ∙ w.if-is_none.false);
        length = ap length w.scratch-is ∙ c.loop-lit.invariant.length;
      }
    ]

pub returns-clause-forced : goal.returns-clause-forced
returns-clause-forced c =
    let terms = c.args.clause.now.terms in
    let long : length c.literals-lit-items.result.now ≡ length terms = ap length c.literals-lit-items.ensures.value ∙ length-map terms (λ t. t.0) in
    let same : length (opposite_terms terms) ≡ length terms = length-map terms (λ t. (opposite t.0, t.1)) in
    forced_by_all c.args.scratch.now c.loop-lit.scratch (negation c.args.clause.now) c.loop-lit.lit-index (omega arith) c.loop-lit.invariant.forced
