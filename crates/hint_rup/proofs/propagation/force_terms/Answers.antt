use Rattle.std.proofs.Common.{◌≡◌, ◌<◌, ◌≤◌, ◌∙◌, ap, sym, subst, get_or, length, length-set, arith}
use Rattle.std.proofs.lemmas.Option.{get_or_from_slice_get, slice_get_within}
use Rattle.pb_lin.specs.Propagation.{is_forced}
use Rattle.pb_lin.proofs.AtPlace.{All_place}
use Rattle.hint_rup.proofs.ForcedLiterals.{test_is, goes_on_set, goes_on_same, forced_by_all}
use Rattle.hint_rup.proofs.propagation.force_terms.Goals as goal
use Rattle.hint_rup.proofs.propagation.force_terms.Goals.{then-is_forced, else-is_forced}

pub is_forced-requires : goal.is_forced-requires
is_forced-requires c = subst (λ n. c.term-term.result.0.var ≤ n) (sym c.loop-at.invariant.length) (All_place (λ t. t.0.var ≤ length c.args.scratch.now) c.args.line.now.terms c.loop-at.at c.term-term.result c.requires.within c.term-term.ensures)

pub loop-at-preserved : goal.loop-at-preserved
loop-at-preserved c =
    let p = c.args.scratch.now in
    let q = c.loop-at.scratch in
    let line = c.args.line.now in
    let i = c.loop-at.at in
    let t = c.term-term.result in
    let within : i < length line.terms = slice_get_within line.terms i t c.term-term.ensures in
    let is : t ≡ get_or line.terms i t = sym (get_or_from_slice_get line.terms i t t c.term-term.ensures) in
    let test : c.is_forced.result ≡ is_forced p line t =
    test_is p q line i t c.args.line_slack c.is_forced.result c.len-at-end.ensures.normal.merged within is c.loop-at.invariant.forced c.requires.slack c.is_forced.ensures.value in
    elim c.if-is_forced.branch [
      | then-is_forced w ↦ record {
        forced = w.scratch-is ∙ w.set.ensures ∙ goes_on_set p q line i t within is c.loop-at.invariant.forced (sym test ∙ w.if-is_forced.true);
        length = ap length (w.scratch-is ∙ w.set.ensures) ∙ length-set q _ _ ∙ c.loop-at.invariant.length;
      }
      | else-is_forced w ↦ record {
        forced = w.scratch-is ∙ goes_on_same p q line i t within is c.loop-at.invariant.forced (sym test ∙ w.if-is_forced.false);
        length = ap length w.scratch-is ∙ c.loop-at.invariant.length;
      }
    ]

pub returns-clause-forced : goal.returns-clause-forced
returns-clause-forced c =
    let past : length c.args.line.now.terms ≤ c.loop-at.at = omega (arith, c.len-at-end.ensures.value) in
    forced_by_all c.args.scratch.now c.loop-at.scratch c.args.line.now c.loop-at.at past c.loop-at.invariant.forced
