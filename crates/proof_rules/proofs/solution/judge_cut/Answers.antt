use Rattle.std.proofs.Common.{◌≡◌, ℕ, ◌+◌, ◌≤◌, Some, None, [], ◌∷◌, map, length, get_or, refl, arith, sym, subst, ◌∙◌}
use Rattle.std.specs.List.{AllPairs}
use Rattle.std.proofs.lemmas.Result.{err_from_is_err_and}
use Rattle.scut_base.specs.Literal.{Literal}
use Rattle.pb_lin.specs.Constraint.{opposite}
use Rattle.proof_laws.specs.Refusal.{IsCutFault}
use Rattle.proof_laws.specs.declared.why.Why.TheVariants.{CutOpen}
use Rattle.proof_rules.proofs.Cuts.{cut_passes, cut_stops, cut_long, cut_done, opposites_distinct}
use Rattle.proof_rules.proofs.Verdicts.{stopped}
use Rattle.proof_rules.proofs.solution.judge_cut.Goals as goal

pub judge_bound-requires-clause-distinct : goal.judge_bound-requires-clause-distinct
judge_bound-requires-clause-distinct c = subst (AllPairs {X = Literal} (λ l m. l.var ≡ m.var → ⊥)) (sym (c.deref.ensures.value ∙ c.in_ok-truths.ensures)) (opposites_distinct c.args.cut.now c.requires.rising)

pub loop-at-preserved : goal.loop-at-preserved
loop-at-preserved c =
    let r = c.index-costs-at.result in
    let id = get_or c.args.ids.now c.loop-at.at 0 in
    let same : c.deref.result.now ≡ map opposite c.args.cut.now = c.deref.ensures.value ∙ c.in_ok-truths.ensures in
    record {
      rest = λ fault is. c.loop-at.invariant.rest fault (cut_passes c.args.lines.now c.args.cut.now c.args.a.now c.args.costs.now c.args.ids.now c.loop-at.at r r c.loop-at-test.true c.index-costs-at.is id 0 c.if-at-ids.false refl (c.in_ok-judge_bound.ensures c.args.cut.now same) fault is);
      costs = omega arith;
      ids = omega arith;
    }

pub returns-in_err-judge_bound : goal.returns-in_err-judge_bound
returns-in_err-judge_bound c =
    let r = c.index-costs-at.result in
    let id = get_or c.args.ids.now c.loop-at.at 0 in
    let same : c.deref.result.now ≡ map opposite c.args.cut.now = c.deref.ensures.value ∙ c.in_ok-truths.ensures in
    let p = err_from_is_err_and c.from_residual-in_err-judge_bound.result c.from_residual-in_err-judge_bound.ensures.1 in
    rw (p.1, p.2)
    (stopped (Unit {0}) (Unit {0}) (IsCutFault c.args.lines.now c.args.cut.now c.args.a.now (c.loop-at.at + 1) (r ∷ []) (id ∷ [])) (IsCutFault c.args.lines.now c.args.cut.now c.args.a.now 1 c.args.costs.now c.args.ids.now)
    (λ why is. c.loop-at.invariant.rest (Some why) (cut_stops c.args.lines.now c.args.cut.now c.args.a.now c.args.costs.now c.args.ids.now c.loop-at.at r r c.loop-at-test.true c.index-costs-at.is id 0 c.if-at-ids.false refl why is))
    c.in_err-judge_bound.field-0.0 (c.in_err-judge_bound.ensures c.args.cut.now same))

pub returns-then-ids-costs : goal.returns-then-ids-costs
returns-then-ids-costs c =
    let within = c.loop-at.invariant.costs in
    let past = c.loop-at-test.false in
    let last : c.loop-at.at ≡ length c.args.costs.now = omega arith in
    subst (λ (n : ℕ). IsCutFault c.args.lines.now c.args.cut.now c.args.a.now 1 c.args.costs.now c.args.ids.now (Some (CutOpen (n + 1)))) last
    (c.loop-at.invariant.rest (Some (CutOpen (c.loop-at.at + 1))) (cut_long c.args.lines.now c.args.cut.now c.args.a.now c.args.costs.now c.args.ids.now c.loop-at.at past (omega (arith, c.if-ids-costs.true))))

pub returns : goal.returns
returns c =
    let past = c.loop-at-test.false in
    let few : length c.args.ids.now ≤ c.loop-at.at = omega (arith, c.if-ids-costs.false) in
    c.loop-at.invariant.rest None (cut_done c.args.lines.now c.args.cut.now c.args.a.now c.args.costs.now c.args.ids.now c.loop-at.at past few)
