use Rattle.std.proofs.Common.{List, refl, subst, ap, ◌∙◌}
use Rattle.std.proofs.lemmas.Result.{err_from_is_err_and}
use Rattle.std.specs.FinMap.{get, entries}
use Rattle.pb_lin.specs.LineMap.{LineMap, IsNextAbove, NoneAbove}
use Rattle.proof_laws.specs.State.{StateValue}
use Rattle.proof_laws.specs.Substituted.{Requirement, touched_hold}
use Rattle.proof_rules.specs.Verdict.{above, line_at}
use Rattle.proof_rules.proofs.FirstFaults.{RestDecides, decides_all, decides_more, decided_end, decided_fault}
use Rattle.proof_rules.proofs.LiveWalk.{walk_end}
use Rattle.proof_rules.proofs.RequirementLists.{lines_more}
use Rattle.proof_rules.proofs.Untouched.{lines_hold, no_images}
use Rattle.proof_rules.proofs.substitution.judge_lines_above.Goals as goal

pub loop-next-init : goal.loop-next-init
loop-next-init c =
    let s = c.args.reached.now in
    record {
      length = refl;
      rest = decides_all s c.args.line.now.goal.now c.args.line.now.proofs.now (touched_hold c.args.line.now.witness.now (above c.args.first (entries s.live)));
    }

pub returns-in_err-judge_live-clause-verdict : goal.returns-in_err-judge_live-clause-verdict
returns-in_err-judge_live-clause-verdict c =
    let s = c.args.reached.now in
    let g = c.args.line.now.goal.now in
    let ps = c.args.line.now.proofs.now in
    let w = c.args.line.now.witness.now in
    let all = touched_hold w (above c.args.first (entries s.live)) in
    let next = c.in-Some.next in
    let live = ap (λ (t : StateValue). t.live) c.reached.view_is in
    let step = subst (λ (m : LineMap). IsNextAbove (get m) c.loop-next.id c.in-Some.next) live c.in-Some.ensures in
    let rest = subst (λ (qs : List Requirement). RestDecides s g ps qs all) (lines_more w s.live c.loop-next.id next step) c.loop-next.invariant.rest in
    let p = err_from_is_err_and c.from_residual.result c.from_residual.ensures.1 in
    rw (p.1, p.2) (decided_fault s g ps (touched_hold w (line_at s.live next)) (touched_hold w (above next (entries s.live))) all rest c.in_err-judge_live.field-0.0 c.in_err-judge_live.ensures.verdict)

pub loop-next-preserved : goal.loop-next-preserved
loop-next-preserved c =
    let s = c.args.reached.now in
    let g = c.args.line.now.goal.now in
    let ps = c.args.line.now.proofs.now in
    let w = c.args.line.now.witness.now in
    let all = touched_hold w (above c.args.first (entries s.live)) in
    let next = c.in-Some.next in
    let live = ap (λ (t : StateValue). t.live) c.reached.view_is in
    let step = subst (λ (m : LineMap). IsNextAbove (get m) c.loop-next.id c.in-Some.next) live c.in-Some.ensures in
    let rest = subst (λ (qs : List Requirement). RestDecides s g ps qs all) (lines_more w s.live c.loop-next.id next step) c.loop-next.invariant.rest in
    record {
      length = c.in_ok-judge_live.ensures.length ∙ c.loop-next.invariant.length;
      rest = decides_more s g ps (touched_hold w (line_at s.live next)) (touched_hold w (above next (entries s.live))) all rest c.in_ok-judge_live.ensures.verdict;
    }

pub returns-clause-verdict : goal.returns-clause-verdict
returns-clause-verdict c =
    let s = c.args.reached.now in
    let g = c.args.line.now.goal.now in
    let ps = c.args.line.now.proofs.now in
    let w = c.args.line.now.witness.now in
    let all = touched_hold w (above c.args.first (entries s.live)) in
    let live = ap (λ (t : StateValue). t.live) c.reached.view_is in
    let none = subst (λ (m : LineMap). NoneAbove (get m) c.loop-next.id) live c.in_default.ensures in
    decided_end s g ps all (subst (λ (qs : List Requirement). RestDecides s g ps qs all) (ap (touched_hold w) (walk_end s.live c.loop-next.id none)) c.loop-next.invariant.rest)

pub returns-then-is_empty-clause-verdict : goal.returns-then-is_empty-clause-verdict
returns-then-is_empty-clause-verdict c =
    let none = no_images c.images.result.now c.args.line.now.witness.now c.is_empty.result c.images.ensures.value c.is_empty.ensures c.if-is_empty.true in
    lines_hold c.args.reached.now c.args.line.now.goal.now c.args.line.now.proofs.now c.args.line.now.witness.now (above c.args.first (entries c.args.reached.now.live)) none
