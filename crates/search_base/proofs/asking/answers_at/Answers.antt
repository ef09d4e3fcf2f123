-- Each objective is asked for after the others, whose answers still mean what they did.
use mir.Val.{SFits, of_z, to_z}
use mir.Syntax.{w64}
use Rattle.std.proofs.Common.{rules, ◌≡◌, ℕ, ◌<◌, List, [], ◌∷◌, ◌++◌, length, take, get_or, Err, refl, sym, ap, ◌∙◌, subst, arith, ℤ, pos}
use Rattle.std.proofs.lemmas.Int.{to_z-of_z}
use Rattle.std.proofs.lemmas.List.{get_or-map, take_more, take_all, length-take}
use Rattle.std.proofs.lemmas.Slice.Zip.{AllZip-long}
use Rattle.std.proofs.lemmas.Result.{err_from_is_err_and}
use Rattle.pb_lin.specs.CostRow.{CostRowValue}
use Rattle.pb_lin.specs.Problem.{ProblemValue}
use Rattle.proof_rules.specs.declared.recorder.RecordFault.{RecordFault}
use Rattle.proof_rules.specs.declared.recorder.RecordFault.TheVariants.{NoMemory}
use Rattle.sum_outputs.proofs.LaterStates.{continues_again, continues_twice, handed_on, ready_later, recorded_err}
use Rattle.totalizer.specs.declared.bound.Bound.{Bound}
use Rattle.totalizer.specs.declared.reform.Reform.{Reform}
use Rattle.search_base.specs.declared.objective_bound.ObjectiveBound.{ObjectiveBound}
use Rattle.search_base.specs.CostBounds.{BoundsRow, HasLiteral, IsAnswerFor, IsCostBound, reforms_of}
use Rattle.search_base.specs.Cutting.{AreAnswers, AreAsked}
use Rattle.search_base.proofs.AlikeAnswers.{some_at}
use Rattle.search_base.proofs.AskedAnswers.{no_answers, no_asked, answers_later, answers_more, asked_more}
use Rattle.search_base.proofs.asking.answers_at.Goals as goal

pub loop-objective-init : goal.loop-objective-init
loop-objective-init g c =
    let R = g.R.Recorder in
    let a = R.seen c.args.rec.now in
    record {
      on = record { on = continues_again a; whole = c.requires.ready.whole };
      fits = c.requires.fits;
      reforms = refl;
      asked = no_asked (reforms_of c.args.bounds.now) c.new-answers.result c.new-answers.ensures;
      done = no_answers (R.seen c.args.rec.now).problem (R.seen c.args.rec.now).lines c.new-answers.result c.new-answers.ensures;
    }

pub at_least-requires-clause-ready : goal.at_least-requires-clause-ready
at_least-requires-clause-ready g c =
    let R = g.R.Recorder in
    let a = R.seen c.args.rec.now in
    let b = R.seen c.loop-objective.rec in
    ready_later a b c.requires.ready c.loop-objective.invariant.on.on c.loop-objective.invariant.on.whole

pub at_least-requires-clause-there : goal.at_least-requires-clause-there
at_least-requires-clause-there g c =
    let R = g.R.Recorder in
    let same = ap (λ (p : ProblemValue). length p.costs) c.loop-objective.invariant.on.on.problem in
    let sizes = ap (λ (vs : List ℤ). length vs) c.as_slice-value-items.ensures in
    omega (arith, c.requires.count, c.loop-objective-test.true)

pub returns-in_err-answer-clause-recorded : goal.returns-in_err-answer-clause-recorded
returns-in_err-answer-clause-recorded g c =
    let R = g.R.Recorder in
    let a = R.seen c.args.rec.now in
    let b = R.seen c.loop-objective.rec in
    let d = R.seen c.at_least.new.rec in
    let p = err_from_is_err_and c.from_residual.result c.from_residual.ensures.1 in
    handed_on a b d c.in_err-answer.field-0.0 p.0 c.from_residual.result p.1 p.2 c.loop-objective.invariant.on.on
    c.in_err-answer.ensures.recorded

pub returns-in_err-in_memory-clause-recorded : goal.returns-in_err-in_memory-clause-recorded
returns-in_err-in_memory-clause-recorded g c =
    let R = g.R.Recorder in
    let a = R.seen c.args.rec.now in
    let b = R.seen c.loop-objective.rec in
    let d = R.seen c.at_least.new.rec in
    let p = err_from_is_err_and c.from_residual-in_err-in_memory.result c.from_residual-in_err-in_memory.ensures.1 in
    let fault : p.0 ≡ NoMemory = p.2 ∙ c.in_err-in_memory.ensures.fault in
    recorded_err a d NoMemory c.from_residual-in_err-in_memory.result (p.1 ∙ ap (λ (f : RecordFault). Err f) fault)
    (continues_twice a b d c.loop-objective.invariant.on.on c.in_ok-answer.ensures.recorded.continues) tt

pub loop-objective-preserved : goal.loop-objective-preserved
loop-objective-preserved g c =
    let R = g.R.Recorder in
    let a = R.seen c.args.rec.now in
    let b = R.seen c.loop-objective.rec in
    let d = R.seen c.at_least.new.rec in
    let was = c.loop-objective.invariant in
    let call = c.in_ok-answer.ensures in
    let ready = ready_later a b c.requires.ready was.on.on was.on.whole in
    let vs = c.args.costs.now in
    let i = c.loop-objective.objective in
    let v = get_or vs i (pos 0) in
    let sizes : length c.as_slice-value-items.result.now ≡ length vs =
    ap (λ (us : List ℤ). length us) c.as_slice-value-items.ensures in
    let short : i < length vs = omega (arith, c.loop-objective-test.true) in
    let count : length c.loop-objective.answers ≡ i = was.done.count ∙ omega (arith, length-take i vs) in
    let w = get_or c.as_slice-value-items.result.now i (pos 0) in
    let fits : SFits w64 w = search rules in
    let value : to_z w64 (of_z w64 w) ≡ v = to_z-of_z w64 w fits
    ∙ ap (λ (us : List ℤ). get_or us i (pos 0)) c.as_slice-value-items.ensures in
    let pushed : c.push.new.self ≡ c.loop-objective.answers ++ c.in_ok-answer.answer ∷ [] =
    rw c.in_ok-in_memory.ensures.ok at c.push.ensures.ok in
    let next : (e : CostRowValue) →
    IsCostBound d.problem d.lines (get_or d.problem.costs (length c.loop-objective.answers) e) v
    c.in_ok-answer.answer = λ e.
    subst (λ (k : ℕ). IsCostBound d.problem d.lines (get_or d.problem.costs k e) v c.in_ok-answer.answer) (sym count)
    (subst (λ (p : ProblemValue). IsCostBound d.problem d.lines (get_or p.costs i e) v c.in_ok-answer.answer)
    (sym call.recorded.continues.problem)
    (subst (λ (w : ℤ). IsCostBound d.problem d.lines (get_or b.problem.costs i e) w c.in_ok-answer.answer) value
    (call.bound e))) in
    let before = reforms_of c.args.bounds.now in
    let others = call.others in
    let fit = was.fits in
    let bounds_long = AllZip-long (BoundsRow b) b.problem.costs c.loop-objective.bounds fit.rows in
    let problems = ap (λ (p : ProblemValue). length p.costs) was.on.on.problem in
    let asked_here : (r : Reform) → IsAnswerFor (get_or before i r) v c.in_ok-answer.answer
    × HasLiteral before (get_or before i r) c.in_ok-answer.answer = λ r.
    let o = some_at c.loop-objective.bounds i (omega (arith, c.requires.count)) in
    let here : get_or before i r ≡ (get_or c.loop-objective.bounds i o.0).reform =
    ap (λ (rs : List Reform). get_or rs i r) (sym was.reforms)
    ∙ get_or-map (λ (q : ObjectiveBound). q.reform) c.loop-objective.bounds i o.0 r (omega (arith, c.requires.count)) in (
      subst (λ (q : Reform). IsAnswerFor q v c.in_ok-answer.answer) (sym here)
          (subst (λ (w : ℤ). IsAnswerFor (get_or c.loop-objective.bounds i o.0).reform w c.in_ok-answer.answer) value
          (call.answer o.0)),
      subst (λ (q : Reform). HasLiteral before q c.in_ok-answer.answer) (sym here)
          (subst (λ (rs : List Reform). HasLiteral rs (get_or c.loop-objective.bounds i o.0).reform c.in_ok-answer.answer)
          was.reforms (call.literal o.0)),
    ) in
    let later : AreAnswers d.problem d.lines (take i vs) c.loop-objective.answers =
    answers_later c.own_lines_stay.ensures b d (take i vs) c.loop-objective.answers ready call.recorded.continues
    was.done in
    record {
      on = record { on = continues_twice a b d was.on.on call.recorded.continues; whole = call.recorded.whole };
      fits = call.fits;
      reforms = others.reforms ∙ was.reforms;
      asked =
          subst (λ (us : List ℤ). AreAsked before us c.push.new.self) (sym (take_more vs i (pos 0) short))
          (subst (λ (bs : List Bound). AreAsked before (take i vs ++ v ∷ []) bs) (sym pushed)
          (asked_more before (take i vs) c.loop-objective.answers v c.in_ok-answer.answer was.done.count was.asked
          (λ r. subst (λ (k : ℕ). IsAnswerFor (get_or before k r) v c.in_ok-answer.answer
          × HasLiteral before (get_or before k r) c.in_ok-answer.answer) (sym count) (asked_here r))));
      done =
          subst (λ (us : List ℤ). AreAnswers d.problem d.lines us c.push.new.self) (sym (take_more vs i (pos 0) short))
          (subst (λ (bs : List Bound). AreAnswers d.problem d.lines (take i vs ++ v ∷ []) bs) (sym pushed)
          (answers_more d.problem d.lines (take i vs) c.loop-objective.answers v c.in_ok-answer.answer later next));
    }

pub returns-clause-answers : goal.returns-clause-answers
returns-clause-answers g c =
    let R = g.R.Recorder in
    let vs = c.args.costs.now in
    let sizes : length c.as_slice-value-items.result.now ≡ length vs =
    ap (λ (us : List ℤ). length us) c.as_slice-value-items.ensures in
    subst (λ (us : List ℤ). AreAnswers (R.seen c.loop-objective.rec).problem (R.seen c.loop-objective.rec).lines us
    c.loop-objective.answers)
    (take_all c.loop-objective.objective vs (omega (arith, c.loop-objective-test.false)))
    c.loop-objective.invariant.done

pub returns-clause-asked : goal.returns-clause-asked
returns-clause-asked g c =
    let vs = c.args.costs.now in
    let sizes : length c.as_slice-value-items.result.now ≡ length vs =
    ap (λ (us : List ℤ). length us) c.as_slice-value-items.ensures in
    subst (λ (us : List ℤ). AreAsked (reforms_of c.args.bounds.now) us c.loop-objective.answers)
    (take_all c.loop-objective.objective vs (omega (arith, c.loop-objective-test.false)))
    c.loop-objective.invariant.asked
