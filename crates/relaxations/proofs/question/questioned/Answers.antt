-- Each excess is denied where it can be, and what was asked before stays asked.
use mir.Val.{SFits, of_z, to_z}
use mir.Syntax.{w64}
use Rattle.std.proofs.Common.{rules, ◌≡◌, None, Err, List, [], ◌∷◌, ◌++◌, ℕ, ◌+◌, ◌<◌, length, get_or, ap, subst, sym, ◌∙◌, arith, pos}
use Rattle.std.proofs.lemmas.Int.{to_z-of_z}
use Rattle.std.proofs.lemmas.List.{length_push}
use Rattle.std.proofs.lemmas.Result.{err_from_is_err_and}
use Rattle.sum_outputs.proofs.LaterStates.{continues_again, continues_twice, handed_on, ready_later, recorded_err, recorded_ok}
use Rattle.proof_rules.specs.declared.recorder.RecordFault.{RecordFault}
use Rattle.proof_rules.specs.declared.recorder.RecordFault.TheVariants.{NoMemory}
use Rattle.totalizer.specs.declared.bound.Bound.{Bound}
use Rattle.relaxations.specs.Questions.{AreExcesses, Denies, IsQuestion}
use Rattle.relaxations.proofs.Questioned.{clashed, denies_more, denies_none, excesses_on, no_excesses}
use Rattle.relaxations.proofs.question.questioned.Goals as goal

pub loop-objective-init : goal.loop-objective-init
loop-objective-init g c =
    let R = g.R.Recorder in
    let a = R.seen c.args.rec.now in
    record {
      way = record { on = continues_again a; whole = c.requires.ready.whole };
      fits = c.requires.fits;
      count = ap (λ (bs : List Bound). length bs) c.new-excesses.ensures;
      excesses = subst (AreExcesses a.problem a.lines c.args.limits.now) (sym c.new-excesses.ensures)
          (no_excesses a.problem a.lines c.args.limits.now);
      denies = subst (λ (bs : List Bound). Denies bs c.new-lits.result) (sym c.new-excesses.ensures)
          (subst (Denies []) (sym c.new-lits.ensures) denies_none);
    }

pub excess_of-requires-clause-ready : goal.excess_of-requires-clause-ready
excess_of-requires-clause-ready g c =
    let R = g.R.Recorder in
    let a = R.seen c.args.rec.now in
    let b = R.seen c.loop-objective.rec in
    ready_later a b c.requires.ready c.loop-objective.invariant.way.on c.loop-objective.invariant.way.whole

pub returns-in_err-excess-clause-recorded : goal.returns-in_err-excess-clause-recorded
returns-in_err-excess-clause-recorded g c =
    let R = g.R.Recorder in
    let a = R.seen c.args.rec.now in
    let b = R.seen c.loop-objective.rec in
    let d = R.seen c.excess_of.new.rec in
    let is = err_from_is_err_and c.from_residual.result c.from_residual.ensures.1 in
    handed_on a b d c.in_err-excess.field-0.0 is.0 c.from_residual.result is.1 is.2
    c.loop-objective.invariant.way.on c.in_err-excess.ensures.recorded

pub returns-in_err-in_memory-clause-recorded : goal.returns-in_err-in_memory-clause-recorded
returns-in_err-in_memory-clause-recorded g c =
    let R = g.R.Recorder in
    let a = R.seen c.args.rec.now in
    let b = R.seen c.loop-objective.rec in
    let d = R.seen c.excess_of.new.rec in
    let is = err_from_is_err_and c.from_residual-in_err-in_memory.result c.from_residual-in_err-in_memory.ensures.1 in
    let on = continues_twice a b d c.loop-objective.invariant.way.on c.in_ok-excess.ensures.recorded.continues in
    recorded_err a d NoMemory c.from_residual-in_err-in_memory.result
    (is.1 ∙ ap (λ (f : RecordFault). Err f) (is.2 ∙ c.in_err-in_memory.ensures.fault)) on tt

pub returns-in_err-deny-clause-recorded : goal.returns-in_err-deny-clause-recorded
returns-in_err-deny-clause-recorded g c =
    let R = g.R.Recorder in
    let a = R.seen c.args.rec.now in
    let b = R.seen c.loop-objective.rec in
    let d = R.seen c.excess_of.new.rec in
    let is = err_from_is_err_and c.from_residual-in_err-deny.result c.from_residual-in_err-deny.ensures.1 in
    let on = continues_twice a b d c.loop-objective.invariant.way.on c.in_ok-excess.ensures.recorded.continues in
    recorded_err a d NoMemory c.from_residual-in_err-deny.result
    (is.1 ∙ ap (λ (f : RecordFault). Err f) (is.2 ∙ c.in_err-deny.ensures.fault)) on tt

pub returns-then-not-branch-clause-recorded : goal.returns-then-not-branch-clause-recorded
returns-then-not-branch-clause-recorded g c =
    let R = g.R.Recorder in
    let a = R.seen c.args.rec.now in
    let b = R.seen c.loop-objective.rec in
    let d = R.seen c.excess_of.new.rec in
    recorded_ok a d _
    (continues_twice a b d c.loop-objective.invariant.way.on c.in_ok-excess.ensures.recorded.continues)
    c.in_ok-excess.ensures.recorded.whole

pub returns-then-not-branch-clause-asked : goal.returns-then-not-branch-clause-asked
returns-then-not-branch-clause-asked g c =
    let R = g.R.Recorder in
    let a = R.seen c.args.rec.now in
    let b = R.seen c.loop-objective.rec in
    let d = R.seen c.excess_of.new.rec in
    let was = c.loop-objective.invariant in
    let call = c.in_ok-excess.ensures in
    let limits = c.args.limits.now in
    let items = c.as_slice-limit-items.result.now in
    let n = c.loop-objective.objective in
    let limit = to_z w64 (of_z w64 (get_or items n (pos 0))) in
    let in_range : SFits w64 (get_or items n (pos 0)) = search rules in
    let read = to_z-of_z w64 (get_or items n (pos 0)) in_range in
    let short : n < length limits =
    omega (arith, ap length c.as_slice-limit-items.ensures, c.loop-objective-test.true) in
    let ready = ready_later a b c.requires.ready was.way.on was.way.whole in
    let pushed : c.push.new.self ≡ c.loop-objective.excesses ++ c.in_ok-excess.excess ∷ [] = search rules in
    subst (λ (bs : List Bound). IsQuestion d limits bs c.in_ok-excess.excess None) (sym pushed)
    (clashed b d limits items n limit c.as_slice-limit-items.ensures short read
    c.loop-objective.excesses c.loop-objective.lits was.count
    c.own_lines_stay.ensures c.turn_lines_join.ensures c.turn_lines_keep_own.ensures
    ready call.recorded.continues was.excesses was.denies c.in_ok-excess.excess call.bound call.limited (rw c.if-not-branch.true at c.in_ok-deny.ensures.denied))

pub loop-objective-preserved : goal.loop-objective-preserved
loop-objective-preserved g c =
    let R = g.R.Recorder in
    let a = R.seen c.args.rec.now in
    let b = R.seen c.loop-objective.rec in
    let d = R.seen c.excess_of.new.rec in
    let was = c.loop-objective.invariant in
    let call = c.in_ok-excess.ensures in
    let limits = c.args.limits.now in
    let items = c.as_slice-limit-items.result.now in
    let n = c.loop-objective.objective in
    let limit = to_z w64 (of_z w64 (get_or items n (pos 0))) in
    let in_range : SFits w64 (get_or items n (pos 0)) = search rules in
    let read = to_z-of_z w64 (get_or items n (pos 0)) in_range in
    let short : n < length limits =
    omega (arith, ap length c.as_slice-limit-items.ensures, c.loop-objective-test.true) in
    let ready = ready_later a b c.requires.ready was.way.on was.way.whole in
    let pushed : c.push.new.self ≡ c.loop-objective.excesses ++ c.in_ok-excess.excess ∷ [] = search rules in
    record {
      way = record { on = continues_twice a b d was.way.on call.recorded.continues; whole = call.recorded.whole };
      fits = call.fits;
      count = ap (λ (bs : List Bound). length bs) pushed ∙ length_push c.loop-objective.excesses c.in_ok-excess.excess
          ∙ ap (λ (k : ℕ). k + 1) was.count;
      excesses = subst (λ (bs : List Bound). AreExcesses d.problem d.lines limits bs) (sym pushed)
          (excesses_on b d limits items n limit c.as_slice-limit-items.ensures short read
          c.loop-objective.excesses c.loop-objective.lits was.count
          c.own_lines_stay.ensures c.turn_lines_join.ensures c.turn_lines_keep_own.ensures
          ready call.recorded.continues was.excesses was.denies c.in_ok-excess.excess call.bound call.limited);
      denies = subst (λ (bs : List Bound). Denies bs c.deny.new.lits) (sym pushed)
          (denies_more c.loop-objective.excesses c.loop-objective.lits c.deny.new.lits c.in_ok-excess.excess was.denies
          (rw c.if-not-branch.false at c.in_ok-deny.ensures.denied));
    }
