-- One sum after the other is made.
use Rattle.std.proofs.Common.{◌≡◌, ℕ, ◌-◌, ◌<◌, List, [], ◌∷◌, ◌++◌, length, drop, ap, sym, subst, ◌∙◌, arith}
use Rattle.std.specs.List.{All}
use Rattle.std.proofs.lemmas.List.{length-append}
use Rattle.proof_rules.specs.Recording.{Snapshot}
use Rattle.sum_outputs.specs.Joining.{AreOutputsAt}
use Rattle.sum_outputs.specs.declared.sum_output.SumOutput.{SumOutput}
use Rattle.sum_outputs.specs.declared.inner.Inner.{Inner}
use Rattle.sum_outputs.proofs.LaterStates.{continues_again, handed_err, memory_err}
use Rattle.sum_outputs.proofs.OutputsLater.{way_starts, way_ready, way_on}
use Rattle.sum_outputs.proofs.MakeLines.{inner_later, node_weights}
use Rattle.sum_outputs.proofs.Runs.{IsLastOf, run_pop}
use Rattle.sum_outputs.proofs.FallingLines.{IsHalfWay, inner_less, halfway_starts, halfway_ends, least_of_node, halfway_more, last_outputs}
use Rattle.sum_outputs.proofs.falling.make_falling.Goals as goal

-- the half way before the last sum was taken
popped : (a b : Snapshot) (node : Inner) (last k : ℕ) (sums before : List (ℕ × ℕ)) (run : ℕ × ℕ) (os : List SumOutput) → before ≡ sums ++ run ∷ [] → IsHalfWay a b node last k before os →
    (half : IsHalfWay a b node last k (sums ++ run ∷ []) os) × IsLastOf node k last sums run half.middle
popped a b node last k sums before run os is half =
    let half' = subst (λ (ss : List (ℕ × ℕ)). IsHalfWay a b node last k ss os) is half in
    (half', run_pop node k last sums half'.middle run half'.run)

pub new_sums-requires-clause-rising : goal.new_sums-requires-clause-rising
new_sums-requires-clause-rising g c = (c.requires.may.inner.children c.requires.may.ready.state c.requires.may.ready.reached).of_first.rising

pub new_sums-requires-clause-rising_too : goal.new_sums-requires-clause-rising_too
new_sums-requires-clause-rising_too g c = (c.requires.may.inner.children c.requires.may.ready.state c.requires.may.ready.reached).of_second.rising

pub new_sums-requires-clause-small : goal.new_sums-requires-clause-small
new_sums-requires-clause-small g c = let R = g.R.Recorder in
    (node_weights (R.seen c.args.rec.now) c.requires.may.ready c.args.node.now c.requires.may.inner.children).small

pub returns-in_err-sums-clause-recorded : goal.returns-in_err-sums-clause-recorded
returns-in_err-sums-clause-recorded g c =
    let R = g.R.Recorder in
    let a = R.seen c.args.rec.now in
    memory_err a a c.from_residual.result (continues_again a) c.from_residual.ensures.1

pub loop-run-init : goal.loop-run-init
loop-run-init g c =
    let R = g.R.Recorder in
    let a = R.seen c.args.rec.now in
    let node = c.args.node.now in
    record {
      way = way_starts a c.requires.may.ready;
      half = subst (λ (os : List SumOutput). IsHalfWay a a node c.args.last c.args.k c.in_ok-sums.sums os) (sym c.new-falling.ensures)
          (halfway_starts a node c.args.last c.args.k c.in_ok-sums.sums c.in_ok-sums.ensures);
      defined = let none = ap length c.new-falling.ensures in omega arith;
    }

pub make_next-requires-clause-may : goal.make_next-requires-clause-may
make_next-requires-clause-may g c =
    let R = g.R.Recorder in
    let a = R.seen c.args.rec.now in
    let b = R.seen c.loop-run.rec in
    let node = c.args.node.now in
    let here = popped a b node c.args.last c.args.k c.pop.new.self c.loop-run.sums c.in-Some.run' c.loop-run.falling c.in-Some.ensures c.loop-run.invariant.half in
    let from = here.1.from in
    record {
      ready = way_ready a b c.requires.may.ready c.loop-run.invariant.way;
      inner = inner_later a b c.requires.may.ready c.loop-run.invariant.way.on node c.in-Some.run'.0
          (inner_less a node c.args.k c.in-Some.run'.0 here.1.most c.requires.may.inner);
      from_one = omega arith;
    }

pub make_next-requires-clause-falling : goal.make_next-requires-clause-falling
make_next-requires-clause-falling g c = λ t reached.
    let R = g.R.Recorder in
    let a = R.seen c.args.rec.now in
    let b = R.seen c.loop-run.rec in
    let node = c.args.node.now in
    subst (λ (os : List SumOutput). AreOutputsAt b t node.terms.now (drop (length os - 1) os)) (sym c.as_slice.ensures)
    (last_outputs b node.terms.now c.loop-run.falling t (node_weights a c.requires.may.ready node c.requires.may.inner.children) (c.loop-run.invariant.half.are.outputs t reached))

pub make_next-requires-clause-greater : goal.make_next-requires-clause-greater
make_next-requires-clause-greater g c =
    let R = g.R.Recorder in
    let a = R.seen c.args.rec.now in
    let b = R.seen c.loop-run.rec in
    let here = popped a b c.args.node.now c.args.last c.args.k c.pop.new.self c.loop-run.sums c.in-Some.run' c.loop-run.falling c.in-Some.ensures c.loop-run.invariant.half in
    let is = here.1.is in
    subst (λ (os : List SumOutput). All (λ o. c.in-Some.run'.1 < o.sum) os) (sym c.as_slice.ensures) (λ k e short. let w = here.0.are.above k e short in omega arith)

pub make_next-requires-clause-least : goal.make_next-requires-clause-least
make_next-requires-clause-least g c =
    let R = g.R.Recorder in
    let a = R.seen c.args.rec.now in
    let b = R.seen c.loop-run.rec in
    let here = popped a b c.args.node.now c.args.last c.args.k c.pop.new.self c.loop-run.sums c.in-Some.run' c.loop-run.falling c.in-Some.ensures c.loop-run.invariant.half in
    least_of_node a c.requires.may.ready c.args.node.now c.in-Some.run'.0 c.args.k c.in-Some.run'.1 c.requires.may.inner here.1.most here.1.least

pub returns-in_err-made-clause-recorded : goal.returns-in_err-made-clause-recorded
returns-in_err-made-clause-recorded g c =
    let R = g.R.Recorder in
    handed_err (R.seen c.args.rec.now) (R.seen c.loop-run.rec) (R.seen c.make_next.new.rec) c.in_err-made.field-0.0
    c.from_residual-in_err-made.result c.loop-run.invariant.way.on c.in_err-made.ensures.recorded c.from_residual-in_err-made.ensures.1

pub loop-run-preserved : goal.loop-run-preserved
loop-run-preserved g c =
    let R = g.R.Recorder in
    let a = R.seen c.args.rec.now in
    let b = R.seen c.loop-run.rec in
    let d = R.seen c.make_next.new.rec in
    let node = c.args.node.now in
    let way = c.loop-run.invariant.way in
    let here = popped a b node c.args.last c.args.k c.pop.new.self c.loop-run.sums c.in-Some.run' c.loop-run.falling c.in-Some.ensures c.loop-run.invariant.half in
    let least = least_of_node a c.requires.may.ready node c.in-Some.run'.0 c.args.k c.in-Some.run'.1 c.requires.may.inner here.1.most here.1.least in
    let call = c.in_ok-made.ensures in
    let pushed : c.push.new.self ≡ c.loop-run.falling ++ c.in_ok-made.made ∷ [] = c.in_ok-push.ensures.ok in
    record {
      way = way_on a b d way call.recorded.continues call.recorded.whole;
      half = subst (λ (os : List SumOutput). IsHalfWay a d node c.args.last c.args.k c.pop.new.self os) (sym pushed)
          (halfway_more a b d c.requires.may.ready (way_ready a b c.requires.may.ready way) way.on call.recorded.continues node c.args.last c.args.k
          c.pop.new.self c.in-Some.run' c.loop-run.falling c.in_ok-made.made here.0 call.made.new call.made.sum least);
      defined = let before = c.loop-run.invariant.defined in let one = call.made.one in let size = ap length pushed ∙ length-append c.loop-run.falling (c.in_ok-made.made ∷ []) in omega arith;
    }

pub returns-in_err-push-clause-recorded : goal.returns-in_err-push-clause-recorded
returns-in_err-push-clause-recorded g c =
    let R = g.R.Recorder in
    let a = R.seen c.args.rec.now in
    let b = R.seen c.loop-run.rec in
    let d = R.seen c.make_next.new.rec in
    let call = c.in_ok-made.ensures in
    memory_err a d c.from_residual-in_err-push.result (way_on a b d c.loop-run.invariant.way call.recorded.continues call.recorded.whole).on c.from_residual-in_err-push.ensures.1

pub returns-clause-falling : goal.returns-clause-falling
returns-clause-falling g c =
    let R = g.R.Recorder in
    let a = R.seen c.args.rec.now in
    let b = R.seen c.loop-run.rec in
    let node = c.args.node.now in
    halfway_ends a b node c.args.last c.args.k c.loop-run.falling
    (subst (λ (ss : List (ℕ × ℕ)). IsHalfWay a b node c.args.last c.args.k ss c.loop-run.falling) c.in_default.ensures.0 c.loop-run.invariant.half)
