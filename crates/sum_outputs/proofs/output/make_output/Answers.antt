-- What is made for an output, step by step.
use Rattle.std.proofs.Common.{◌<◌, ◌-◌, ◌^◌, ℕ, ap, sym, subst, ◌∙◌, arith}
use Rattle.sum_outputs.specs.Totals.{IsLeastSum, definitions}
use Rattle.proof_laws.specs.declared.line.Line.TheVariants.{Def}
use Rattle.sum_outputs.proofs.Glue.{value-le-total}
use Rattle.sum_outputs.proofs.LaterStates.{handed_err, recorded_ok, ready_later, continues_twice}
use Rattle.sum_outputs.proofs.MakeLines.{inner_later, target_later, target_now, ties_now, output_made}
use Rattle.sum_outputs.proofs.DefinitionCounts.{definitions_push}
use Rattle.sum_outputs.proofs.output.make_output.Goals as goal

pub define-requires-clause-most : goal.define-requires-clause-most
define-requires-clause-most g c =
    let is = c.requires.least.attainable in
    let most = value-le-total is.0 c.args.node.now.terms.now in
    let sum = is.1 in
    omega arith

pub add_single-requires-clause-ready : goal.add_single-requires-clause-ready
add_single-requires-clause-ready g c =
    let R = g.R.Recorder in
    let made = c.in_ok-made.ensures in
    ready_later (R.seen c.args.rec.now) (R.seen c.define.new.rec) c.requires.may.ready made.recorded.continues made.recorded.whole

pub add_single-requires-clause-can : goal.add_single-requires-clause-can
add_single-requires-clause-can g c =
    let R = g.R.Recorder in
    let made = c.in_ok-made.ensures in
    let some : 0 < c.in_ok-made.made.sum = let r = c.requires.least.reaches in let s = made.sum.0 in let f = c.requires.may.from_one in omega arith in
    ties_now (R.seen c.args.rec.now) (R.seen c.define.new.rec) c.requires.may.ready made.recorded.continues c.args.node.now c.args.next.now c.in_ok-made.made
    c.requires.may.inner.children c.requires.next some made.defined

pub returns-in_err-add_single-clause-recorded : goal.returns-in_err-add_single-clause-recorded
returns-in_err-add_single-clause-recorded g c =
    let R = g.R.Recorder in
    handed_err (R.seen c.args.rec.now) (R.seen c.define.new.rec) (R.seen c.add_single.new.rec) c.in_err-add_single.field-0.0
    c.from_residual-in_err-add_single.result c.in_ok-made.ensures.recorded.continues c.in_err-add_single.ensures.recorded c.from_residual-in_err-add_single.ensures.1

pub add_window-requires-clause-ready : goal.add_window-requires-clause-ready
add_window-requires-clause-ready g c =
    let R = g.R.Recorder in
    let a = R.seen c.args.rec.now in
    let b = R.seen c.define.new.rec in
    let d = R.seen c.add_single.new.rec in
    let made = c.in_ok-made.ensures in
    let ties = c.in_ok-add_single.ensures in
    ready_later a d c.requires.may.ready (continues_twice a b d made.recorded.continues ties.recorded.continues) ties.recorded.whole

pub add_window-requires-clause-children : goal.add_window-requires-clause-children
add_window-requires-clause-children g c =
    let R = g.R.Recorder in
    let a = R.seen c.args.rec.now in
    let b = R.seen c.define.new.rec in
    let d = R.seen c.add_single.new.rec in
    let on = continues_twice a b d c.in_ok-made.ensures.recorded.continues c.in_ok-add_single.ensures.recorded.continues in
    (inner_later a d c.requires.may.ready on c.args.node.now c.args.from c.requires.may.inner).children

pub add_window-requires-clause-target : goal.add_window-requires-clause-target
add_window-requires-clause-target g c =
    let R = g.R.Recorder in
    let a = R.seen c.args.rec.now in
    let b = R.seen c.define.new.rec in
    let d = R.seen c.add_single.new.rec in
    let made = c.in_ok-made.ensures in
    let some : 0 < c.in_ok-made.made.sum = let r = c.requires.least.reaches in let s = made.sum.0 in let f = c.requires.may.from_one in omega arith in
    let ready_b = ready_later a b c.requires.may.ready made.recorded.continues made.recorded.whole in
    target_later b d ready_b c.in_ok-add_single.ensures.recorded.continues c.args.node.now c.in_ok-made.made
    (target_now a b c.requires.may.ready made.recorded.continues c.args.node.now c.in_ok-made.made c.requires.may.inner.children some made.defined)

pub returns-in_err-add_window-clause-recorded : goal.returns-in_err-add_window-clause-recorded
returns-in_err-add_window-clause-recorded g c =
    let R = g.R.Recorder in
    let a = R.seen c.args.rec.now in
    let b = R.seen c.define.new.rec in
    let d = R.seen c.add_single.new.rec in
    let on = continues_twice a b d c.in_ok-made.ensures.recorded.continues c.in_ok-add_single.ensures.recorded.continues in
    handed_err a d (R.seen c.add_window.new.rec) c.in_err-add_window.field-0.0
    c.from_residual-in_err-add_window.result on c.in_err-add_window.ensures.recorded c.from_residual-in_err-add_window.ensures.1

pub returns-clause-recorded : goal.returns-clause-recorded
returns-clause-recorded g c =
    let R = g.R.Recorder in
    let a = R.seen c.args.rec.now in
    let b = R.seen c.define.new.rec in
    let d = R.seen c.add_single.new.rec in
    let h = R.seen c.add_window.new.rec in
    let on = continues_twice a b d c.in_ok-made.ensures.recorded.continues c.in_ok-add_single.ensures.recorded.continues in
    let last = c.in_ok-add_window.ensures.recorded in
    recorded_ok a h c.in_ok-made.made (continues_twice a d h on last.continues) last.whole

pub returns-clause-made : goal.returns-clause-made
returns-clause-made g c =
    let R = g.R.Recorder in
    let a = R.seen c.args.rec.now in
    let made = c.in_ok-made.ensures in
    let ties = c.in_ok-add_single.ensures in
    let last = c.in_ok-add_window.ensures in
    let node = c.args.node.now in
    let q = c.requires in
    record {
      sum = made.sum.0;
      from = made.sum.1;
      new = output_made a (R.seen c.define.new.rec) (R.seen c.add_single.new.rec) (R.seen c.add_window.new.rec) q.may.ready
          made.recorded.continues made.recorded.whole ties.recorded.continues ties.recorded.whole last.recorded.continues
          node c.args.next.now c.in_ok-made.made c.args.from c.args.below q.may.inner q.next q.above (λ k e short. let less = q.greater k e short in let s = made.sum.0 in omega arith)
          q.may.from_one made.sum.1 (subst (λ (n : ℕ). IsLeastSum node.terms.now c.args.from n) (sym made.sum.0) q.least) made.defined
          (2 ^ 64 - 1) (omega arith) ties.says last.says;
      one =
          let defined = made.defined in
          let one = ap definitions defined.line ∙ definitions_push a.lines (Def c.in_ok-made.made.lit.var defined.constraint) in
          let none = ties.defines_none in
          let none_too = last.defines_none in
          omega arith;
    }
