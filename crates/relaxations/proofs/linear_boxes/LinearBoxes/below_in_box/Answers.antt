-- What is told of a part is told of the limits.
use Rattle.std.proofs.Common.{◌∙◌, None, Option, List, ℤ, subst, sym}
use Rattle.std.specs.Prelude.{IfSome}
use Rattle.front_set.proofs.FrontLaws.{IsBelow-antisym, length-IsBelow}
use Rattle.search_base.proofs.Turning.{goes_again}
use Rattle.relaxations.specs.declared.below.Below.{Below}
use Rattle.relaxations.specs.Telling.{Tells}
use Rattle.relaxations.proofs.LimitNumbers.{told_of_greater}
use Rattle.relaxations.proofs.Calls.{seeks_handed, seeks_memory, seeks_nothing}
use Rattle.relaxations.proofs.linear_boxes.LinearBoxes.below_in_box.Goals as goal

pub returns-in_err-part-clause-seeks : goal.returns-in_err-part-clause-seeks
returns-in_err-part-clause-seeks g c =
    let a = g.O.Recorder.seen c.args.oracle.now in
    seeks_memory a a c.args.bounds.now c.args.bounds.now c.from_residual.result c.from_residual.ensures.1 (goes_again a)

pub returns-in_default-clause-seeks : goal.returns-in_default-clause-seeks
returns-in_default-clause-seeks g c =
    seeks_nothing (g.O.Recorder.seen c.args.oracle.now) c.args.bounds.now None

pub relaxed_below-requires-clause-count : goal.relaxed_below-requires-clause-count
relaxed_below-requires-clause-count g c =
    length-IsBelow c.in-Some.part c.args.limits.now (rw c.in-Some.is at c.in_ok-part.ensures) ∙ c.requires.count

pub returns-in_err-found-clause-seeks : goal.returns-in_err-found-clause-seeks
returns-in_err-found-clause-seeks g c =
    let R = g.O.Recorder in
    let a = R.seen c.args.oracle.now in
    let b = R.seen c.relaxed_below.new.oracle in
    let result = c.from_residual-in_err-found.result in
    seeks_handed {U = Option Below} a b c.args.bounds.now c.relaxed_below.new.bounds result c.in_err-found.field-0.0
    c.from_residual-in_err-found.ensures.1
    c.in_err-found.ensures.seeks

pub returns-then-not-is_closed-clause-tells : goal.returns-then-not-is_closed-clause-tells
returns-then-not-is_closed-clause-tells g c =
    told_of_greater (g.O.Recorder.seen c.relaxed_below.new.oracle) c.in-Some.part c.args.limits.now c.in_ok-found.found
    (sym c.if-not-is_closed.ensures) (rw c.in-Some.is at c.in_ok-part.ensures) c.in_ok-found.ensures.tells

pub returns-then-is_within-clause-tells : goal.returns-then-is_within-clause-tells
returns-then-is_within-clause-tells g c =
    let b = g.O.Recorder.seen c.relaxed_below.new.oracle in
    let below = rw c.in-Some.is at c.in_ok-part.ensures in
    subst (λ (v : List ℤ). IfSome c.in_ok-found.found (Tells b v))
    (IsBelow-antisym c.in-Some.part c.args.limits.now below (sym c.if-is_within.ensures)) c.in_ok-found.ensures.tells
