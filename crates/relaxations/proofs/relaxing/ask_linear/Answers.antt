-- What closes a tree is a core, and what is proposed is tried.
use Rattle.std.proofs.Common.{◌∙◌, None, Some, List, length, ap, sym, ℤ}
use Rattle.std.proofs.lemmas.Slice.Zip.{AllZip-long}
use Rattle.pb_lin.specs.Problem.{ProblemValue}
use Rattle.linear_search.specs.Replies.{IsReply}
use Rattle.linear_search.specs.declared.reply.Reply.TheVariants.{Closed}
use Rattle.search_base.specs.CostBounds.{BoundsRow}
use Rattle.search_base.proofs.Turning.{goes_again}
use Rattle.relaxations.specs.Cores.{IsToldByCore}
use Rattle.relaxations.specs.Questions.{IsAsked, IsQuestion}
use Rattle.relaxations.specs.declared.below.Below.TheVariants.{Above}
use Rattle.relaxations.proofs.Calls.{bounds_go_on, seeks_memory, seeks_no_memory, seeks_nothing, seeks_ok, seeks_recording}
use Rattle.relaxations.proofs.Proposals.{added_stays_good, closed_told}
use Rattle.relaxations.proofs.Told.{told_clash}
use Rattle.relaxations.proofs.relaxing.ask_linear.Goals as goal

pub returns-in_err-stands-clause-seeks : goal.returns-in_err-stands-clause-seeks
returns-in_err-stands-clause-seeks g c =
    let R = g.O.Recorder in
    let a = R.seen c.args.oracle.now in
    let asked = c.args.bounds.now in
    seeks_memory a a asked asked c.from_residual.result c.from_residual.ensures.1 (goes_again a)

pub returns-in_default-clause-tells : goal.returns-in_default-clause-tells
returns-in_default-clause-tells g c =
    let R = g.O.Recorder in
    let a = R.seen c.args.oracle.now in
    let q = c.args.question.now in
    let limits : List ℤ = c.args.limits.now in
    let is : IsAsked limits q.excesses q.last None = rw c.in_default.is at c.requires.asked.asked in
    let stands = c.in_ok-stands.ensures in
    told_clash a limits q.excesses q.last c.in_ok-stands.stands c.requires.asked.excesses is
    (rw c.as_slice-excesses.ensures at rw c.as_slice-objectives.ensures at stands)

pub returns-in_default-clause-seeks : goal.returns-in_default-clause-seeks
returns-in_default-clause-seeks g c =
    seeks_nothing (g.O.Recorder.seen c.args.oracle.now) c.args.bounds.now (Some (Above c.in_ok-stands.stands))

pub linear_limits-requires-clause-fits : goal.linear_limits-requires-clause-fits
linear_limits-requires-clause-fits g c =
    let R = g.O.Recorder in
    let a = R.seen c.args.oracle.now in
    let good = c.requires.good.1 in
    (a, good.ready, good.bounds)

pub linear_limits-requires-clause-count : goal.linear_limits-requires-clause-count
linear_limits-requires-clause-count g c =
    let R = g.O.Recorder in
    let a = R.seen c.args.oracle.now in
    c.requires.count ∙ sym (AllZip-long (BoundsRow a) a.problem.costs c.args.bounds.now c.requires.good.1.bounds.rows)

pub returns-in_err-asked-clause-seeks : goal.returns-in_err-asked-clause-seeks
returns-in_err-asked-clause-seeks g c =
    let R = g.O.Recorder in
    let a = R.seen c.args.oracle.now in
    let asked = c.args.bounds.now in
    seeks_memory a a asked asked c.from_residual-in_err-asked.result c.from_residual-in_err-asked.ensures.1
    (goes_again a)

pub ask-requires : goal.ask-requires
ask-requires g c = record { ready = c.requires.good.1.ready; problem = c.requires.problem }

pub returns-in_err-core-clause-seeks : goal.returns-in_err-core-clause-seeks
returns-in_err-core-clause-seeks g c =
    let R = g.O.Recorder in
    let a = R.seen c.args.oracle.now in
    let b = R.seen c.ask.new.rec in
    let asked = c.args.bounds.now in
    let call = c.in_err-core.ensures.recorded in
    seeks_recording a b asked asked c.from_residual-in_err-core.result c.in_err-core.field-0.0
    c.from_residual-in_err-core.ensures.1 call.fault (bounds_go_on c.turn_lines_join.ensures a b call.continues)

pub returns-in_err-below-in-Closed-clause-seeks : goal.returns-in_err-below-in-Closed-clause-seeks
returns-in_err-below-in-Closed-clause-seeks g c =
    let R = g.O.Recorder in
    let a = R.seen c.args.oracle.now in
    let b = R.seen c.ask.new.rec in
    let asked = c.args.bounds.now in
    let call = c.in_ok-core.ensures.recorded in
    seeks_no_memory a b asked asked c.from_residual-in_err-below-in-Closed.result c.in_err-below-in-Closed.field-0.0
    c.in_err-below-in-Closed.ensures.fault c.from_residual-in_err-below-in-Closed.ensures.1
    (bounds_go_on c.turn_lines_join.ensures a b call.continues)

pub returns-in-Closed-clause-tells : goal.returns-in-Closed-clause-tells
returns-in-Closed-clause-tells g c =
    let R = g.O.Recorder in
    let a = R.seen c.args.oracle.now in
    let b = R.seen c.ask.new.rec in
    let q = c.args.question.now in
    let limits : List ℤ = c.args.limits.now in
    let lits = c.in-Some.lits in
    let core = c.in-Closed.core in
    let question : IsQuestion a limits q.excesses q.last (Some lits) = rw c.in-Some.is at c.requires.asked in
    let reply : IsReply b lits (Closed core) = rw c.as_slice.ensures at rw c.in-Closed.is at c.in_ok-core.ensures.reply in
    let told : IsToldByCore q.excesses core.lits core.id (length limits) c.in_ok-below-in-Closed.below =
    rw c.as_slice-excesses.ensures at rw c.as_slice-objectives.ensures at c.in_ok-below-in-Closed.ensures.told in
    closed_told c.own_lines_stay.ensures c.turn_lines_join.ensures c.turn_lines_keep_own.ensures a b limits q.excesses
    q.last lits c.requires.good.1.ready c.in_ok-core.ensures.recorded.continues question core.lits core.id
    c.in_ok-below-in-Closed.below reply told

pub returns-in-Closed-clause-seeks : goal.returns-in-Closed-clause-seeks
returns-in-Closed-clause-seeks g c =
    let R = g.O.Recorder in
    let a = R.seen c.args.oracle.now in
    let b = R.seen c.ask.new.rec in
    let asked = c.args.bounds.now in
    let call = c.in_ok-core.ensures.recorded in
    seeks_ok a b asked asked (Some c.in_ok-below-in-Closed.below)
    (added_stays_good c.adding_stays_good.ensures a b asked call.continues call.whole)
    (bounds_go_on c.turn_lines_join.ensures a b call.continues)

pub propose-requires-clause-problem : goal.propose-requires-clause-problem
propose-requires-clause-problem g c = c.in_ok-core.ensures.recorded.continues.problem ∙ c.requires.problem

pub propose-requires-clause-count : goal.propose-requires-clause-count
propose-requires-clause-count g c =
    c.requires.count ∙ ap (λ (p : ProblemValue). length p.costs) (sym c.in_ok-core.ensures.recorded.continues.problem)

pub returns-in_err-below-in-Model-clause-seeks : goal.returns-in_err-below-in-Model-clause-seeks
returns-in_err-below-in-Model-clause-seeks g c =
    let R = g.O.Recorder in
    let a = R.seen c.args.oracle.now in
    let b = R.seen c.ask.new.rec in
    let asked = c.args.bounds.now in
    seeks_memory a b asked asked c.from_residual-in_err-below-in-Model.result c.from_residual-in_err-below-in-Model.ensures.1
    (bounds_go_on c.turn_lines_join.ensures a b c.in_ok-core.ensures.recorded.continues)

pub returns-in-Model-clause-seeks : goal.returns-in-Model-clause-seeks
returns-in-Model-clause-seeks g c =
    let R = g.O.Recorder in
    let a = R.seen c.args.oracle.now in
    let b = R.seen c.ask.new.rec in
    let asked = c.args.bounds.now in
    let call = c.in_ok-core.ensures.recorded in
    seeks_ok a b asked asked c.in_ok-below-in-Model.below (added_stays_good c.adding_stays_good.ensures a b asked call.continues call.whole)
    (bounds_go_on c.turn_lines_join.ensures a b call.continues)

pub returns-clause-seeks : goal.returns-clause-seeks
returns-clause-seeks g c =
    let R = g.O.Recorder in
    let a = R.seen c.args.oracle.now in
    let b = R.seen c.ask.new.rec in
    let asked = c.args.bounds.now in
    let call = c.in_ok-core.ensures.recorded in
    seeks_ok a b asked asked None (added_stays_good c.adding_stays_good.ensures a b asked call.continues call.whole)
    (bounds_go_on c.turn_lines_join.ensures a b call.continues)
