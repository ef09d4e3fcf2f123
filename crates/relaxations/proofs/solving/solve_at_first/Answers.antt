use Rattle.std.proofs.Common.{◌∙◌, arith, sym}
use Rattle.relaxations.proofs.Limited.{may_be_asked}
use Rattle.relaxations.proofs.LimitedCalls.{answer_seeks, fault_seeks, spent_seeks}
use Rattle.relaxations.proofs.solving.solve_at_first.Goals as goal

pub solve_limited-told-requires : goal.solve_limited-told-requires
solve_limited-told-requires g c =
    let a = let R = g.O.Recorder in R.seen c.args.oracle.now in
    may_be_asked a c.args.bounds.now c.state.result.now 1000 c.args.lits.now c.requires.good c.state.ensures.replays
    (omega (arith, c.learned.ensures, c.if-learned-ge-FIRST_CLAUSES.false)) c.requires.assumptions

pub returns-then-has_spent-clause-seeks : goal.returns-then-has_spent-clause-seeks
returns-then-has_spent-clause-seeks g c =
    let R = g.O.Recorder in
    spent_seeks c.asking_stays_good.ensures c.turn_lines_join.ensures (R.seen c.args.oracle.now) (R.seen c.solve_limited-told.new.self)
    c.args.bounds.now 1000 c.args.lits.now c.solve_limited-told.result c.solve_limited-told.ensures
    (sym c.has_spent.ensures ∙ c.if-has_spent.true)

pub returns-in-Ok-clause-seeks : goal.returns-in-Ok-clause-seeks
returns-in-Ok-clause-seeks g c =
    let R = g.O.Recorder in
    answer_seeks c.asking_stays_good.ensures c.turn_lines_join.ensures (R.seen c.args.oracle.now) (R.seen c.solve_limited-told.new.self)
    c.args.bounds.now 1000 c.args.lits.now c.solve_limited-told.result c.solve_limited-told.ensures c.in-Ok.answer c.in-Ok.is

pub returns-in-Err-clause-seeks : goal.returns-in-Err-clause-seeks
returns-in-Err-clause-seeks g c =
    let R = g.O.Recorder in
    fault_seeks c.asking_stays_good.ensures c.turn_lines_join.ensures (R.seen c.args.oracle.now) (R.seen c.solve_limited-told.new.self)
    c.args.bounds.now 1000 c.args.lits.now c.solve_limited-told.result c.solve_limited-told.ensures c.in-Err.fault c.in-Err.is
    (sym c.has_spent.ensures ∙ c.if-has_spent.false)
