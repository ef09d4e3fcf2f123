-- A model that was wanted is taken, and what is told of what is wanted is told of the aim.
use Rattle.std.proofs.Common.{◌∙◌, Result, Err, ap, sym, subst}
use Rattle.std.proofs.lemmas.Result.{err_from_is_err_and}
use Rattle.std.proofs.lemmas.Slice.Zip.{AllZip-long}
use Rattle.oracle.specs.declared.fault.OracleFault.{OracleFault}
use Rattle.search_base.specs.CostBounds.{BoundsRow}
use Rattle.search_base.specs.Turns.{IsInOrder}
use Rattle.search_base.specs.declared.turn.Turn.{Turn}
use Rattle.search_base.proofs.Turning.{finds_after, goes_again, goes_twice}
use Rattle.relaxations.specs.declared.below.Below.TheVariants.{Above, Model}
use Rattle.relaxations.proofs.OpeningCalls.{ended}
use Rattle.relaxations.proofs.Wanting.{end_line, takable, told_of_aim}
use Rattle.relaxations.proofs.relaxations.Relaxations.turn.Goals as goal

pub returns-in_err-wanted-clause-goes_on : goal.returns-in_err-wanted-clause-goes_on
returns-in_err-wanted-clause-goes_on g c = let R = g.O.Recorder in goes_again (R.seen c.args.oracle.now)

pub returns-in_err-take-in-Model-clause-goes_on : goal.returns-in_err-take-in-Model-clause-goes_on
returns-in_err-take-in-Model-clause-goes_on g c =
    let R = g.O.Recorder in
    goes_twice (R.seen c.args.oracle.now) (R.seen c.ask.new.oracle) (R.seen c.take.new.rec)
    c.ask.ensures.seeks.goes_on c.take.ensures.goes_on

pub returns-in_err-take-in-Model-clause-good : goal.returns-in_err-take-in-Model-clause-good
returns-in_err-take-in-Model-clause-good g c =
    let call = c.from_residual-in_err-take-in-Model in
    let is = err_from_is_err_and call.result call.ensures.1 in
    λ order. absurd (ended Turn c.in_err-take-in-Model.field-0.0
    (subst (λ (r : Result Turn OracleFault). IsInOrder r) (is.1 ∙ ap (λ (f : OracleFault). Err f) is.2) order))

pub returns-in_err-exclude_last-in-Model-clause-goes_on : goal.returns-in_err-exclude_last-in-Model-clause-goes_on
returns-in_err-exclude_last-in-Model-clause-goes_on g c =
    let R = g.O.Recorder in
    goes_twice (R.seen c.args.oracle.now) (R.seen c.ask.new.oracle) (R.seen c.take.new.rec)
    c.ask.ensures.seeks.goes_on c.take.ensures.goes_on

pub returns-in_err-found-in-Model-clause-goes_on : goal.returns-in_err-found-in-Model-clause-goes_on
returns-in_err-found-in-Model-clause-goes_on g c =
    let R = g.O.Recorder in
    goes_twice (R.seen c.args.oracle.now) (R.seen c.ask.new.oracle) (R.seen c.take.new.rec)
    c.ask.ensures.seeks.goes_on c.take.ensures.goes_on

pub returns-in-Model-clause-goes_on : goal.returns-in-Model-clause-goes_on
returns-in-Model-clause-goes_on g c =
    let R = g.O.Recorder in
    goes_twice (R.seen c.args.oracle.now) (R.seen c.ask.new.oracle) (R.seen c.take.new.rec)
    c.ask.ensures.seeks.goes_on c.take.ensures.goes_on

pub ask-requires-clause-wanted : goal.ask-requires-clause-wanted
ask-requires-clause-wanted g c =
    let R = g.O.Recorder in
    c.in_ok-wanted.ensures.of (R.seen c.args.oracle.now).problem c.requires.serves

pub take-requires-clause-model : goal.take-requires-clause-model
take-requires-clause-model g c =
    let R = g.O.Recorder in
    takable (R.seen c.ask.new.oracle) c.in_ok-wanted.wanted c.in-Model.model (rw c.in-Model.is at c.in_ok-model.ensures.tells)

pub returns-in-Model-clause-turn : goal.returns-in-Model-clause-turn
returns-in-Model-clause-turn g c =
    let R = g.O.Recorder in
    let asked = c.in_ok-model.ensures in
    let stays = asked.seeks.good tt c.args.board.now c.requires.good in
    finds_after (R.seen c.args.oracle.now) (R.seen c.ask.new.oracle) (R.seen c.take.new.rec)
    asked.seeks.goes_on.problem stays.1 c.in_ok-take-in-Model.ensures.taken.found

pub returns-in-Model-clause-aim : goal.returns-in-Model-clause-aim
returns-in-Model-clause-aim g c =
    let R = g.O.Recorder in
    let A = g.A.Aims in
    let a = R.seen c.args.oracle.now in
    let m = R.seen c.ask.new.oracle in
    let b = R.seen c.take.new.rec in
    let asked = c.in_ok-model.ensures in
    let stays = asked.seeks.good tt c.args.board.now c.requires.good in
    let call = c.in_ok-take-in-Model.ensures in
    let told = told_of_aim A.serves A.tells a m c.args.bounds.now c.args.aims.now c.in_ok-wanted.wanted
    (Model c.in-Model.model) (c.args.board.now, c.requires.good) asked.seeks.goes_on.problem c.requires.serves
    c.in_ok-wanted.ensures.tells (rw c.in-Model.is at asked.tells) in
    (c.in_ok-found-in-Model.ensures.found a m b c.in-Model.model c.requires.serves told (record {
      problem = asked.seeks.goes_on.problem;
      none = stays.1;
      before = c.args.board.now;
      taken = call.taken;
      same = call.goes_on.problem;
      board = call.good.board;
    })).0

pub returns-in-Model-clause-serves : goal.returns-in-Model-clause-serves
returns-in-Model-clause-serves g c =
    let R = g.O.Recorder in
    let A = g.A.Aims in
    let a = R.seen c.args.oracle.now in
    let m = R.seen c.ask.new.oracle in
    let b = R.seen c.take.new.rec in
    let asked = c.in_ok-model.ensures in
    let stays = asked.seeks.good tt c.args.board.now c.requires.good in
    let call = c.in_ok-take-in-Model.ensures in
    let told = told_of_aim A.serves A.tells a m c.args.bounds.now c.args.aims.now c.in_ok-wanted.wanted
    (Model c.in-Model.model) (c.args.board.now, c.requires.good) asked.seeks.goes_on.problem c.requires.serves
    c.in_ok-wanted.ensures.tells (rw c.in-Model.is at asked.tells) in
    λ order. (c.in_ok-found-in-Model.ensures.found a m b c.in-Model.model c.requires.serves told (record {
      problem = asked.seeks.goes_on.problem;
      none = stays.1;
      before = c.args.board.now;
      taken = call.taken;
      same = call.goes_on.problem;
      board = call.good.board;
    })).1

-- ---- where none was taken

pub returns-in_err-model-clause-serves : goal.returns-in_err-model-clause-serves
returns-in_err-model-clause-serves g c =
    λ order. subst (g.A.Aims.serves c.args.aims.now) (sym c.ask.ensures.seeks.goes_on.problem) c.requires.serves

pub returns-in-End-clause-serves : goal.returns-in-End-clause-serves
returns-in-End-clause-serves g c =
    λ order. subst (g.A.Aims.serves c.args.aims.now) (sym c.ask.ensures.seeks.goes_on.problem) c.requires.serves

pub returns-in-End-clause-turn : goal.returns-in-End-clause-turn
returns-in-End-clause-turn g c =
    let R = g.O.Recorder in
    let m = R.seen c.ask.new.oracle in
    let asked = c.in_ok-model.ensures in
    let stays = asked.seeks.good tt c.args.board.now c.requires.good in
    (stays.1, end_line m c.in_ok-wanted.wanted c.in-End.id (rw c.in-End.is at asked.tells))

pub returns-in-End-clause-aim : goal.returns-in-End-clause-aim
returns-in-End-clause-aim g c =
    let R = g.O.Recorder in
    g.met.A.Aims.finished (R.seen c.args.oracle.now) (R.seen c.ask.new.oracle) c.args.aims.now c.in-End.id

pub none_left-requires-clause-fits : goal.none_left-requires-clause-fits
none_left-requires-clause-fits g c =
    let m = g.O.Recorder.seen c.ask.new.oracle in
    let good = (c.in_ok-model.ensures.seeks.good tt c.args.board.now c.requires.good).0 in
    (m, good.ready, good.bounds)

pub none_left-requires-clause-told : goal.none_left-requires-clause-told
none_left-requires-clause-told g c =
    let R = g.O.Recorder in
    let A = g.A.Aims in
    let a = R.seen c.args.oracle.now in
    let m = R.seen c.ask.new.oracle in
    let asked = c.in_ok-model.ensures in
    let good = (asked.seeks.good tt c.args.board.now c.requires.good).0 in
    let told = told_of_aim A.serves A.tells a m c.args.bounds.now c.args.aims.now c.in_ok-wanted.wanted
    (Above c.in-Above.stands) (c.args.board.now, c.requires.good) asked.seeks.goes_on.problem c.requires.serves
    c.in_ok-wanted.ensures.tells (rw c.in-Above.is at asked.tells) in (
      m,
      subst (A.serves c.args.aims.now) (sym asked.seeks.goes_on.problem) c.requires.serves,
      rw (← c.as_slice.ensures) at told,
      AllZip-long (BoundsRow m) m.problem.costs c.ask.new.bounds good.bounds.rows,
    )

pub returns-clause-turn : goal.returns-clause-turn
returns-clause-turn g c =
    let R = g.O.Recorder in
    let A = g.A.Aims in
    let a = R.seen c.args.oracle.now in
    let m = R.seen c.ask.new.oracle in
    let asked = c.in_ok-model.ensures in
    let stays = asked.seeks.good tt c.args.board.now c.requires.good in
    let told = told_of_aim A.serves A.tells a m c.args.bounds.now c.args.aims.now c.in_ok-wanted.wanted
    (Above c.in-Above.stands) (c.args.board.now, c.requires.good) asked.seeks.goes_on.problem c.requires.serves
    c.in_ok-wanted.ensures.tells (rw c.in-Above.is at asked.tells) in (
      stays.1,
      (c.in_ok-none_left-in-Above.ensures.moved a m
          (subst (A.serves c.args.aims.now) (sym asked.seeks.goes_on.problem) c.requires.serves)
          (rw (← c.as_slice.ensures) at told)).0,
    )

pub returns-clause-aim : goal.returns-clause-aim
returns-clause-aim g c =
    let R = g.O.Recorder in
    let A = g.A.Aims in
    let a = R.seen c.args.oracle.now in
    let m = R.seen c.ask.new.oracle in
    let asked = c.in_ok-model.ensures in
    let told = told_of_aim A.serves A.tells a m c.args.bounds.now c.args.aims.now c.in_ok-wanted.wanted
    (Above c.in-Above.stands) (c.args.board.now, c.requires.good) asked.seeks.goes_on.problem c.requires.serves
    c.in_ok-wanted.ensures.tells (rw c.in-Above.is at asked.tells) in
    (c.in_ok-none_left-in-Above.ensures.moved a m
    (subst (A.serves c.args.aims.now) (sym asked.seeks.goes_on.problem) c.requires.serves)
    (rw (← c.as_slice.ensures) at told)).1

pub returns-clause-serves : goal.returns-clause-serves
returns-clause-serves g c =
    let R = g.O.Recorder in
    let A = g.A.Aims in
    let a = R.seen c.args.oracle.now in
    let m = R.seen c.ask.new.oracle in
    let asked = c.in_ok-model.ensures in
    let told = told_of_aim A.serves A.tells a m c.args.bounds.now c.args.aims.now c.in_ok-wanted.wanted
    (Above c.in-Above.stands) (c.args.board.now, c.requires.good) asked.seeks.goes_on.problem c.requires.serves
    c.in_ok-wanted.ensures.tells (rw c.in-Above.is at asked.tells) in
    λ order. (c.in_ok-none_left-in-Above.ensures.moved a m
    (subst (A.serves c.args.aims.now) (sym asked.seeks.goes_on.problem) c.requires.serves)
    (rw (← c.as_slice.ensures) at told)).2
