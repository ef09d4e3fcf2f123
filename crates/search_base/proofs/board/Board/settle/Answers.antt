-- Each pending model is logged once more, until none is left.
use Rattle.std.proofs.Common.{◌≡◌, Bool, List, [], ◌∷◌, ◌++◌, refl, sym, subst}
use Rattle.std.specs.List.{All}
use Rattle.totalizer.specs.declared.reform.Reform.{Reform}
use Rattle.search_base.specs.Pending.{IsGoodBut}
use Rattle.search_base.proofs.GoodBut.{good_again}
use Rattle.search_base.proofs.TakenLines.{none_taken, taken_twice}
use Rattle.search_base.proofs.Turning.{board_again, board_twice, goes_again, goes_twice}
use Rattle.search_base.proofs.board.Board.settle.Goals as goal

pub loop-model-init : goal.loop-model-init
loop-model-init g c =
    let R = g.R.Recorder in
    record {
      good = c.requires.good;
      own = c.requires.own;
      on = goes_again (R.seen c.args.rec.now);
      lines = let a = R.seen c.args.rec.now in none_taken a.lines a.lines refl;
      board = board_again c.args.self.now;
    }

pub returns-in_err-settle_one-clause-goes_on : goal.returns-in_err-settle_one-clause-goes_on
returns-in_err-settle_one-clause-goes_on g c =
    let R = g.R.Recorder in
    goes_twice (R.seen c.args.rec.now) (R.seen c.loop-model.rec) (R.seen c.settle_one.new.rec) c.loop-model.invariant.on
    c.in_err-settle_one.ensures.goes_on

pub loop-model-preserved : goal.loop-model-preserved
loop-model-preserved g c =
    let R = g.R.Recorder in
    let a = R.seen c.args.rec.now in
    let b = R.seen c.loop-model.rec in
    let d = R.seen c.settle_one.new.rec in
    let was = c.loop-model.invariant in
    let call = c.in_ok-settle_one.ensures in
    let before : c.loop-model.pending ≡ c.pop.new.self ++ c.in-Some.model ∷ [] = c.in-Some.ensures in
    record {
      good = call.good c.pop.new.self
          (subst (λ (xs : List (List Bool)). IsGoodBut b c.loop-model.bounds c.loop-model.self xs) before was.good);
      own = subst (λ (rs : List Reform). All (λ r. r.lower_line ≡ 0) rs) (sym call.own) was.own;
      on = goes_twice a b d was.on call.goes_on;
      lines = taken_twice a.lines b.lines d.lines was.lines call.lines;
      board = board_twice c.args.self.now c.loop-model.self c.settle_one.new.self was.board call.board;
    }

pub returns-clause-good : goal.returns-clause-good
returns-clause-good g c =
    let R = g.R.Recorder in
    let none : c.loop-model.pending ≡ [] = c.in_default.ensures.0 in
    good_again (R.seen c.loop-model.rec) c.loop-model.bounds c.loop-model.self
    (subst (λ (xs : List (List Bool)). IsGoodBut (R.seen c.loop-model.rec) c.loop-model.bounds c.loop-model.self xs) none
    c.loop-model.invariant.good)

pub returns-in_err-settle_one-clause-lines : goal.returns-in_err-settle_one-clause-lines
returns-in_err-settle_one-clause-lines g c =
    let R = g.R.Recorder in
    let a = R.seen c.args.rec.now in
    let b = R.seen c.loop-model.rec in
    let d = R.seen c.settle_one.new.rec in
    taken_twice a.lines b.lines d.lines c.loop-model.invariant.lines c.in_err-settle_one.ensures.lines
