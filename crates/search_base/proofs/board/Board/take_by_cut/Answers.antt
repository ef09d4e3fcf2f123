-- The model is tightened, its costs are asked for, its line is judged and added, and it is put onto the board.
use Rattle.std.proofs.Common.{◌≡◌, Bool, List, [], ◌∷◌, ◌++◌, sym, ap, ◌∙◌, subst, ℤ}
use Rattle.pb_lin.specs.Problem.{ProblemValue, problem_costs}
use Rattle.search_base.specs.Boards.{BoardValue}
use Rattle.search_base.specs.Cutting.{IsPut}
use Rattle.search_base.specs.Pending.{IsGoodBut, LogsByCut}
use Rattle.search_base.proofs.PendingModels.{good_pending, takes_pending}
use Rattle.search_base.proofs.Taking.{IsTightened, tightened_of}
use Rattle.search_base.proofs.Turning.{goes_again}
use Rattle.search_base.proofs.board.Board.take_by_cut.Goals as goal

pub returns-in_err-b-clause-goes_on : goal.returns-in_err-b-clause-goes_on
returns-in_err-b-clause-goes_on g c =
    let R = g.R.Recorder in
    goes_again (R.seen c.args.rec.now)

pub returns-in_err-costs-clause-goes_on : goal.returns-in_err-costs-clause-goes_on
returns-in_err-costs-clause-goes_on g c =
    let R = g.R.Recorder in
    goes_again (R.seen c.args.rec.now)

pub returns-clause-good : goal.returns-clause-good
returns-clause-good g c =
    let R = g.R.Recorder in
    let a = R.seen c.args.rec.now in
    let b = R.seen c.log_by_cut.new.rec in
    let y = c.args.a.now in
    let x = c.in_ok-b.b in
    let p = c.self.inside.problem.now in
    let same : p ≡ a.problem = ap (λ (d : BoardValue). d.problem) c.self.view_is ∙ c.requires.good.problem in
    let tight : IsTightened c.args.self.now.instance a.problem y x =
    tightened_of c.self.inside.instance.now c.args.self.now.instance p a.problem y x
    (ap (λ (d : BoardValue). d.instance) c.self.view_is) same (record {
      limits = c.vars-instance.ensures.limits;
      problem = c.vars-problem.ensures.problem;
      value = rw c.in_ok-b.ensures.ok at c.tighten.ensures.value;
      model = rw c.in_ok-b.ensures.ok at c.tighten.ensures.model;
      costs = rw c.in_ok-b.ensures.ok at c.tighten.ensures.costs;
      below = rw c.in_ok-b.ensures.ok at c.tighten.ensures.below;
    }) in
    let logs : LogsByCut a b x c.args.cut c.args.rows =
    rw c.if-not-branch.false at c.in_ok-log_by_cut.ensures.logged in
    let more : c.push.new.self ≡ c.args.pending.now ++ x ∷ [] = rw c.in_ok-in_memory-2.ensures.ok at c.push.ensures.ok in
    let costs : c.in_ok-costs.costs ≡ problem_costs p x = rw c.in_ok-costs.ensures.ok at c.costs_at.ensures in
    let put : IsPut c.args.self.now c.put.new.self (problem_costs a.problem x) x =
    subst (λ (vs : List ℤ). IsPut c.args.self.now c.put.new.self vs x)
    (costs ∙ ap (λ (q : ProblemValue). problem_costs q x) same)
    (rw c.in_ok-in_memory.ensures.ok at c.put.ensures.put) in
    subst (λ (xs : List (List Bool)). IsGoodBut b c.args.bounds.now c.put.new.self xs) (sym more)
    (good_pending a b c.args.bounds.now c.args.self.now c.args.pending.now y x c.args.cut c.args.rows c.requires.good
    c.requires.model tight logs c.own_lines_stay.ensures c.fitting_stays.ensures c.reform_stays.ensures c.put.new.self
    c.in_ok-log_by_cut.ensures.goes_on put)

pub returns-clause-taken : goal.returns-clause-taken
returns-clause-taken g c =
    let R = g.R.Recorder in
    let a = R.seen c.args.rec.now in
    let b = R.seen c.log_by_cut.new.rec in
    let y = c.args.a.now in
    let x = c.in_ok-b.b in
    let p = c.self.inside.problem.now in
    let same : p ≡ a.problem = ap (λ (d : BoardValue). d.problem) c.self.view_is ∙ c.requires.good.problem in
    let tight : IsTightened c.args.self.now.instance a.problem y x =
    tightened_of c.self.inside.instance.now c.args.self.now.instance p a.problem y x
    (ap (λ (d : BoardValue). d.instance) c.self.view_is) same (record {
      limits = c.vars-instance.ensures.limits;
      problem = c.vars-problem.ensures.problem;
      value = rw c.in_ok-b.ensures.ok at c.tighten.ensures.value;
      model = rw c.in_ok-b.ensures.ok at c.tighten.ensures.model;
      costs = rw c.in_ok-b.ensures.ok at c.tighten.ensures.costs;
      below = rw c.in_ok-b.ensures.ok at c.tighten.ensures.below;
    }) in
    let logs : LogsByCut a b x c.args.cut c.args.rows =
    rw c.if-not-branch.false at c.in_ok-log_by_cut.ensures.logged in
    let more : c.push.new.self ≡ c.args.pending.now ++ x ∷ [] = rw c.in_ok-in_memory-2.ensures.ok at c.push.ensures.ok in
    takes_pending a b c.args.bounds.now c.args.self.now c.args.pending.now y x c.args.cut c.args.rows c.requires.good
    c.requires.model tight logs c.push.new.self more
