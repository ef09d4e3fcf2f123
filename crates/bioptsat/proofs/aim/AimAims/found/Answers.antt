-- The vector that was logged for the model is the new aim.
use Rattle.std.proofs.Common.{◌≡◌, length, ap, ◌∙◌}
use Rattle.pb_lin.specs.Problem.{ProblemValue}
use Rattle.bioptsat.proofs.Aiming.{improves, serves_after}
use Rattle.bioptsat.proofs.aim.AimAims.found.Goals as goal

pub returns-clause-found : goal.returns-clause-found
returns-clause-found c =
    let now = c.in_ok-self.field-0 in
    λ a m b x serves tells took.
    let two : length m.problem.costs ≡ 2 = ap (λ (p : ProblemValue). length p.costs) took.problem ∙ serves.count in (
      improves m b x c.args.board.now c.args.self.now now two took.taken took.same took.board c.in_ok-self.ensures a
          took.problem took.none tells,
      serves_after m b x c.args.board.now c.args.self.now now two took.taken took.same took.board c.in_ok-self.ensures,
    )
