-- The vector that was logged for the model is the new aim.
use Rattle.std.proofs.Common.{◌≡◌, ◌∙◌}
use Rattle.p_minimal.proofs.Aims.{aims_lower, serves_after}
use Rattle.p_minimal.proofs.aim.AimAims.found.Goals as goal

pub returns-clause-found : goal.returns-clause-found
returns-clause-found c =
    let now = c.in_ok-self-inside.field-0 in
    let copied : now ≡ c.args.board.now.last = c.in_ok-self-inside.ensures ∙ c.last.ensures in
    λ a m b x serves tells took. (
      aims_lower m b x c.args.board.now now took.taken took.same took.board copied a c.args.self.now took.problem
          took.none tells,
      serves_after m b x c.args.board.now now took.taken took.same took.board copied,
    )
