-- Nothing that is left meets the aim.
use Rattle.bioptsat.proofs.Aiming.{aim_falls, given_serves, gives_up}
use Rattle.bioptsat.proofs.aim.AimAims.none_left.Goals as goal

pub returns-clause-moved : goal.returns-clause-moved
returns-clause-moved c = λ a m serves tells.
    let aim = c.args.self.now in
    let now = c.give_up.new.self in
    let stands = c.args._stands.now in (
      aim_falls m aim now stands tells c.give_up.ensures,
      gives_up m aim now stands tells c.give_up.ensures,
      given_serves m.problem aim now serves c.give_up.ensures,
    )
