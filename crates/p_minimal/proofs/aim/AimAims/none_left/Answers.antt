-- Nothing that is left has costs below the aim.
use Rattle.p_minimal.proofs.Aims.{none_told}
use Rattle.p_minimal.proofs.aim.AimAims.none_left.Goals as goal

pub returns-clause-moved : goal.returns-clause-moved
returns-clause-moved c = λ a m serves tells.
    let told = none_told m c.args.self.now c.args._stands.now tells in
    (told.0, told.1, tt)
