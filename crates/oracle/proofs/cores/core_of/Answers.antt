use Rattle.std.proofs.Common.{refl, subst}
use Rattle.std.specs.List.{All, Contains}
use Rattle.oracle.proofs.cores.core_of.Goals as goal

pub returns-then-are_among-clause-among : goal.returns-then-are_among-clause-among
returns-then-are_among-clause-among c =
    subst (All (Contains c.args.assumed.now)) c.as_slice.ensures (c.if-are_among.ensures refl)
