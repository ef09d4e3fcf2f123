use Rattle.std.proofs.Common.{refl}
use Rattle.log_checker.proofs.Comparing.{right_push}
use Rattle.log_checker.proofs.list.place_fault.Goals as goal

pub returns-clause-right : goal.returns-clause-right
returns-clause-right c = λ passed. right_push c.args.inst.now c.args.before.now c.args.entry.now c.requires.before c.requires.entry
    (c.if-not-comes_after.ensures.0 refl) (c.if-has_comparable.ensures.none refl)
