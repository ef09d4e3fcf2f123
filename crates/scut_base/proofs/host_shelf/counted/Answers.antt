use Rattle.std.proofs.Common.{◌≡◌, arith}
use Rattle.scut_base.specs.declared.shelf.ShelfFault.TheVariants.{Failed}
use Rattle.scut_base.proofs.FaultLaws.{plain_cause}
use Rattle.scut_base.proofs.host_shelf.counted.Goals as goal

pub returns-in-Err-clause-cause : goal.returns-in-Err-clause-cause
returns-in-Err-clause-cause g c = λ call name. plain_cause call name _ _ _ c.fault_of.ensures.later (λ e.
    let failed : c.fault_of.result ≡ Failed = cc in
    let risen = c.fault_of.ensures.counted failed in
    omega arith)
