use Rattle.std.proofs.Common.{ℕ, List, subst}
use Rattle.instance.specs.Reading.{IsFaultOf}
use Rattle.command_base.specs.InstanceFile.{fault_in}
use Rattle.command_base.proofs.InputStops.{input_fault}
use Rattle.command_base.proofs.input.read_instance.Goals as goal

pub returns-clause-stop : goal.returns-clause-stop
returns-clause-stop g c =
    let whole = rw c.in-Some.is at c.in_ok-bytes.ensures.whole in
    rw c.from.ensures
    (input_fault c.in-Err.fault _ _ _ _ _ _ whole.0 whole.1 (subst (λ (t : List ℕ). IsFaultOf (fault_in c.args.format t) c.in-Err.fault) c.deref.ensures.value c.in-Err.ensures.fault))
