-- What the text of an instance file spells, in either format.
use Rattle.std.proofs.Common.{◌≡◌, ℕ, zero, List, arith}
use Rattle.std.specs.Prelude.{Some, None}
use Rattle.instance.specs.Shape.{InstanceValue}
use Rattle.instance.specs.declared.fault.InstanceLimit.{InstanceLimit}
use Rattle.instance.specs.declared.fault.ReadFault.TheVariants.{Limit}
use Rattle.mcnf_reader.proofs.Texts.{one_spelled as one_mcnf}
use Rattle.mcnf_reader.proofs.TextFaults.{no_fault as mcnf_no_fault}
use Rattle.mcnf_reader.proofs.FaultLines.{fault_has_line as mcnf_has_line}
use Rattle.mopb_reader.proofs.Texts.{one_spelled as one_opb}
use Rattle.mopb_reader.proofs.Faultless.{spelled_faultless as opb_no_fault}
use Rattle.mopb_reader.proofs.FaultLines.{fault_has_line as opb_has_line}
use Rattle.command_base.specs.InstanceFile.{SpellsIn, fault_in}
use Rattle.command_base.specs.declared.instance_file.Format.{Format}
use Rattle.command_base.specs.declared.instance_file.Format.TheVariants.{Mcnf, Opb}

-- a limit is reached at a line counted from 1
pub limit_has_line : (format : Format) (text : List ℕ) (which : InstanceLimit) → fault_in format text ≡ Some (Limit zero which) → ⊥
limit_has_line Mcnf text which e = omega (arith, mcnf_has_line text (Limit zero which) e)
limit_has_line Opb text which e = omega (arith, opb_has_line text (Limit zero which) e)

-- a text that spells an instance has no fault
pub no_fault_spelled : (format : Format) (text : List ℕ) (i : InstanceValue) → SpellsIn format text i → fault_in format text ≡ None
no_fault_spelled Mcnf text i spelled = mcnf_no_fault text i spelled
no_fault_spelled Opb text i spelled = opb_no_fault text i spelled

-- a text spells one instance at most
pub one_in : (format : Format) (text : List ℕ) (i j : InstanceValue) → SpellsIn format text i → SpellsIn format text j → i ≡ j
one_in Mcnf text i j left right = one_mcnf text i j left right
one_in Opb text i j left right = one_opb text i j left right
