-- Why an instance file isn't read, or a list isn't taken.
use Rattle.std.proofs.Common.{◌≡◌, ℕ, zero, suc, ◌<◌, ◌≤◌, ◌^◌, true, List, length, sym, subst, arith}
use Rattle.std.specs.Prelude.{Option, Result, Ok, Err, IfOk, IfErr}
use Rattle.scut_base.specs.Files.{Files}
use Rattle.scut_base.specs.Faults.{Faults}
use Rattle.scut_base.specs.World.{World}
use Rattle.scut_base.specs.declared.shelf.ShelfCall.TheVariants.{Read}
use Rattle.front_text.specs.Spelling.{Spells}
use Rattle.instance.specs.ParetoFront.{AreProblemVectors}
use Rattle.instance.specs.Shape.{InstanceValue}
use Rattle.log_checker.specs.Accepted.{IsRightList}
use Rattle.log_checker.specs.ListFaults.{IsListFault}
use Rattle.instance.specs.Reading.{IsFaultOf}
use Rattle.instance.specs.declared.fault.ReadFault.{ReadFault}
use Rattle.instance.specs.declared.fault.ReadFault.TheVariants.{Bad, Limit, NoMemory}
use Rattle.command_base.specs.InstanceFile.{fault_in}
use Rattle.command_base.specs.Causes.{HasText}
use Rattle.command_base.specs.Inputs.{IsInput, IsListed, OfInstance}
use Rattle.command_base.specs.Stops.{IsInputStop, IsListStop, IsListedStop}
use Rattle.command_base.specs.StopsFrom.{input_of_reading}
use Rattle.command_base.specs.Views.{OnlyReads}
use Rattle.command_base.specs.WholeFile.{IsWhole}
use Rattle.command_base.specs.declared.input.Input.{Input}
use Rattle.command_base.specs.declared.input.Listed.{Listed}
use Rattle.command_base.specs.declared.instance_file.Format.{Format}
use Rattle.command_base.specs.declared.stops.ListStop.{ListStop}
use Rattle.command_base.specs.declared.stops.ListStop.TheVariants.{Input as InputStopped, Refused as ListWrong, Large as ListLarge, NoMemory as ListMemory, ShelfFailed as ListFailed}
use Rattle.command_base.proofs.Answered.{rose_at_last}
use Rattle.command_base.proofs.InstanceFiles.{limit_has_line}

-- a fault of the text
pub input_fault : (fault : ReadFault) (files : Option Files) (before after : Faults) (format : Format) (input bytes : List ℕ) → IsWhole files input bytes → length bytes < 2 ^ 32 → IsFaultOf (fault_in format bytes) fault → IsInputStop format input (input_of_reading fault) files before after
input_fault (Bad line kind) files before after format input bytes read small first = λ told. (bytes, read told, record { taken = small; first = first })
input_fault (Limit zero which) files before after format input bytes read small first = absurd (limit_has_line format bytes which first)
input_fault (Limit (suc line) which) files before after format input bytes read small first = (omega arith, λ told. (bytes, read told, record { taken = small; first = first }))
input_fault NoMemory files before after format input bytes read small first = tt

-- ---- the list of an instance that was read

module _ (before mid : World) (format : Format) (input list : List ℕ) (it : Input) (reads : OnlyReads before mid) (read : IsInput before.files format input it.inst it.problem) where
  earlier_text : (name : List ℕ) (P : List ℕ → Type 0) → HasText mid.files name P → HasText before.files name P
  earlier_text name P has = subst (λ (files : Option Files). HasText files name P) reads.files has

  of_list : (P : InstanceValue → Type 0) → P it.inst → OfInstance before.files format input P
  of_list P holds = λ told. let found = read.text told in (found.0, found.1, (it.inst, found.2, holds))

  -- it is the list of right entries
  pub list_is : (result : Result Listed ListStop) → IfOk result (λ l. l.input ≡ it) → IfOk result (λ l. HasText mid.files list (λ listed. (length listed < 2 ^ 32) × Spells listed true l.entries))
      → IfOk result (λ l. IsRightList it.inst l.entries) → IfOk result (λ l. AreProblemVectors it.inst l.entries) → IfOk result (λ l. IsListed before.files format input list l.input.inst l.input.problem l.entries)
  list_is (Ok l) same listed right vectors =
      subst (λ (i : Input). IsListed before.files format input list i.inst i.problem l.entries) (sym same)
      (record { read = read; listed = earlier_text list (λ listed. (length listed < 2 ^ 32) × Spells listed true l.entries) listed; right = right; vectors = vectors })
  list_is (Err stop) same listed right vectors = tt

  -- it isn't taken
  pub list_stop : (after : Faults) (result : Result Listed ListStop) → IfErr result (λ stop. IsListStop it.inst list stop mid.files mid.faults after) → IfErr result (λ stop. IsListedStop format input list stop before.files before.faults after)
  list_stop after (Ok l) stop = tt
  list_stop after (Err (InputStopped inner)) stop = absurd stop
  list_stop after (Err (ListWrong k why)) stop = of_list _ (earlier_text list (λ listed. (length listed < 2 ^ 32) × IsListFault it.inst listed k why) stop)
  list_stop after (Err ListLarge) stop = of_list _ (earlier_text list (λ listed. 2 ^ 32 ≤ length listed) stop)
  list_stop after (Err ListMemory) stop = tt
  list_stop after (Err ListFailed) stop = rose_at_last _ _ _ (reads.later Read list) stop
