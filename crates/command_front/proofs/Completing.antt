-- Where the command `front` completes.
use Rattle.std.proofs.Common.{◌≡◌, ℕ, zero, List, refl, ◌∙◌, ap, arith}
use Rattle.scut_base.specs.World.{World}
use Rattle.instance.specs.Shape.{InstanceValue}
use Rattle.instance.specs.declared.fault.InstanceLimit.TheVariants.{Vars}
use Rattle.command_base.specs.Answering.{Answered}
use Rattle.command_base.specs.InstanceFile.{IsTextOf}
use Rattle.command_base.specs.Views.{view}
use Rattle.command_base.specs.declared.status.Status.{Status}
use Rattle.command_base.specs.declared.status.Status.TheVariants.{Complete, TooLarge, NoMemory, ShelfFailed}
use Rattle.command_base.proofs.InstanceFiles.{one_in}
use Rattle.command_base.proofs.Readable.{of_text, readable}
use Rattle.command_front.specs.Table.{FrontCompletes, FrontTable, HasManyVariables, IsSmall, front_calls}
use Rattle.command_front.specs.Words.{FrontAsked}

-- an instance of few variables doesn't have many
few_not_many : (a : FrontAsked) (files : _) (small : IsSmall a files) → HasManyVariables a.format small.text → ⊥
few_not_many a files small many =
    let same : small.instance.vars ≡ many.0.vars = ap (λ (i : InstanceValue). i.vars) (one_in a.format small.text small.instance many.0 small.spelled.spelled many.1.spelled) in
    omega (arith, small.few, many.2, same)

pub front_completes : (a : FrontAsked) (status : Status) (before after : World) → Answered (FrontTable a) (front_calls a) status before after → FrontCompletes a status before after
front_completes a (Complete size) before after was small quiet other = tt
front_completes a (TooLarge zero Vars) before after was small quiet other =
    few_not_many a before.files small (of_text before.files a.input small.text (HasManyVariables a.format) small.there was.table.cause)
front_completes a NoMemory before after was small quiet other = other refl
front_completes a ShelfFailed before after was small quiet other = quiet (was.cause refl)
front_completes a status before after was small quiet other =
    readable a.format a.input small.text small.instance status (view before) (view after) small.there small.spelled was.table
