-- Where the command `trim` completes.
use Rattle.std.proofs.Common.{◌≡◌, ◌≢◌, refl, inl, inr}
use Rattle.scut_base.specs.World.{World}
use Rattle.command_base.specs.Answering.{Answered, AnyRose, OwnRose}
use Rattle.command_base.specs.declared.status.Status.{Status}
use Rattle.command_base.specs.Views.{view}
use Rattle.command_base.specs.declared.status.Status.TheVariants.{Accepted, Refused, Trimmed, NoMemory, ShelfFailed}
use Rattle.command_check.specs.Table.{CheckTable, IsCheckEnd, check_calls}
use Rattle.command_check.proofs.Completing.{check_completes}
use Rattle.command_trim.specs.Table.{AreTrimmable, TrimCompletes, TrimTable, trim_calls}
use Rattle.command_trim.specs.Words.{TrimAsked, check_of}

module _ (a : TrimAsked) (before after : World) where
  -- what `check` calls, `trim` calls
  own_rose_too : OwnRose (check_calls (check_of a)) before.files before.faults after.faults → OwnRose (trim_calls a) before.files before.faults after.faults
  own_rose_too rose = record { call = by rose.call }
    where
      by : AnyRose before.files before.faults after.faults (check_calls (check_of a)) → AnyRose before.files before.faults after.faults (trim_calls a)
      by (inl input) = inl input
      by (inr (inl list)) = inr (inl list)
      by (inr (inr (inl log))) = inr (inr (inl log))
      by (inr (inr (inr (inl said)))) = inr (inr (inr (inr (inr (inl said)))))
      by (inr (inr (inr (inr none)))) = absurd none

  -- what `check` would have come to
  check_end : (status : Status) → Answered (TrimTable a) (trim_calls a) status before after → CheckTable (check_of a) status (view before) (view after) → (are : AreTrimmable a before.files) → ¬ (OwnRose (trim_calls a) before.files before.faults after.faults) → status ≢ NoMemory
      → status ≢ ShelfFailed → IsCheckEnd (check_of a) before.files are.checkable status
  check_end status was row are quiet other failed =
      check_completes (check_of a) status before after (record { table = row; cause = λ is. absurd (failed is); later = was.later }) are.checkable (λ rose. quiet (own_rose_too rose)) other

pub trim_completes : (a : TrimAsked) (status : Status) (before after : World) → Answered (TrimTable a) (trim_calls a) status before after → TrimCompletes a status before after
trim_completes a (Trimmed kept total) before after was are quiet other = (kept, total, refl)
trim_completes a Accepted before after was are quiet other = absurd was.table
trim_completes a NoMemory before after was are quiet other = absurd (other refl)
trim_completes a ShelfFailed before after was are quiet other = absurd (quiet (was.cause refl))
trim_completes a (Refused fault) before after was are quiet other =
    let is : Refused fault ≡ Accepted = (check_end a before after (Refused fault) was was.table are quiet other (λ e. cc)).1 are.accepted in cc
trim_completes a status before after was are quiet other = absurd (check_end a before after status was was.table are quiet other (λ e. cc)).0
