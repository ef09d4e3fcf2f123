-- How each end of writing a list is answered.
use Rattle.std.proofs.Common.{◌≡◌, ℕ, List, refl, ap, subst, ◌∙◌, inl, inr, arith}
use Rattle.std.specs.Prelude.{Option}
use Rattle.scut_base.specs.Files.{IsPartlyFollowed, IsPrefixOf, IsTouched, followed, with_file}
use Rattle.scut_base.specs.Faults.{NoneFell, WritingFailed}
use Rattle.scut_base.specs.World.{World}
use Rattle.scut_base.specs.declared.shelf.ShelfFault.{ShelfFault}
use Rattle.scut_base.specs.declared.shelf.ShelfFault.TheVariants.{Failed}
use Rattle.certified_front.specs.declared.ending.Ending.{Ending}
use Rattle.certified_front.specs.declared.ending.Ending.TheVariants.{Complete as EndingComplete, Incomplete as EndingIncomplete}
use Rattle.command_base.specs.Answering.{Answered, OwnRose, Runs, appending, beginning}
use Rattle.command_base.specs.Messages.{said_of}
use Rattle.command_base.specs.Saying.{Says}
use Rattle.command_base.specs.Statuses.{status_of_shelf}
use Rattle.command_base.specs.Views.{View, view}
use Rattle.command_base.specs.declared.status.Status.{Status}
use Rattle.command_base.specs.declared.status.Status.TheVariants.{NoMemory, ShelfFailed}
use Rattle.command_base.proofs.Answered.{idle, own_rose, said_last, shelf_fault}
use Rattle.command_solve.specs.Listing.{IsListPartlySaid, IsListUnsaid, IsListed, ListTable, list_calls, status_of}

row_listed : (list text : List ℕ) (size : ℕ) (how : Ending) (before after : View) → IsListed list text (status_of size how) before after → ListTable list text size how (status_of size how) before after
row_listed list text size EndingComplete before after done = (refl, done)
row_listed list text size (EndingIncomplete learned) before after done = (refl, done)

no_fault : (size : ℕ) (how : Ending) → status_of size how ≡ ShelfFailed → ⊥
no_fault size EndingComplete is = cc
no_fault size (EndingIncomplete learned) is = cc

module _ (list text : List ℕ) (size : ℕ) (how : Ending) where
  -- memory was wanted, and nothing has changed
  pub no_lines : (w : World) → Runs (ListTable list text size how) (list_calls list) NoMemory w w
  no_lines w = idle (ListTable list text size how) (list_calls list) w (inl (record { files = inl refl; said = refl }))

  -- LIST couldn't be written whole
  pub writing_stopped : (before after : World) (fault : ShelfFault) → IsTouched before.files after.files list (λ bytes. IsPrefixOf bytes text) → after.said ≡ before.said → (fault ≡ Failed → WritingFailed before.faults after.faults list) → NoneFell before.faults after.faults
      → Answered (ListTable list text size how) (list_calls list) (status_of_shelf fault) before after
  writing_stopped before after fault touched said rose later = shelf_fault (ListTable list text size how) (list_calls list) fault before after (inl unsaid) (inl unsaid) own later
    where
      unsaid : IsListUnsaid list text (view before) (view after)
      unsaid = record { files = touched; said = said }

      own : fault ≡ Failed → OwnRose (list_calls list) before.files before.faults after.faults
      own failed = elim (rose failed) [
        | inl begins ↦ own_rose (list_calls list) (beginning list) before.faults after.faults (0, omega arith, refl) begins
        | inr appends ↦ own_rose (list_calls list) (appending list) before.faults after.faults (1, omega arith, refl) appends
      ]

  -- the list is written and its size is said
  pub listed : (before mid after : World) (result : Status) → mid.files ≡ with_file before.files list text → mid.said ≡ before.said → mid.warned ≡ before.warned → NoneFell before.faults mid.faults → Says (status_of size how) result mid after
      → Runs (ListTable list text size how) (list_calls list) result before after
  listed before mid after result written kept quiet first says =
      said_last (ListTable list text size how) (list_calls list) (status_of size how) before mid after (2, omega arith, refl) (no_fault size how) first quiet
      (λ said. row_listed list text size how (view before) (view after) (record { files = says.files ∙ written; said = said ∙ ap (λ (t : Option (List ℕ)). followed t (said_of (status_of size how))) kept }))
      (λ partly. let row = cut_off partly in (inr row, inr row))
      result says
    where
      cut_off : IsPartlyFollowed mid.said after.said (said_of (status_of size how)) → IsListPartlySaid list text size how (view before) (view after)
      cut_off partly = record { files = says.files ∙ written; said = subst (λ (t : Option (List ℕ)). IsPartlyFollowed t after.said (said_of (status_of size how))) kept partly }
