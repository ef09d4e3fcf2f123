-- How each end of the command `front` is answered.
use Rattle.std.proofs.Common.{◌≡◌, ℕ, ◌<◌, List, length, true, refl, ◌∙◌, ap, subst, inl, inr, arith}
use Rattle.std.specs.Prelude.{Option}
use Rattle.std.specs.List.{concat}
use Rattle.scut_base.specs.Files.{with_file, followed, IsTouched, IsPrefixOf, IsPartlyFollowed}
use Rattle.scut_base.specs.Faults.{NoneFell, WritingFailed}
use Rattle.scut_base.specs.World.{World}
use Rattle.scut_base.specs.declared.shelf.ShelfFault.{ShelfFault}
use Rattle.scut_base.specs.declared.shelf.ShelfFault.TheVariants.{Failed}
use Rattle.front_set.specs.declared.entry.Entry.{Entry}
use Rattle.front_set.specs.ListText.{list_text}
use Rattle.front_text.specs.Lines.{list_lines}
use Rattle.front_text.proofs.Lines.{concat-list_lines}
use Rattle.instance.specs.Shape.{InstanceValue}
use Rattle.instance.specs.declared.fault.InstanceLimit.TheVariants.{Vars}
use Rattle.command_base.specs.Answering.{Answered, OwnRose, appending, beginning, reading}
use Rattle.command_base.specs.Causes.{HasText}
use Rattle.command_base.specs.InstanceFile.{IsTextOf}
use Rattle.command_base.specs.Messages.{said_of}
use Rattle.command_base.specs.Saying.{Says}
use Rattle.command_base.specs.Statuses.{status_of_shelf}
use Rattle.command_base.specs.Views.{View, view}
use Rattle.command_base.specs.declared.status.Status.{Status}
use Rattle.command_base.specs.declared.status.Status.TheVariants.{Complete, TooLarge}
use Rattle.command_base.proofs.Answered.{IsOwn, TakesInput, ended, own_rose, said_last, shelf_fault}
use Rattle.command_base.proofs.ListSizes.{size_zero}
use Rattle.command_front.specs.Table.{FrontRuns, FrontTable, IsCutShort, IsFrontOf, IsPrefixOfFront, IsWritten, front_calls}
use Rattle.command_front.specs.Words.{FrontAsked}

module _ (a : FrontAsked) where
  pub reads_input : IsOwn (front_calls a) (reading a.input)
  reads_input = (0, omega arith, refl)

  -- nothing has changed
  nothing_done : (before after : View) → after ≡ before → IsCutShort before after a
  nothing_done before after same = inl (ap (λ (v : View). v.said) same, inl (ap (λ (v : View). v.files) same))

  pub takes_input : (before after : View) → TakesInput (FrontTable a) a.format a.input before after
  takes_input before after = record {
    bad = λ line kind was. was;
    limit = λ line which was. was;
    large = λ was. was;
    memory = nothing_done before after;
    failed = nothing_done before after;
  }

  -- the instance has too many variables
  pub many_variables : (w : World) (i : InstanceValue) → HasText w.files a.input (IsTextOf a.format i) → 20 < i.vars → FrontRuns a (TooLarge 0 Vars) w w
  many_variables w i text many = record {
    answered = ended (FrontTable a) (front_calls a) (TooLarge 0 Vars) w w
        (record { cause = λ told. let f = text told in (f.0, f.1, (i, f.2, many)); same = refl }) (λ is. cc) (λ call name. omega arith);
    warned = refl;
  }

  -- ---- writing and saying

  module _ (before mid after : World) (entries : List Entry) (lines : List (List ℕ)) (front : IsFrontOf before.files a entries) (is : lines ≡ list_lines true entries) where
    text_is : concat lines ≡ list_text true entries
    text_is = ap concat is ∙ concat-list_lines true entries

    -- LIST couldn't be written whole
    pub writing_stopped : (fault : ShelfFault) → IsTouched before.files after.files a.list (λ bytes. IsPrefixOf bytes (concat lines)) → after.said ≡ before.said → (fault ≡ Failed → WritingFailed before.faults after.faults a.list) → NoneFell before.faults after.faults
        → Answered (FrontTable a) (front_calls a) (status_of_shelf fault) before after
    writing_stopped fault touched said rose later = shelf_fault (FrontTable a) (front_calls a) fault before after row row own later
      where
        partly : IsTouched before.files after.files a.list (λ bytes. IsPrefixOf bytes (concat lines)) → IsTouched before.files after.files a.list (IsPrefixOfFront before.files a)
        partly (inl same) = inl same
        partly (inr put) = inr (put.0, (entries, front, (put.1.0, put.1.1 ∙ text_is)), put.2)

        row : IsCutShort (view before) (view after) a
        row = inl (said, partly touched)

        own : fault ≡ Failed → OwnRose (front_calls a) before.files before.faults after.faults
        own failed = elim (rose failed) [
          | inl begins ↦ own_rose (front_calls a) (beginning a.list) before.faults after.faults (1, omega arith, refl) begins
          | inr appends ↦ own_rose (front_calls a) (appending a.list) before.faults after.faults (2, omega arith, refl) appends
        ]

    -- the front is written and its size is said
    pub complete : (result : Status) → mid.files ≡ with_file before.files a.list (concat lines) → mid.said ≡ before.said → mid.warned ≡ before.warned → NoneFell before.faults mid.faults → Says (Complete (length entries)) result mid after → FrontRuns a result before after
    complete result written kept quiet first says =
        said_last (FrontTable a) (front_calls a) (Complete (length entries)) before mid after (3, omega arith, refl) (λ is'. cc) first quiet
        (λ said. record {
          entries = entries;
          front = front;
          counted = refl;
          empty = size_zero front.instance entries front.front;
          files = whole;
          said = said ∙ ap (λ (text : Option (List ℕ)). followed text (said_of (Complete (length entries)))) kept;
        })
        (λ partly. let row = cut_off partly in (row, row))
        result says
      where
        whole : IsWritten (view before) (view after) a entries
        whole = says.files ∙ written ∙ ap (with_file before.files a.list) text_is

        cut_off : IsPartlyFollowed mid.said after.said (said_of (Complete (length entries))) → IsCutShort (view before) (view after) a
        cut_off partly = inr record {
          entries = entries;
          front = front;
          files = whole;
          said = subst (λ (text : Option (List ℕ)). IsPartlyFollowed text after.said (said_of (Complete (length entries)))) kept partly;
        }
