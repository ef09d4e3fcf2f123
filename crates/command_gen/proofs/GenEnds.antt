-- How each end of the command `gen` is answered.
use Rattle.std.proofs.Common.{◌≡◌, ℕ, ◌<◌, ◌^◌, List, length, refl, sym, ap, subst, ◌∙◌, inl, inr, arith}
use Rattle.std.specs.Prelude.{Option}
use Rattle.scut_base.specs.Files.{with_file, followed, IsTouched, IsPrefixOf, IsPartlyFollowed}
use Rattle.scut_base.specs.Faults.{NoneFell, WritingFailed}
use Rattle.scut_base.specs.World.{World}
use Rattle.scut_base.specs.declared.shelf.ShelfFault.{ShelfFault}
use Rattle.scut_base.specs.declared.shelf.ShelfFault.TheVariants.{Failed}
use Rattle.instance.specs.Shape.{InstanceValue}
use Rattle.mcnf_reader.specs.Grammar.{Spells}
use Rattle.command_gen.specs.Printed.{AllOccur, mcnf_text}
use Rattle.command_base.specs.Answering.{Answered, OwnRose, appending, beginning}
use Rattle.command_base.specs.InstanceFile.{IsTextOf}
use Rattle.command_base.specs.Messages.{said_of}
use Rattle.command_base.specs.Saying.{Says}
use Rattle.command_base.specs.Statuses.{status_of_shelf}
use Rattle.command_base.specs.Views.{view}
use Rattle.command_base.specs.declared.instance_file.Format.TheVariants.{Mcnf}
use Rattle.command_base.specs.declared.status.Status.{Status}
use Rattle.command_base.specs.declared.status.Status.TheVariants.{Done}
use Rattle.command_base.proofs.Answered.{own_rose, said_last, shelf_fault}
use Rattle.command_gen.specs.Origin.{OriginValue, instance_from, text_from}
use Rattle.command_gen.specs.Table.{GenRuns, GenTable, IsCutShort, gen_calls}
use Rattle.command_gen.specs.Words.{GenAsked}

-- the text that is printed of the instance
pub text_is : (o : OriginValue) (i : InstanceValue) (text : List ℕ) → i ≡ instance_from o → text ≡ mcnf_text i → text ≡ text_from o
text_is o i text same printed = printed ∙ ap mcnf_text same

pub text_spells : (o : OriginValue) (i : InstanceValue) (text : List ℕ) → i ≡ instance_from o → text ≡ mcnf_text i → length (mcnf_text i) < 2 ^ 32 → AllOccur i → (AllOccur i → Spells text i) → IsTextOf Mcnf (instance_from o) text
text_spells o i text same printed short occur spells = record {
  taken = subst (λ (t : List ℕ). length t < 2 ^ 32) (sym printed) short;
  spelled = subst (λ (j : InstanceValue). Spells text j) same (spells occur);
}

module _ (a : GenAsked) where
  module _ (before mid after : World) (text : List ℕ) (is : text ≡ text_from a.origin) where
    -- OUT couldn't be written whole
    pub writing_stopped : (fault : ShelfFault) → IsTouched before.files after.files a.out (λ bytes. IsPrefixOf bytes text) → after.said ≡ before.said → (fault ≡ Failed → WritingFailed before.faults after.faults a.out) → NoneFell before.faults after.faults
        → Answered (GenTable a) (gen_calls a) (status_of_shelf fault) before after
    writing_stopped fault touched said rose later = shelf_fault (GenTable a) (gen_calls a) fault before after row row own later
      where
        row : IsCutShort (view before) (view after) a
        row = inl (record { files = subst (λ (t : List ℕ). IsTouched before.files after.files a.out (λ bytes. IsPrefixOf bytes t)) is touched; said = said })

        own : fault ≡ Failed → OwnRose (gen_calls a) before.files before.faults after.faults
        own failed = elim (rose failed) [
          | inl begins ↦ own_rose (gen_calls a) (beginning a.out) before.faults after.faults (0, omega arith, refl) begins
          | inr appends ↦ own_rose (gen_calls a) (appending a.out) before.faults after.faults (1, omega arith, refl) appends
        ]

    -- the text is written, and that is said
    pub done : (result : Status) → IsTextOf Mcnf (instance_from a.origin) text → mid.files ≡ with_file before.files a.out text → mid.said ≡ before.said → mid.warned ≡ before.warned → NoneFell before.faults mid.faults → Says Done result mid after → GenRuns a result before after
    done result spelled written kept quiet first says =
        said_last (GenTable a) (gen_calls a) Done before mid after (2, omega arith, refl) (λ is'. cc) first quiet
        (λ said. record {
          spelled = subst (λ (t : List ℕ). IsTextOf Mcnf (instance_from a.origin) t) is spelled;
          files = whole;
          said = said ∙ ap (λ (t : Option (List ℕ)). followed t (said_of Done)) kept;
        })
        (λ partly. let row = cut_off partly in (row, row))
        result says
      where
        whole : after.files ≡ with_file before.files a.out (text_from a.origin)
        whole = says.files ∙ written ∙ ap (with_file before.files a.out) is

        cut_off : IsPartlyFollowed mid.said after.said (said_of Done) → IsCutShort (view before) (view after) a
        cut_off partly = inr (record { files = whole; said = subst (λ (t : Option (List ℕ)). IsPartlyFollowed t after.said (said_of Done)) kept partly })
