-- An instance file that spells an instance has no fault and isn't too large.
use Rattle.std.proofs.Common.{◌≡◌, ℕ, zero, ◌<◌, ◌≤◌, ◌^◌, List, length, sym, ◌∙◌, subst, arith}
use Rattle.std.specs.Prelude.{Option, Some}
use Rattle.std.proofs.lemmas.Option.{none-some}
use Rattle.scut_base.specs.Files.{Files, content}
use Rattle.scut_base.proofs.FileLaws.{told_by_content}
use Rattle.scut_base.proofs.Options.{some_is}
use Rattle.instance.specs.Shape.{InstanceValue}
use Rattle.instance.specs.declared.fault.InstanceLimit.TheVariants.{Bytes}
use Rattle.instance.specs.declared.fault.ReadFault.{ReadFault}
use Rattle.instance.specs.declared.fault.ReadFault.TheVariants.{Bad, Limit}
use Rattle.log_checker.specs.ListFaults.{IsListFault}
use Rattle.log_checker.specs.declared.fault.ListWhy.{ListWhy}
use Rattle.command_base.specs.Causes.{HasText}
use Rattle.command_base.specs.Inputs.{OfList}
use Rattle.command_base.specs.InputTable.{InputTable}
use Rattle.command_base.specs.InstanceFile.{IsTextOf, HasFault}
use Rattle.command_base.specs.Views.{View}
use Rattle.command_base.specs.declared.instance_file.Format.{Format}
use Rattle.command_base.specs.declared.status.Status.{Status}
use Rattle.command_base.specs.declared.status.Status.TheVariants.{BadInput, TooLarge}
use Rattle.command_base.proofs.InstanceFiles.{no_fault_spelled, one_in}

-- what is said of the file's text, where this is the text
pub of_text : (files : Option Files) (name text : List ℕ) (P : List ℕ → Type 0) → content files name ≡ Some text → HasText files name P → P text
of_text files name text P there has =
    let found = has (told_by_content files name text there) in
    subst P (some_is text found.0 (content files name) there found.1) found.2

-- a text that spells an instance has no fault
pub no_fault : (format : Format) (text : List ℕ) (i : InstanceValue) (fault : ReadFault) → IsTextOf format i text → HasFault format fault text → ⊥
no_fault format text i fault spelled has = none-some fault (sym (no_fault_spelled format text i spelled.spelled) ∙ has.first)

-- a file that is there is no larger than it is
pub not_larger : (files : Option Files) (name text : List ℕ) (n : ℕ) → content files name ≡ Some text → length text < n → HasText files name (λ bytes. n ≤ length bytes) → ⊥
not_larger files name text n there small has = omega (arith, small, of_text files name text (λ bytes. n ≤ length bytes) there has)

-- so none of the rows of reading comes
pub readable : (format : Format) (input text : List ℕ) (i : InstanceValue) (status : Status) (before after : View) → content before.files input ≡ Some text → IsTextOf format i text → InputTable format input status before after → ⊥
readable format input text i (BadInput line kind) before after there spelled was =
    no_fault format text i _ spelled (of_text before.files input text (HasFault format (Bad line kind)) there was.cause)
readable format input text i (TooLarge zero Bytes) before after there spelled was =
    not_larger before.files input text (2 ^ 32) there spelled.taken was.cause
readable format input text i (TooLarge line which) before after there spelled was =
    no_fault format text i _ spelled (of_text before.files input text (HasFault format (Limit line which)) there was.cause)
readable format input text i status before after there spelled was = was

-- what is wrong with the list of an instance that is spelled
pub list_fault : (format : Format) (input list : List ℕ) (files : Option Files) (text listed : List ℕ) (i : InstanceValue) → content files input ≡ Some text → IsTextOf format i text → content files list ≡ Some listed → (k : ℕ) (why : ListWhy)
    → OfList files format input list (λ j bytes. IsListFault j bytes k why) → IsListFault i listed k why
list_fault format input list files text listed i there spelled list_there k why of =
    let has = of_text files input text (λ bytes. (j : InstanceValue) × IsTextOf format j bytes × HasText files list (λ bytes'. (length bytes' < 2 ^ 32) × IsListFault j bytes' k why)) there of in
    let fault = of_text files list listed (λ bytes. (length bytes < 2 ^ 32) × IsListFault has.0 bytes k why) list_there has.2 in
    subst (λ (j : InstanceValue). IsListFault j listed k why) (one_in format text has.0 i has.1.spelled spelled.spelled) fault.1
