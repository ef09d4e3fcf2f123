-- What is left after Models is accepted by `check-models`.
use Rattle.std.specs.Prelude.{◌≡◌, ◌≢◌, ℕ, false, List, ◌++◌, length, codes, Option, refl}
use Rattle.std.specs.Fmt.{decimal}
use Rattle.std.proofs.Common.{sym, ◌∙◌}
use Rattle.std.proofs.lemmas.Bool.Decides.{Decides-eqb}
use Rattle.std.proofs.lemmas.List.{append_assoc}
use Rattle.std.proofs.lemmas.Slice.Eq.{starts_is}
use Rattle.scut_base.specs.Files.{Files, content}
use Rattle.command_check_models.specs.Words.{IsRequest, ModelsAsked, begins_with}
use Rattle.command_models.specs.Laws.{ListedAreAcceptable}
use Rattle.command_models.specs.Table.{AreWritten, KeepsOthers}

-- a name that doesn't begin with the base and a dot is that of no file that is made
begins_otherwise : (base name : List ℕ) → begins_with base name ≡ false → (rest : List ℕ) → name ≢ (base ++ codes ".") ++ rest
begins_otherwise base name apart rest is =
    let yes = (starts_is Decides-eqb name (base ++ codes ".") (begins_with base name) refl).1 rest is in
    cc

-- so it is as it was
kept : (a : ModelsAsked) (count : ℕ) (before after : Option Files) → KeepsOthers a count before after → (name : List ℕ) → begins_with a.base name ≡ false
    → content after name ≡ content before name
kept a count before after others name apart =
    others.others name
    (λ is. begins_otherwise a.base name apart (codes "models") (is ∙ sym (append_assoc a.base (codes ".") (codes "models"))))
    (λ log. begins_otherwise a.base name apart (decimal log.0 ++ codes ".log") (log.3 ∙ append_assoc (a.base ++ codes ".") (decimal log.0) (codes ".log")))

pub listed_law : ListedAreAcceptable
listed_law a before after count request listed told small =
    let of = listed.written in
    let written : AreWritten before.files after.files a of.instance of.problem of.entries = of.holds.0 in
    let told_before = written.others.told.1 told in
    let input = of.posed.read.text told_before in
    let list = of.posed.listed told_before in
    let text = written.text told in
    record {
      text = input.0;
      there = kept a (length of.entries) before.files after.files written.others a.input request.input ∙ input.1;
      instance = of.instance;
      spelled = input.2;
      listed = list.0;
      list_there = kept a (length of.entries) before.files after.files written.others a.list request.list ∙ list.1;
      list_taken = list.2.0;
      entries = of.entries;
      list_spelled = list.2.1;
      right = of.posed.right;
      problem = of.problem;
      normal = of.posed.read.normal;
      reps = written.reps;
      models_there = text;
      models_taken = small.text _ text;
      each = written.each;
      logs_taken = small.logs;
    }
