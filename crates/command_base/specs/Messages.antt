-- What a run says and warns.
use Rattle.std.specs.Prelude.{◌≡◌, ℕ, List, [], ◌∷◌, ◌++◌, codes, Result, OnOk, OnErr, IsErrOf}
use Rattle.std.specs.Fmt.{decimal}
use Rattle.scut_base.specs.Files.{followed, IsPartlyFollowed}
use Rattle.scut_base.specs.Faults.{WarningFailed}
use Rattle.scut_base.specs.Bytes.{newline, space}
use Rattle.scut_base.specs.declared.shelf.ShelfFault.{ShelfFault}
use Rattle.scut_base.specs.declared.shelf.ShelfFault.TheVariants.{Failed}
use Rattle.instance.specs.declared.fault.BadKind.{BadKind}
use Rattle.instance.specs.declared.fault.BadKind.TheVariants.{UnknownLine, ObjectiveIndex, WeightExpected, LiteralExpected, ZeroMissing, TextAfterZero, NumberTooWide, TermExpected, RelationExpected, BoundExpected, SemicolonMissing, Product, ObjectiveAfterConstraint}
use Rattle.instance.specs.declared.fault.InstanceLimit.{InstanceLimit}
use Rattle.instance.specs.declared.fault.InstanceLimit.TheVariants.{Bytes, Vars, Weights, Row, Objectives}
use Rattle.log_checker.specs.declared.fault.CheckFault.{CheckFault}
use Rattle.log_checker.specs.declared.fault.CheckFault.TheVariants.{Refused as LineRefused, ListRefused, NoMemory as CheckNoMemory}
use Rattle.command_base.specs.Refusals.{list_why_name, reps_why_text, why_text}
use Rattle.scut_base.specs.World.{World}
use Rattle.command_base.specs.declared.status.Status.{Status}
use Rattle.command_base.specs.declared.status.Status.TheVariants.{Done, Complete, Incomplete, Trimmed, Models, Accepted, Refused, ModelsRefused, Usage, BadInput, TooLarge, LogFull, NoMemory, ShelfFailed}

-- the line that is said of each status; nothing is said of what is warned
abbrev pub said_of : Status → List ℕ
said_of Done = codes "done" ++ newline ∷ []
said_of (Complete size) = codes "complete " ++ decimal size ++ newline ∷ []
said_of (Incomplete size learned) = codes "incomplete " ++ decimal size ++ codes " after " ++ decimal learned ++ newline ∷ []
said_of (Trimmed kept total) = codes "trimmed " ++ decimal kept ++ codes " of " ++ decimal total ++ newline ∷ []
said_of (Models entries) = codes "models " ++ decimal entries ++ newline ∷ []
said_of Accepted = codes "accepted" ++ newline ∷ []
said_of status = []

-- the name of a kind of bad place, as it is warned
abbrev pub kind_name : BadKind → List ℕ
kind_name UnknownLine = codes "UnknownLine"
kind_name ObjectiveIndex = codes "ObjectiveIndex"
kind_name WeightExpected = codes "WeightExpected"
kind_name LiteralExpected = codes "LiteralExpected"
kind_name ZeroMissing = codes "ZeroMissing"
kind_name TextAfterZero = codes "TextAfterZero"
kind_name NumberTooWide = codes "NumberTooWide"
kind_name TermExpected = codes "TermExpected"
kind_name RelationExpected = codes "RelationExpected"
kind_name BoundExpected = codes "BoundExpected"
kind_name SemicolonMissing = codes "SemicolonMissing"
kind_name Product = codes "Product"
kind_name ObjectiveAfterConstraint = codes "ObjectiveAfterConstraint"

-- the name of a limit, as it is warned
abbrev pub limit_name : InstanceLimit → List ℕ
limit_name Bytes = codes "Bytes"
limit_name Vars = codes "Vars"
limit_name Weights = codes "Weights"
limit_name Row = codes "Row"
limit_name Objectives = codes "Objectives"

-- `scuttle: place n: what`
abbrev pub place_warning : List ℕ → ℕ → List ℕ → List ℕ
place_warning place n what = codes "scuttle: " ++ place ++ space ∷ decimal n ++ codes ": " ++ what ++ newline ∷ []

-- the line that is warned of a fault of list or log
abbrev pub check_warning : CheckFault → List ℕ
check_warning (LineRefused line why) = place_warning (codes "log line") line (why_text why)
check_warning (ListRefused entry why) = place_warning (codes "list entry") entry (list_why_name why)
check_warning CheckNoMemory = codes "scuttle: no memory" ++ newline ∷ []

-- the line that is warned of each status; nothing is warned of what is said
abbrev pub warning_text : Status → List ℕ
warning_text (Refused fault) = check_warning fault
warning_text (ModelsRefused entry why) = place_warning (codes "models entry") entry (reps_why_text why)
warning_text Usage = codes "scuttle: usage" ++ newline ∷ []
warning_text (BadInput line kind) = place_warning (codes "line") line (kind_name kind)
warning_text (TooLarge line which) = place_warning (codes "line") line (codes "too large: " ++ limit_name which)
warning_text (LogFull lines) = codes "scuttle: log full" ++ newline ∷ []
warning_text NoMemory = codes "scuttle: no memory" ++ newline ∷ []
warning_text ShelfFailed = codes "scuttle: file fault" ++ newline ∷ []
warning_text status = []

-- The line was put out whole; or a prefix of it, and then memory was wanted or the count of warnings rose.
pub record IsWarned {T : Type 0} (line : List ℕ) (before after : World) (warning : Result T ShelfFault) : Type 0 where
  pub whole : OnOk warning (after.warned ≡ followed before.warned line)
  pub cut : OnErr warning (IsPartlyFollowed before.warned after.warned line)
  pub failed : IsErrOf warning Failed → WarningFailed before.faults after.faults
