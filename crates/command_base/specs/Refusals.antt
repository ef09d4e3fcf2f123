-- How it is warned why a list, a log or models are refused.
use Rattle.std.specs.Prelude.{ℕ, List, [], ◌∷◌, ◌++◌, codes}
use Rattle.std.specs.Fmt.{decimal}
use Rattle.scut_base.specs.Bytes.{space}
use Rattle.proof_laws.specs.declared.why.Why.{Why}
use Rattle.proof_laws.specs.declared.why.Why.TheVariants.{Syntax, NoSuchId, VarRange, NotFresh, Overflow, Stack, BadFactor, RupOpen, GoalOpen, GoalMissing, SolRow, CutOpen, NotClause, NotContradiction, AfterEnd, NoEnd, Uncovered, LogLong}
use Rattle.proof_lines.specs.LineText.{goal_word}
use Rattle.proof_lines.specs.declared.spelling.Spelling.TheVariants.{Plain}
use Rattle.representatives.specs.declared.fault.RepsWhy.{RepsWhy}
use Rattle.representatives.specs.declared.fault.RepsWhy.TheVariants.{Syntax as RepsSyntax, Count, NotModel as RepsNotModel, Costs as RepsCosts, Repeated, Log}
use Rattle.log_checker.specs.declared.fault.ListWhy.{ListWhy}
use Rattle.log_checker.specs.declared.fault.ListWhy.TheVariants.{Syntax as ListSyntax, NotModel, Costs, Order, Comparable, NotComplete}

-- the name of what is wrong with an entry of a list
abbrev pub list_why_name : ListWhy → List ℕ
list_why_name ListSyntax = codes "Syntax"
list_why_name NotModel = codes "NotModel"
list_why_name Costs = codes "Costs"
list_why_name Order = codes "Order"
list_why_name Comparable = codes "Comparable"
list_why_name NotComplete = codes "NotComplete"

-- the name of a reason for which a line of a log is refused
abbrev pub why_name : Why → List ℕ
why_name Syntax = codes "Syntax"
why_name (NoSuchId id) = codes "NoSuchId"
why_name (VarRange var) = codes "VarRange"
why_name (NotFresh var) = codes "NotFresh"
why_name Overflow = codes "Overflow"
why_name Stack = codes "Stack"
why_name BadFactor = codes "BadFactor"
why_name RupOpen = codes "RupOpen"
why_name (GoalOpen goal) = codes "GoalOpen"
why_name (GoalMissing goal) = codes "GoalMissing"
why_name (SolRow id) = codes "SolRow"
why_name (CutOpen objective) = codes "CutOpen"
why_name NotClause = codes "NotClause"
why_name (NotContradiction id) = codes "NotContradiction"
why_name AfterEnd = codes "AfterEnd"
why_name NoEnd = codes "NoEnd"
why_name (Uncovered n) = codes "Uncovered"
why_name LogLong = codes "LogLong"

-- its number or its goal, after a space; most have none
abbrev pub why_value : Why → List ℕ
why_value (NoSuchId id) = space ∷ decimal id
why_value (VarRange var) = space ∷ decimal var
why_value (NotFresh var) = space ∷ decimal var
why_value (GoalOpen goal) = space ∷ goal_word Plain goal
why_value (GoalMissing goal) = space ∷ goal_word Plain goal
why_value (SolRow id) = space ∷ decimal id
why_value (CutOpen objective) = space ∷ decimal objective
why_value (NotContradiction id) = space ∷ decimal id
why_value (Uncovered n) = space ∷ decimal n
why_value why = []

-- `CutOpen 1`, `GoalMissing c`, `Syntax`
abbrev pub why_text : Why → List ℕ
why_text why = why_name why ++ why_value why

-- what is wrong with the models of an entry, or with their log
abbrev pub reps_why_text : RepsWhy → List ℕ
reps_why_text RepsSyntax = codes "Syntax"
reps_why_text Count = codes "Count"
reps_why_text RepsNotModel = codes "NotModel"
reps_why_text RepsCosts = codes "Costs"
reps_why_text Repeated = codes "Repeated"
reps_why_text (Log line why) = codes "log line " ++ decimal line ++ codes ": " ++ why_text why
