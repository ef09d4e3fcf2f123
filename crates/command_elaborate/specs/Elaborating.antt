-- The lines of a log that are elaborated as they come; nothing of it has to be believed.
use Rattle.std.specs.Prelude.{ℕ, List, None, Result, Ok, Err}
use Rattle.proof_laws.specs.State.{start}
use Rattle.proof_laws.specs.declared.line.Line.{Line}
use Rattle.proof_laws.specs.declared.why.Why.{Why}
use Rattle.command_elaborate.specs.Loose.{IsLooselyRefused}
use Rattle.command_elaborate.specs.Reasons.{Elaborates, Elaboration}
use Rattle.command_elaborate.specs.declared.fault.ElabFault.{ElabFault}
use Rattle.command_elaborate.specs.declared.fault.ElabFault.TheVariants.{Refused as LineRefused, NoMemory as ElabMemory}
use Rattle.command_base.specs.declared.log_file.LineFault.{LineFault}
use Rattle.command_base.specs.declared.log_file.LineFault.TheVariants.{Refused, NoMemory}

-- it was given these lines, and has answered so
abbrev pub HasAnswered : Elaboration → List Line → List Line → Type 0
HasAnswered e lines news = Elaborates e.problem (start e.problem) lines news e.state None

-- it refuses this line, where it comes next
abbrev pub Refuses : Elaboration → Line → Why → Type 0
Refuses e line why = IsLooselyRefused e.problem e.state line why

-- its answer to the line of this number, as that of what answers a log
abbrev pub line_answer : ℕ → Result Line ElabFault → Result Line LineFault
line_answer number (Ok new) = Ok new
line_answer number (Err (LineRefused why)) = Err (Refused number why)
line_answer number (Err ElabMemory) = Err NoMemory
