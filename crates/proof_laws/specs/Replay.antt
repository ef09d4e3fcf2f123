-- Proofs: lists of lines, each legal where it stands.
use Rattle.std.specs.Prelude.{◌≡◌, List, [], ◌∷◌}
use Rattle.pb_lin.specs.Problem.{ProblemValue}
use Rattle.proof_laws.specs.State.{StateValue, start}
use Rattle.proof_laws.specs.Legal.{IsNext}
use Rattle.proof_laws.specs.declared.line.Line.{Line}

-- the lines lead from s to t
abbrev pub Leads : ProblemValue → StateValue → List Line → StateValue → Type 0
Leads p s [] t = t ≡ s
Leads p s (line ∷ lines) t = (next : StateValue) × IsNext p s line next × Leads p next lines t

-- the lines are legal, each where it stands, and this is the state after them
abbrev pub IsReplay : ProblemValue → List Line → StateValue → Type 0
IsReplay p lines s = Leads p (start p) lines s
