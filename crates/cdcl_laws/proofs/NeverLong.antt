-- Where there is room for a line more, a line that may be added is legal.
use Rattle.std.proofs.Common.{◌^◌, ◌<◌, List, ⊎_elim}
use Rattle.std.proofs.lemmas.Bool.{lt-ltb}
use Rattle.pb_lin.specs.Problem.{ProblemValue}
use Rattle.proof_laws.specs.State.{StateValue}
use Rattle.proof_laws.specs.Legal.{IsLegal, IsRefused}
use Rattle.proof_laws.specs.Replay.{IsReplay}
use Rattle.proof_laws.specs.declared.line.Line.{Line}
use Rattle.proof_laws.specs.declared.why.Why.TheVariants.{LogLong}
use Rattle.proof_laws.proofs.NeverLong.{never_long}
use Rattle.proof_rules.specs.Recording.{MayBeAdded}

pub short_law : (p : ProblemValue) (lines : List Line) (s : StateValue) (line : Line) → IsReplay p lines s → MayBeAdded p lines line → s.lines < 2 ^ 61 → IsLegal p s line
short_law p lines s line replay may short = ⊎_elim
    (λ (legal : IsLegal p s line). legal)
    (λ (refused : IsRefused p s line LogLong). absurd (never_long p s line (lt-ltb s.lines (2 ^ 61) short) refused))
    (may s replay)
