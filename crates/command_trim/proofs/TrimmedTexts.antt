-- A trimmed log is accepted for the list for which the old one is.
use Rattle.std.specs.Prelude.{Contains}
use Rattle.std.proofs.Common.{ℕ, List, [], ◌∷◌, ◌∙◌}
use Rattle.std.proofs.lemmas.List.Elements.{All-contains, All-weaker}
use Rattle.instance.specs.Shape.{InstanceValue, IsWithinLimits}
use Rattle.instance_normal.proofs.Fitted.{form_within}
use Rattle.pb_lin.specs.Problem.{IsProblem}
use Rattle.proof_laws.specs.declared.line.Line.{Line}
use Rattle.proof_lines.specs.declared.spelling.Spelling.TheVariants.{Plain}
use Rattle.proof_text.specs.Versions.{AllFit, log_text}
use Rattle.proof_text.proofs.Logs.{printed_spells}
use Rattle.log_checker.specs.Accepted.{IsAccepted, IsCovered, problem_vectors}
use Rattle.command_trim.proofs.Kept.{trimmed_law}
use Rattle.command_trim.specs.TrimmedText.{TrimmedTextsAreAccepted, trimmed_of}

pub texts_accepted : TrimmedTextsAreAccepted
texts_accepted i list log new limits accepted spelled =
    let within : IsProblem accepted.problem = form_within i accepted.problem limits accepted.normal in
    let old = accepted.proof in
    let it = trimmed_law accepted.problem old.lines old.state within old.spelled.formed old.replay in
    let covers = IsCovered (problem_vectors i accepted.entries) in
    record {
      entries = accepted.entries;
      spelled = accepted.spelled;
      right = accepted.right;
      problem = accepted.problem;
      normal = accepted.normal;
      proof = record {
        lines = trimmed_of i list log accepted;
        spelled = spelled;
        state = it.0;
        replay = it.1.replay;
        ended = it.1.ended ∙ old.ended;
        covered = All-weaker (Contains old.state.sols) covers (λ v there. All-contains covers old.state.sols v old.covered there) it.0.sols it.1.sols;
      };
    }

-- ids in digits are never too large
all_fit : (lines : List Line) → AllFit Plain lines
all_fit [] = tt
all_fit (line ∷ lines) = (tt, all_fit lines)

-- the text in version 1 is one
pub text_accepted : (i : InstanceValue) (list log : List ℕ) → IsWithinLimits i → (accepted : IsAccepted i list log) → IsAccepted i list (log_text Plain (trimmed_of i list log accepted))
text_accepted i list log limits accepted =
    let within : IsProblem accepted.problem = form_within i accepted.problem limits accepted.normal in
    let old = accepted.proof in
    let it = trimmed_law accepted.problem old.lines old.state within old.spelled.formed old.replay in
    let lines : List Line = trimmed_of i list log accepted in
    texts_accepted i list log (log_text Plain lines) limits accepted (printed_spells Plain lines tt (all_fit lines) it.1.formed)
