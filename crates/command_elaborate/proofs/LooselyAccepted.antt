-- A log is loosely accepted exactly where the elaborated one is accepted.
use Rattle.std.specs.Prelude.{◌≡◌, ℕ, All, List, [], ◌∷◌, ◌++◌, Option, None, Some}
use Rattle.std.proofs.Common.{refl, sym, ◌∙◌, ap, subst}
use Rattle.std.proofs.lemmas.List.Elements.{All-nil, All-cons}
use Rattle.instance.specs.Shape.{InstanceValue}
use Rattle.instance_normal.specs.NormalForm.{IsNormalFormOf}
use Rattle.instance_normal.proofs.OneForm.{one_form}
use Rattle.pb_lin.specs.Problem.{ProblemValue}
use Rattle.proof_laws.specs.State.{StateValue, start}
use Rattle.proof_laws.specs.Replay.{IsReplay}
use Rattle.proof_laws.specs.WellFormed.{IsWellFormed}
use Rattle.proof_laws.specs.declared.line.Line.{Line}
use Rattle.proof_laws.specs.declared.why.Why.{Why}
use Rattle.proof_laws.proofs.Replays.{replay_once}
use Rattle.proof_lines.specs.declared.spelling.Spelling.TheVariants.{Plain}
use Rattle.proof_text.specs.LogText.{SpellsLog}
use Rattle.proof_text.specs.Versions.{AllFit, log_text}
use Rattle.proof_text.proofs.Logs.{printed_spells, spelled_once}
use Rattle.log_checker.specs.Accepted.{IsAccepted, IsCovered, problem_vectors}
use Rattle.command_elaborate.specs.Loose.{IsLooseReplay}
use Rattle.command_elaborate.specs.Reasons.{Elaborates}
use Rattle.command_elaborate.proofs.Lists.{elaborations_law}
use Rattle.command_elaborate.specs.LooselyAccepted.{IsLooselyAccepted, IsAcceptedElaborated, LooselyAcceptedWhereElaborated}

all_fit : (lines : List Line) → AllFit Plain lines
all_fit [] = tt
all_fit (line ∷ lines) = (tt, all_fit lines)

-- what is answered can be spelled
formed : (p : ProblemValue) (s : StateValue) (lines news : List Line) (t : StateValue) (refused : Option Why) → Elaborates p s lines news t refused → All IsWellFormed news
formed p s [] [] t refused is = All-nil IsWellFormed
formed p s [] (new ∷ news) t refused is = cc
formed p s (line ∷ lines) [] t refused is = All-nil IsWellFormed
formed p s (line ∷ lines) (new ∷ news) t refused is = All-cons IsWellFormed new news is.1.formed (formed p is.0 lines news t refused is.2)

module _ (i : InstanceValue) (p : ProblemValue) (list log : List ℕ) (lines news : List Line) (t : StateValue) (refused : Option Why)
    (normal : IsNormalFormOf i p) (spelled : SpellsLog log lines) (is : Elaborates p (start p) lines news t refused) where
  there : IsLooselyAccepted i list log → IsAcceptedElaborated i list news refused
  there a =
      let same_lines : a.proof.lines ≡ lines = spelled_once log a.proof.lines lines a.proof.spelled spelled in
      let same_problem : a.problem ≡ p = one_form i a.problem p a.normal normal in
      let loose : IsLooseReplay p lines a.proof.state =
      subst (λ (q : ProblemValue). IsLooseReplay q lines a.proof.state) same_problem (subst (λ (ls : List Line). IsLooseReplay a.problem ls a.proof.state) same_lines a.proof.replay) in
      let comes = elaborations_law p lines news t refused is in
      let found = comes.not_refused a.proof.state loose in (
        found.0,
        record {
          entries = a.entries;
          spelled = a.spelled;
          right = a.right;
          problem = p;
          normal = normal;
          proof = record {
            lines = news;
            spelled = printed_spells Plain news tt (all_fit news) (formed p (start p) lines news t refused is);
            state = t;
            replay = comes.replay;
            ended = ap (λ (s : StateValue). s.ended) found.1 ∙ a.proof.ended;
            covered = subst (λ (s : StateValue). All (IsCovered (problem_vectors i a.entries)) s.sols) (sym found.1) a.proof.covered;
          };
        },
      )

  back : IsAcceptedElaborated i list news refused → IsLooselyAccepted i list log
  back (none, a) =
      let printed : SpellsLog (log_text Plain news) news = printed_spells Plain news tt (all_fit news) (formed p (start p) lines news t refused is) in
      let same_lines : a.proof.lines ≡ news = spelled_once (log_text Plain news) a.proof.lines news a.proof.spelled printed in
      let same_problem : a.problem ≡ p = one_form i a.problem p a.normal normal in
      let replay : IsReplay p news a.proof.state =
      subst (λ (q : ProblemValue). IsReplay q news a.proof.state) same_problem (subst (λ (ls : List Line). IsReplay a.problem ls a.proof.state) same_lines a.proof.replay) in
      let comes = elaborations_law p lines news t refused is in
      let same : t ≡ a.proof.state = replay_once p news t a.proof.state comes.replay replay in
      record {
        entries = a.entries;
        spelled = a.spelled;
        right = a.right;
        problem = p;
        normal = normal;
        proof = record {
          lines = lines;
          spelled = spelled;
          state = t;
          replay = comes.loosely none;
          ended = ap (λ (s : StateValue). s.ended) same ∙ a.proof.ended;
          covered = subst (λ (s : StateValue). All (IsCovered (problem_vectors i a.entries)) s.sols) (sym same) a.proof.covered;
        };
      }

pub loosely_law : LooselyAcceptedWhereElaborated
loosely_law i p list log lines news t refused normal spelled is = (there i p list log lines news t refused normal spelled is, back i p list log lines news t refused normal spelled is)
