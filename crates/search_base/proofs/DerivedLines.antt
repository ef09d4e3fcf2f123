-- Derived and implied constraints keep a good state good.
use Rattle.std.proofs.Common.{◌≡◌, ℕ, Option, List, [], sym, subst, ◌∙◌}
use Rattle.std.proofs.lemmas.List.Elements.{All-weaker}
use Rattle.pb_lin.specs.Problem.{ProblemValue}
use Rattle.proof_laws.specs.declared.line.Line.{Line}
use Rattle.proof_laws.specs.declared.line.Line.TheVariants.{Pol, Rup}
use Rattle.proof_rules.specs.Recording.{Snapshot}
use Rattle.recording.specs.Adding.{Adds}
use Rattle.recording.specs.Advice.{IsAdvice}
use Rattle.recording.proofs.Advised.{advised_stays_earned_law}
use Rattle.oracle.specs.Solving.{IsDerived, IsWithin}
use Rattle.totalizer.specs.Keeping.{FittingStays, KeepsOwn, OwnLinesStay, ReformStays}
use Rattle.search_base.specs.Adding.{DerivingStaysGood}
use Rattle.search_base.specs.Logged.{AddsTurnLines, LogsNone, logged_by}
use Rattle.search_base.proofs.AdvisedLines.{as_many, silent}
use Rattle.search_base.proofs.BoundRows.{bounds_later}
use Rattle.search_base.proofs.GoodStates.{board_after, new_after}
use Rattle.search_base.proofs.LoggedVectors.{none_logged}
use Rattle.search_base.proofs.TurnLines.{derived_lines, own_law}
use Rattle.search_base.proofs.TurnStates.{ready_after}

advised : (line : Line) → IsDerived line → IsAdvice line
advised (Pol tokens) is = tt
advised (Rup goal hints) is = tt
advised line is = absurd is

adds_advised : (a b : Snapshot) → Adds IsDerived a b → Adds IsAdvice a b
adds_advised a b on = record {
  problem = on.problem;
  limit = on.limit;
  later = on.later;
  around = on.around;
  more = on.more;
  lines = on.lines;
  kinds = All-weaker IsDerived IsAdvice advised on.more on.kinds;
  states = on.states;
}

pub deriving_law : OwnLinesStay → FittingStays → ReformStays → DerivingStaysGood
deriving_law own fitting reforms a b bounds board good on whole =
    let adds : AddsTurnLines a.problem a.lines b.lines = derived_lines a b on in
    let keeps : KeepsOwn a.problem a.lines b.lines = own_law a.problem a.lines b.lines adds in
    let s = good.ready.state in
    let has = on.states s good.ready.reached in
    let none : LogsNone a.problem a.lines b.lines = none_logged a.problem a.lines b.lines on.more on.lines
    (All-weaker IsDerived (λ (l : Line). logged_by a.problem l ≡ []) (λ l is. silent a.problem l (advised l is)) on.more on.kinds) in
    let earned = good.earned in
    let kept = advised_stays_earned_law a b s has.state earned.0 (adds_advised a b on) good.ready.reached has.reached earned.1 in (
      record {
        ready = ready_after a b has.state good.ready adds on.problem whole has.reached;
        problem = good.problem ∙ sym on.problem;
        board = board_after a b board on.problem none good.board;
        bounds = bounds_later own fitting reforms a b s bounds on.problem keeps good.ready.reached good.bounds;
        earned = (earned.0, kept.0);
        within = subst (λ (limit : Option ℕ). IsWithin limit b.problem b.lines) (sym on.limit)
            (as_many a b s has.state a.limit good.ready.reached has.reached kept.1 good.within);
        new = new_after own a b s on.problem keeps good.ready.reached none good.new;
      },
      none,
    )
