-- What is told after a call.
use Rattle.std.proofs.Common.{◌≡◌, ℕ, ap, sym, subst, ◌∙◌, length, List, [], Bool, ℤ}
use Rattle.scut_base.specs.Literal.{Literal}
use Rattle.pb_lin.specs.Problem.{ProblemValue}
use Rattle.proof_laws.specs.State.{StateValue}
use Rattle.proof_laws.specs.Replay.{IsReplay}
use Rattle.oracle.specs.Solving.{AreEarned, IsAnswer, IsCore, Reaches}
use Rattle.oracle.specs.declared.answer.Answer.TheVariants.{Sat}
use Rattle.proof_rules.specs.Recording.{Snapshot}
use Rattle.sum_outputs.specs.Adding.{IsReached}
use Rattle.totalizer.specs.Keeping.{OwnLinesStay}
use Rattle.totalizer.specs.declared.bound.Bound.{Bound}
use Rattle.search_base.specs.Laws.{TurnLinesKeepOwn}
use Rattle.search_base.specs.Logged.{AddsTurnLines}
use Rattle.search_base.specs.Turns.{IsEndLine}
use Rattle.relaxations.specs.Questions.{AreExcesses, Clashes, Denies}
use Rattle.relaxations.specs.Cores.{IsToldByCore, are_standing, clash_in}
use Rattle.relaxations.specs.Telling.{CanRise, StandInTheWay, Tells}
use Rattle.relaxations.specs.declared.below.Below.{Below}
use Rattle.relaxations.specs.declared.below.Below.TheVariants.{Model, End, Above}
use Rattle.relaxations.proofs.Cores.{empty_core, no_core}
use Rattle.relaxations.proofs.Questioned.{excesses_later}
use Rattle.relaxations.proofs.Telling.{clash_rises, clash_stands, core_rises, core_stands, takable, model_below}

-- no call was made
pub told_clash : (m : Snapshot) (limits : List ℤ) (bounds : List Bound) (last : Bound) (stands : List Bool)
    → AreExcesses m.problem m.lines limits bounds → Clashes bounds last
    → stands ≡ are_standing bounds (clash_in last) (length limits) → Tells m limits (Above stands)
told_clash m limits bounds last stands excesses clash is = (
  subst (StandInTheWay m limits) (sym is) (clash_stands m limits bounds last excesses clash),
  subst (CanRise limits) (sym is) (clash_rises m.problem m.lines limits bounds last excesses clash),
)

-- the oracle's lines reach a state
pub state_after : (m b : Snapshot) → b.problem ≡ m.problem → AreEarned m.problem b.lines → (s : StateValue) × IsReached b s
state_after m b problem earned =
    let replays = earned.1.replays in
    (replays.0, subst (λ (p : ProblemValue). IsReplay p b.lines replays.0) (sym problem) replays.1)

-- after a call that adds lines of turns
module _ (m b : Snapshot) (problem : b.problem ≡ m.problem) (state : (s : StateValue) × IsReached b s) where
  module _ (limits : List ℤ) (bounds : List Bound) (lits : List Literal)
      (law : OwnLinesStay) (keep : TurnLinesKeepOwn) (s : StateValue) (reached : IsReached m s)
      (lines : AddsTurnLines m.problem m.lines b.lines) (excesses : AreExcesses m.problem m.lines limits bounds)
      (denies : Denies bounds lits) (count : length bounds ≡ length limits) where
    excesses_after : AreExcesses b.problem b.lines limits bounds
    excesses_after = subst (λ (p : ProblemValue). AreExcesses p b.lines limits bounds) (sym problem)
        (excesses_later law m.problem m.lines b.lines s limits bounds
        (keep m.problem m.lines b.lines lines) reached excesses)

    pub told_model : (x : List Bool) → length limits ≡ length m.problem.costs
        → IsAnswer m.problem b.lines lits (Sat x) → Tells b limits (Model x)
    told_model x long answer =
        let here : IsAnswer b.problem b.lines lits (Sat x) =
        subst (λ (p : ProblemValue). IsAnswer p b.lines lits (Sat x)) (sym problem) answer in
        let whole = long ∙ ap (λ (p : ProblemValue). length p.costs) (sym problem) in (
          takable b lits x here,
          model_below b limits bounds lits excesses_after denies state.0 x state.1 count whole here,
        )

    pub told_core : (core : List Literal) (id : ℕ) (below : Below) → Reaches m.problem b.lines (IsCore lits core id)
        → IsToldByCore bounds core id (length limits) below → Tells b limits below
    told_core core id (Model x) is told = absurd told
    told_core core id (End end) is told = subst (λ (n : ℕ). IsEndLine b.problem b.lines n) (sym told.1)
        (λ t again.
        empty_core lits core id t (is t (subst (λ (p : ProblemValue). IsReplay p b.lines t) problem again)) told.0)
    told_core core id (Above stands) is told =
        let here : Reaches b.problem b.lines (IsCore lits core id) =
        subst (λ (p : ProblemValue). Reaches p b.lines (IsCore lits core id)) (sym problem) is in
        let known = here state.0 state.1 in (
          subst (StandInTheWay b limits) (sym told.1)
              (core_stands b limits bounds lits core id excesses_after denies here),
          subst (CanRise limits) (sym told.1)
              (core_rises b.problem b.lines limits bounds lits core excesses_after denies known.among told.0),
        )

pub told_any : (a b : Snapshot) (core : List Literal) (id : ℕ) → b.problem ≡ a.problem
    → Reaches a.problem b.lines (IsCore [] core id) → IsEndLine b.problem b.lines id
told_any a b core id problem is t again =
    let known = is t (subst (λ (p : ProblemValue). IsReplay p b.lines t) problem again) in
    empty_core [] core id t known (no_core core id t known)
