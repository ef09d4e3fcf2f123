-- States that are good but for some models.
use Rattle.std.proofs.Common.{◌≡◌, ℕ, Bool, false, List, [], ◌∷◌, refl, sym, subst, ◌∙◌, arith, ℤ}
use Rattle.std.specs.List.{All, Contains}
use Rattle.std.proofs.lemmas.List.Elements.{All-nil}
use Rattle.scut_base.proofs.Lists.{Contains-nil}
use Rattle.front_set.specs.Vector.{IsBelow}
use Rattle.pb_lin.specs.Constraint.{Holds}
use Rattle.pb_lin.specs.Problem.{ProblemValue, problem_costs}
use Rattle.proof_laws.specs.State.{StateValue}
use Rattle.proof_laws.specs.Replay.{IsReplay}
use Rattle.proof_laws.specs.declared.line.Line.{Line}
use Rattle.proof_rules.specs.Recording.{Snapshot}
use Rattle.sum_outputs.specs.Adding.{Continues, IsReached, KeptHold}
use Rattle.totalizer.specs.Keeping.{FittingStays, KeepsOwn, OwnLinesStay, ReformStays}
use Rattle.search_base.specs.Boards.{BoardValue}
use Rattle.search_base.specs.CostBounds.{FitBounds}
use Rattle.search_base.specs.Good.{IsGood}
use Rattle.search_base.specs.Logged.{AddsTurnLines, IsCovered, LogsNone, logged}
use Rattle.search_base.specs.Pending.{AddingStaysGoodBut, AllIsNewBut, AskingStaysGoodBut, EndIsGood, GoodButForNone, IsGoodBut, IsPending}
use Rattle.search_base.specs.declared.objective_bound.ObjectiveBound.{ObjectiveBound}
use Rattle.search_base.proofs.BoundRows.{bounds_later}
use Rattle.search_base.proofs.GoodStates.{LeftAfter, board_after, earned_on, left_later, within_on}
use Rattle.search_base.proofs.LoggedStates.{HasPending, good_but_none}
use Rattle.search_base.proofs.LoggedVectors.{search_logs_none, totalizer_logs_none}
use Rattle.search_base.proofs.TurnLines.{own_law, search_lines, totalizer_lines}
use Rattle.search_base.proofs.TurnStates.{ready_after}

-- ---- but for none

good_with : (a : Snapshot) (bounds : List ObjectiveBound) (front : BoardValue) (pending : List (List Bool)) →
    IsGoodBut a bounds front pending → ((s : StateValue) → IsReached a s → (x : List Bool) →
    All (Holds x) a.problem.rows → KeptHold a.problem a.lines s x →
    IsCovered a.problem a.lines (problem_costs a.problem x) → ⊥) → IsGood a bounds front
good_with a bounds front pending but new = record {
  ready = but.ready;
  problem = but.problem;
  board = but.board;
  bounds = but.bounds;
  earned = but.earned;
  within = but.within;
  new = new;
}

pub good_again : (a : Snapshot) (bounds : List ObjectiveBound) (front : BoardValue) → IsGoodBut a bounds front [] →
    IsGood a bounds front
good_again a bounds front but = good_with a bounds front [] but
    (λ s reached x rows hold covered. let some = but.new s reached x rows hold covered in Contains-nil some.0 some.1)

pub none_law : GoodButForNone
none_law = record { good = good_but_none; again = good_again }

-- ---- lines that log nothing

new_but_after : OwnLinesStay → (a b : Snapshot) (s : StateValue) (pending : List (List Bool)) → b.problem ≡ a.problem →
    KeepsOwn a.problem a.lines b.lines → IsReached a s → LogsNone a.problem a.lines b.lines → AllIsNewBut a pending →
    AllIsNewBut b pending
new_but_after stays a b s pending problem keeps reached none is =
    subst (λ (p : ProblemValue). LeftAfter p b.lines (HasPending p pending)) (sym problem)
    (left_later stays a.problem a.lines b.lines s (HasPending a.problem pending) keeps reached none is)

bounding_but : OwnLinesStay → (a b : Snapshot) (old new : List ObjectiveBound) (front : BoardValue)
    (pending : List (List Bool)) → IsGoodBut a old front pending → Continues a b → b.broken ≡ false → FitBounds b new →
    IsGoodBut b new front pending
bounding_but own a b old new front pending good on whole fit =
    let adds : AddsTurnLines a.problem a.lines b.lines = totalizer_lines a b on in
    let keeps : KeepsOwn a.problem a.lines b.lines = own_law a.problem a.lines b.lines adds in
    let none : LogsNone a.problem a.lines b.lines = totalizer_logs_none a b on in
    let s = good.ready.state in
    let has = on.states s good.ready.reached in
    record {
      ready = ready_after a b has.state good.ready adds on.problem whole has.reached;
      problem = good.problem ∙ sym on.problem;
      board = board_after a b front on.problem none good.board;
      bounds = fit;
      earned = earned_on a b on s good.ready.reached good.earned;
      within = within_on a b on s good.ready.reached good.within;
      models = good.models;
      new = new_but_after own a b s pending on.problem keeps good.ready.reached none good.new;
    }

pub adding_but_law : OwnLinesStay → FittingStays → ReformStays → AddingStaysGoodBut
adding_but_law own fitting reforms = record {
  bounds = bounding_but own;
  same = λ a b bounds front pending good on whole.
      let keeps : KeepsOwn a.problem a.lines b.lines = own_law a.problem a.lines b.lines (totalizer_lines a b on) in
      bounding_but own a b bounds bounds front pending good on whole
      (bounds_later own fitting reforms a b good.ready.state bounds on.problem keeps good.ready.reached good.bounds);
}

pub asking_but_law : OwnLinesStay → FittingStays → ReformStays → AskingStaysGoodBut
asking_but_law own fitting reforms a b t bounds front pending good reached on =
    let adds : AddsTurnLines a.problem a.lines b.lines = search_lines a.problem a.lines b.lines on.lines in
    let keeps : KeepsOwn a.problem a.lines b.lines = own_law a.problem a.lines b.lines adds in
    let none : LogsNone a.problem a.lines b.lines = search_logs_none a.problem a.lines b.lines on.lines in
    let s = good.ready.state in
    record {
      ready = ready_after a b t good.ready adds on.problem on.whole reached;
      problem = good.problem ∙ sym on.problem;
      board = board_after a b front on.problem none good.board;
      bounds = bounds_later own fitting reforms a b s bounds on.problem keeps good.ready.reached good.bounds;
      earned = on.earned;
      within = on.within;
      models = good.models;
      new = new_but_after own a b s pending on.problem keeps good.ready.reached none good.new;
    }

-- ---- the end

pub end_law : EndIsGood
end_law a bounds front pending id good end = good_with a bounds front pending good
    (λ s reached x rows hold covered. let none : Holds x (record { terms = []; degree = 1 }) =
    hold id (record { terms = []; degree = 1 }) (end s reached) in omega arith)
