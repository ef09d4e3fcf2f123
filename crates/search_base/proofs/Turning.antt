-- A turn after others.
use Rattle.std.proofs.Common.{◌≡◌, ℕ, ◌<◌, List, [], ◌∷◌, ◌++◌, ap, refl, sym, subst, ◌∙◌, arith, ℤ}
use Rattle.std.specs.Prelude.{not}
use Rattle.std.specs.List.{count_by}
use Rattle.pb_lin.specs.Problem.{ProblemValue}
use Rattle.proof_rules.specs.Recording.{Snapshot}
use Rattle.sum_outputs.proofs.LaterStates.{around_again, around_twice}
use Rattle.search_base.specs.Logged.{AddsTurnLines, LogsNone, Logs}
use Rattle.search_base.specs.CostBox.{cost_box, is_covered, uncovered}
use Rattle.search_base.specs.Boards.{BoardValue}
use Rattle.search_base.specs.Good.{GoesOn, IsGood, KeepsBoard}
use Rattle.search_base.specs.Turns.{FindsNew}
use Rattle.search_base.specs.declared.objective_bound.ObjectiveBound.{ObjectiveBound}
use Rattle.search_base.proofs.TurnLines.{no_line, both_lines}

-- ---- a call after another

pub goes_again : (a : Snapshot) → GoesOn a a
goes_again a = record {
  problem = refl;
  limit = refl;
  later = omega arith;
  around = around_again a.around;
  lines = no_line a.problem a.lines;
}

pub goes_twice : (a b c : Snapshot) → GoesOn a b → GoesOn b c → GoesOn a c
goes_twice a b c one other = record {
  problem = other.problem ∙ one.problem;
  limit = other.limit ∙ one.limit;
  later = let x = one.later in let y = other.later in omega arith;
  around = around_twice a.around b.around c.around one.around other.around;
  lines = both_lines a.problem a.lines b.lines c.lines one.lines
      (subst (λ (p : ProblemValue). AddsTurnLines p b.lines c.lines) one.problem other.lines);
}

pub board_again : (b : BoardValue) → KeepsBoard b b
board_again b = record { instance = refl; problem = refl }

pub board_twice : (a b c : BoardValue) → KeepsBoard a b → KeepsBoard b c → KeepsBoard a c
board_twice a b c one other = record { instance = other.instance ∙ one.instance; problem = other.problem ∙ one.problem }

-- turns were taken, and all is still good
pub record AreTurns (a b : Snapshot) (asked : List ObjectiveBound) (old new : BoardValue) : Type 0 where
  pub on : GoesOn a b
  pub good : IsGood b asked new
  pub board : KeepsBoard old new

pub no_turn : (a : Snapshot) (asked : List ObjectiveBound) (front : BoardValue) → IsGood a asked front →
    AreTurns a a asked front front
no_turn a asked front good = record { on = goes_again a; good = good; board = board_again front }

pub turns_more : (a b c : Snapshot) (before after : List ObjectiveBound) (old mid new : BoardValue) →
    AreTurns a b before old mid → GoesOn b c → IsGood c after new → KeepsBoard mid new → AreTurns a c after old new
turns_more a b c before after old mid new turns on good board =
    record { on = goes_twice a b c turns.on on; good = good; board = board_twice old mid new turns.board board }

-- ---- what is found

-- how many vectors of the cost box aren't covered by these
abbrev left_of : ProblemValue → List (List ℤ) → ℕ
left_of p vectors = count_by (λ v. not (is_covered vectors v)) (cost_box p.costs)

pub none_twice : (a b c : Snapshot) → b.problem ≡ a.problem → LogsNone a.problem a.lines b.lines →
    LogsNone b.problem b.lines c.lines → LogsNone a.problem a.lines c.lines
none_twice a b c problem one other = subst (λ (p : ProblemValue). LogsNone p b.lines c.lines) problem other ∙ one

pub finds_after : (a b c : Snapshot) → b.problem ≡ a.problem → LogsNone a.problem a.lines b.lines → FindsNew b c →
    FindsNew a c
finds_after a b c problem none found =
    let logs : Logs a.problem b.lines c.lines found.costs =
    subst (λ (p : ProblemValue). Logs p b.lines c.lines found.costs) problem found.logs in
    let falls : uncovered a.problem c.lines < uncovered a.problem b.lines =
    subst (λ (p : ProblemValue). uncovered p c.lines < uncovered p b.lines) problem found.falls in
    let same : uncovered a.problem b.lines ≡ uncovered a.problem a.lines = ap (left_of a.problem) none in
    record {
      costs = found.costs;
      logs = logs ∙ ap (λ (vs : List (List ℤ)). vs ++ found.costs ∷ []) none;
      falls = subst (λ (n : ℕ). uncovered a.problem c.lines < n) same falls;
    }

-- such a find leaves fewer uncovered
pub fewer_left : (a b : Snapshot) → b.problem ≡ a.problem → FindsNew a b →
    uncovered b.problem b.lines < uncovered a.problem a.lines
fewer_left a b problem found = subst (λ (p : ProblemValue). uncovered p b.lines < uncovered a.problem a.lines)
    (sym problem) found.falls
