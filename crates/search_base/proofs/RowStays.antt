-- Bounds of an objective, and what they answered, mean the same after later lines.
use Rattle.std.proofs.Common.{◌≡◌, ℕ, List, sym, subst, ◌∙◌, ℤ, pos, ◌+ℤ◌}
use Rattle.std.specs.List.{All}
use Rattle.std.proofs.lemmas.List.Elements.{All-weaker}
use Rattle.scut_base.specs.Literal.{Literal}
use Rattle.pb_lin.specs.CostRow.{CostRowValue}
use Rattle.pb_lin.specs.Problem.{ProblemValue}
use Rattle.proof_laws.specs.State.{StateValue}
use Rattle.proof_laws.specs.Replay.{IsReplay}
use Rattle.proof_laws.specs.declared.line.Line.{Line}
use Rattle.proof_rules.specs.Recording.{Snapshot}
use Rattle.sum_outputs.specs.Adding.{IsLater, IsReached}
use Rattle.totalizer.specs.Keeping.{FittingStays, KeepsOwn, OwnLinesStay, ReformStays}
use Rattle.totalizer.specs.Meaning.{IsOwnOrNone}
use Rattle.totalizer.specs.Reforming.{IsReformOf}
use Rattle.totalizer.proofs.LaterLines.{held_before, named_stays, own_stays, variable_stays}
use Rattle.totalizer.specs.declared.bound.Bound.{Bound}
use Rattle.totalizer.specs.declared.bound.Bound.TheVariants.{Always, Never, At}
use Rattle.search_base.specs.CostBounds.{BoundsRow, IsAlwaysOver, IsCostBound, IsObjectiveLine, IsOverAt, LineCovers}
use Rattle.search_base.specs.declared.objective_bound.ObjectiveLine.{ObjectiveLine}
use Rattle.search_base.specs.declared.objective_bound.ObjectiveBound.{ObjectiveBound}

-- ---- one state after another

module _ (p : ProblemValue) (old new : List Line) (s t : StateValue) (later : IsLater p old s new t) where
  pub line_stays : (row : CostRowValue) (value : ℤ) (id : ℕ) (IsKind : List Literal → Type 0) →
      IsOwnOrNone p old s id → LineCovers s row value id IsKind → LineCovers t row value id IsKind
  line_stays row value id IsKind own (c, named, covers) = (c, named_stays p old new s t later id own ∙ named, covers)

  pub objective_line_stays : (row : CostRowValue) (b : ObjectiveBound) (c : ObjectiveLine) → IsObjectiveLine p old s row b c →
      IsObjectiveLine p new t row b c
  objective_line_stays row b c is = record {
    sum = is.sum;
    there = is.there;
    own = own_stays p old new s t later c.line is.own;
    covers = line_stays row (pos is.sum +ℤ b.reform.offset) c.line _ is.own is.covers;
  }

  always_stays : (row : CostRowValue) (value : ℤ) (id : ℕ) → IsAlwaysOver p old row value id s →
      IsAlwaysOver p new row value id t
  always_stays row value id is =
      record { own = own_stays p old new s t later id is.own; covers = line_stays row value id _ is.own is.covers }

  over_stays : (row : CostRowValue) (value : ℤ) (l : Literal) (id : ℕ) → IsOverAt p old row value l id s →
      IsOverAt p new row value l id t
  over_stays row value l id is = record {
    variable = variable_stays p old new s t later l.var is.variable;
    own = own_stays p old new s t later id is.own;
    follows = λ x rows hold. is.follows x rows (held_before p old new s t later x hold);
    covers = line_stays row value id _ is.own is.covers;
  }

-- ---- one proof after another

-- what was answered for a cost still stands for it
pub cost_bound_stays : OwnLinesStay → (p : ProblemValue) (old new : List Line) (s : StateValue) (row : CostRowValue)
    (value : ℤ) (bound : Bound) → KeepsOwn p old new → IsReplay p old s → IsCostBound p old row value bound →
    IsCostBound p new row value bound
cost_bound_stays stays p old new s row value (Always id) keeps before is = λ t after.
    always_stays p old new s t (stays p old new s t keeps before after) row value id (is s before)
cost_bound_stays stays p old new s row value Never keeps before is = λ t after x rows hold.
    is s before x rows (held_before p old new s t (stays p old new s t keeps before after) x hold)
cost_bound_stays stays p old new s row value (At l id) keeps before is = λ t after.
    over_stays p old new s t (stays p old new s t keeps before after) row value l id (is s before)

module _ (own : OwnLinesStay) (fitting : FittingStays) (reforms : ReformStays) (a b : Snapshot) (s : StateValue)
    (problem : b.problem ≡ a.problem) (keeps : KeepsOwn a.problem a.lines b.lines) (reached : IsReached a s) where
  reform_later : (row : CostRowValue) (o : ObjectiveBound) → BoundsRow a row o → (t : StateValue) → IsReached b t →
      IsReformOf b.problem b.lines t row o.reform
  reform_later row o is t after =
      subst (λ (p : ProblemValue). IsReformOf p b.lines t row o.reform) (sym problem)
      (reforms a.problem a.lines b.lines s t row o.reform keeps reached
      (subst (λ (p : ProblemValue). IsReplay p b.lines t) problem after) (is.reform s reached))

  objective_lines_later : (row : CostRowValue) (o : ObjectiveBound) → BoundsRow a row o → (t : StateValue) → IsReached b t →
      All (IsObjectiveLine b.problem b.lines t row o) o.objective_lines.items
  objective_lines_later row o is t after =
      let again : IsReplay a.problem b.lines t = subst (λ (p : ProblemValue). IsReplay p b.lines t) problem after in
      let later : IsLater a.problem a.lines s b.lines t = own a.problem a.lines b.lines s t keeps reached again in
      subst (λ (p : ProblemValue). All (IsObjectiveLine p b.lines t row o) o.objective_lines.items) (sym problem)
      (All-weaker (IsObjectiveLine a.problem a.lines s row o) (IsObjectiveLine a.problem b.lines t row o)
      (objective_line_stays a.problem a.lines b.lines s t later row o) o.objective_lines.items (is.objective_lines s reached))

  pub row_stays : (row : CostRowValue) (o : ObjectiveBound) → BoundsRow a row o → BoundsRow b row o
  row_stays row o is = record {
    weights = is.weights;
    reform = reform_later row o is;
    terms = is.terms;
    fits = fitting a b s o.totalizer problem keeps reached is.fits;
    objective_lines = objective_lines_later row o is;
    rising = is.rising;
    once = is.once;
  }
