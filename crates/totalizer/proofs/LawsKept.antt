-- A totalizer may still be asked, and a bound and a reform still mean what they did.
use Rattle.std.proofs.Common.{◌≡◌, ⊎_elim, ℕ, Some, List, [], ◌∷◌, get_or, sym, subst, ◌∙◌, arith}
use Rattle.std.specs.FinMap.{get}
use Rattle.scut_base.specs.Literal.{Literal}
use Rattle.pb_lin.specs.Constraint.{ConstraintValue}
use Rattle.pb_lin.specs.CostRow.{CostRowValue}
use Rattle.pb_lin.specs.Problem.{ProblemValue}
use Rattle.cutting_planes.proofs.Terms.{Terms}
use Rattle.proof_laws.specs.State.{StateValue}
use Rattle.proof_laws.specs.Steps.{reached_if}
use Rattle.proof_laws.specs.Replay.{IsReplay}
use Rattle.proof_laws.specs.declared.line.Line.{Line}
use Rattle.sum_outputs.specs.Adding.{IsOwn, IsLater}
use Rattle.totalizer.specs.declared.bound.Bound.TheVariants.{Always, Never, At}
use Rattle.totalizer.specs.declared.reform.Reform.{Reform}
use Rattle.totalizer.specs.Meaning.{IsDefinedFor, IsOutput, IsOwnOrNone, IsBoundAt}
use Rattle.totalizer.specs.Reforming.{IsReformOf}
use Rattle.totalizer.specs.Keeping.{BoundStays, FittingStays, ReformStays}
use Rattle.totalizer.proofs.LaterOutputs.{made_then}
use Rattle.sum_outputs.proofs.ReplayIds.{replay_ids}
use Rattle.totalizer.proofs.LaterLines.{held_before, named_stays, own_stays, variable_stays}
use Rattle.totalizer.proofs.OwnLines.{own_lines_stay_law}

pub fitting_stays_law : FittingStays
fitting_stays_law a b s t problem keeps reached fits = record {
  rooted = fits.rooted;
  made = λ u after. made_then a b problem s u
      (own_lines_stay_law a.problem a.lines b.lines s u keeps reached
      (subst (λ (p : ProblemValue). IsReplay p b.lines u) problem after))
      t.nodes t.made (fits.made s reached);
  asked = fits.asked;
}

-- ---- bounds

module _ (p : ProblemValue) (old new : List Line) (s t : StateValue) (replay : IsReplay p old s)
    (later : IsLater p old s new t) where
  -- a line that is there and isn't learned is there later
  line_stays : (id : ℕ) (c : ConstraintValue) → IsOwnOrNone p old s id → get s.live id ≡ Some c → get t.live id ≡ Some c
  line_stays id c own is = ⊎_elim
      (λ (none : id ≡ 0). let w = (replay_ids p old s replay).ids id c is in absurd (omega arith))
      (λ (own' : (d : ConstraintValue) × IsOwn p old s id d). (later.own id own'.0 own'.1).0 ∙ sym own'.1.0 ∙ is)
      own

  defined_stays : (terms : Terms) (k : ℕ) (l : Literal) (id : ℕ) → IsOwnOrNone p old s id →
      IsDefinedFor p s terms k l id → IsDefinedFor p t terms k l id
  defined_stays terms k l id own is = record {
    sum = is.sum;
    least = is.least;
    order = is.order;
    above = is.above;
    positive = is.positive;
    line = line_stays id (reached_if l.var is.sum) own is.line;
  }

  output_stays : (terms : Terms) (k : ℕ) (l : Literal) (id : ℕ) → IsOwnOrNone p old s id →
      IsOutput p s terms k l id → IsOutput p t terms k l id
  output_stays [] k l id own is = defined_stays [] k l id own is
  output_stays (u ∷ []) k l id own is = is
  output_stays (u ∷ v ∷ ts) k l id own is = defined_stays (u ∷ v ∷ ts) k l id own is

  reform_stays : (row : CostRowValue) (r : Reform) → IsReformOf p old s row r → IsReformOf p new t row r
  reform_stays row r is = record {
    weights = is.weights;
    variables = λ k d short. variable_stays p old new s t later (get_or r.terms k d).0.var (is.variables k d short);
    offset = is.offset;
    small = is.small;
    own = own_stays p old new s t later r.lower_line is.own;
    lower = let line = is.lower in (line.0, named_stays p old new s t later r.lower_line is.own ∙ line.1, line.2);
    upper = λ x rows hold. is.upper x rows (held_before p old new s t later x hold);
  }

  bound_stays : (terms : Terms) (k : ℕ) (l : Literal) (id : ℕ) → IsBoundAt p old s terms k l id →
      IsBoundAt p new t terms k l id
  bound_stays terms k l id is = record {
    variable = variable_stays p old new s t later l.var is.variable;
    own = own_stays p old new s t later id is.own;
    follows = λ x hold reach. is.follows x (held_before p old new s t later x hold) reach;
    bounds = let b = is.bounds in (b.0, named_stays p old new s t later id is.own ∙ b.1, b.2);
    output = output_stays terms k l id is.own is.output;
  }

pub bounds_stay_law : BoundStays
bounds_stay_law p old new s terms k (Always id) keeps replay is = is
bounds_stay_law p old new s terms k Never keeps replay is = is
bounds_stay_law p old new s terms k (At l id) keeps replay is = (
  is.0,
  is.1,
  is.2,
  is.3,
  λ t after.
      let later = own_lines_stay_law p old new s t keeps replay after in
      bound_stays p old new s t replay later terms is.0 l id (is.4 s replay),
)

pub reform_stays_law : ReformStays
reform_stays_law p old new s t row r keeps replay after is =
    reform_stays p old new s t replay (own_lines_stay_law p old new s t keeps replay after) row r is
