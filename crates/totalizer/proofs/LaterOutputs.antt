-- Outputs mean the same in a state after another.
use Rattle.std.proofs.Common.{◌≡◌, ⊎_elim, inl, inr, ℕ, ◌<◌, Bool, List, get_or, sym, subst, arith}
use Rattle.pb_lin.specs.Constraint.{ConstraintValue, IsVariable}
use Rattle.pb_lin.specs.Problem.{ProblemValue}
use Rattle.cutting_planes.proofs.Terms.{Terms}
use Rattle.proof_laws.specs.State.{StateValue}
use Rattle.proof_laws.specs.Steps.{reached_if, reached_only_if}
use Rattle.proof_laws.proofs.Replays.{replay_once}
use Rattle.proof_rules.specs.Recording.{Snapshot}
use Rattle.sum_outputs.specs.Adding.{IsOwn, IsLater, IsReached, IsReady, KeptHold, Continues}
use Rattle.sum_outputs.specs.Outputs.{IsOfLeaf, IsDefined, IsLiteralOf}
use Rattle.sum_outputs.specs.Joining.{IsOutputAt}
use Rattle.sum_outputs.specs.MadeOutputs.{AreMade}
use Rattle.sum_outputs.specs.declared.node.Node.{Node}
use Rattle.sum_outputs.specs.declared.sum_output.SumOutput.{SumOutput}

module _ (a b : Snapshot) (problem : b.problem ≡ a.problem) (s t : StateValue)
    (later : IsLater a.problem a.lines s b.lines t) where
  own_then : (id : ℕ) (c : ConstraintValue) → IsOwn a.problem a.lines s id c → IsOwn b.problem b.lines t id c
  own_then id c own = subst (λ (p : ProblemValue). IsOwn p b.lines t id c) (sym problem) (later.own id c own)

  -- the kept clauses are still there
  pub kept_then : (x : List Bool) → KeptHold b.problem b.lines t x → KeptHold a.problem a.lines s x
  kept_then x hold id c kept = let own = own_then id c (kept.0, kept.2) in hold id c (own.0, kept.1, own.1)

  pub variable_then : (v : ℕ) → IsVariable s.vars v → IsVariable t.vars v
  variable_then v is = let more = later.vars in (is.0, omega arith)

  defined_then : (terms : Terms) (o : SumOutput) → IsDefined a s terms o → IsDefined b t terms o
  defined_then terms o is = record {
    sum = is.sum;
    degree = is.degree;
    normal = is.normal;
    order = is.order;
    same = is.same;
    whole = is.whole;
    below = is.below;
    above = subst (λ (p : ProblemValue). p.vars < o.lit.var) (sym problem) is.above;
    positive = is.positive;
    named = is.named;
    lower = own_then o.lower (reached_if o.lit.var is.sum) is.lower;
    upper = own_then o.upper (reached_only_if o.lit.var is.sum) is.upper;
  }

  literal_then : (terms : Terms) (o : SumOutput) → IsLiteralOf a s terms o → IsLiteralOf b t terms o
  literal_then terms o is = record {
    known = ⊎_elim (λ (leaf : IsOfLeaf terms o). inl leaf)
        (λ (d : IsDefined a s terms o). inr (defined_then terms o d)) is.known;
    some = is.some;
    most = is.most;
    variable = variable_then o.lit.var is.variable;
  }

  output_then : (terms : Terms) (o : SumOutput) → IsOutputAt a s terms o → IsOutputAt b t terms o
  output_then terms o is = record {
    literal = literal_then terms o is.literal;
    attainable = is.attainable;
    gap = is.gap;
    follows = λ x hold reach. is.follows x (kept_then x hold) reach;
  }

  pub made_then : (nodes : List Node) (made : List (List SumOutput)) → AreMade a s nodes made → AreMade b t nodes made
  made_then nodes made is = record {
    size = is.size;
    variables = λ i n short k d within.
        variable_then (get_or (get_or nodes i n).terms k d).0.var (is.variables i n short k d within);
    outputs = λ i n os short.
        let are = is.outputs i n os short in
        record {
          each = λ k d within.
              output_then (get_or nodes i n).terms (get_or (get_or made i os) k d) (are.each k d within);
          rising = are.rising;
        };
    defined = λ i n os short long k d within.
        defined_then (get_or nodes i n).terms (get_or (get_or made i os) k d) (is.defined i n os short long k d within);
    gapless = is.gapless;
    leaves = is.leaves;
    apart = is.apart;
    first_outside = is.first_outside;
    second_outside = is.second_outside;
  }

-- calls of a recorder make later states
pub later_of : (a b : Snapshot) (ready : IsReady a) → Continues a b → (t : StateValue) → IsReached b t →
    IsLater a.problem a.lines ready.state b.lines t
later_of a b ready on t reached =
    let has = on.states ready.state ready.reached in
    subst (λ (u : StateValue). IsLater a.problem a.lines ready.state b.lines u)
    (replay_once b.problem b.lines has.state t has.reached reached) has.later
