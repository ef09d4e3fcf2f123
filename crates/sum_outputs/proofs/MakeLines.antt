-- An output that is made, from its definition to the last of its clauses.
use Rattle.std.proofs.Common.{◌≡◌, inr, ℕ, ◌<◌, ◌≤◌, ◌^◌, Bool, true, false, List, [], ◌∷◌, ◌++◌, get_or, length, sym, subst, ⊎_elim, arith}
use Rattle.std.specs.List.{All}
use Rattle.std.proofs.lemmas.List.Elements.{All-nil, All-cons, All-contains, Contains-get_or}
use Rattle.scut_base.specs.Assignment.{lit_true}
use Rattle.pb_lin.specs.Constraint.{IsVariable, total, value}
use Rattle.cutting_planes.proofs.Terms.{Terms}
use Rattle.proof_laws.specs.State.{StateValue}
use Rattle.proof_rules.specs.Recording.{Snapshot}
use Rattle.sum_outputs.specs.Totals.{AreWeights, IsLeastSum}
use Rattle.sum_outputs.specs.Adding.{IsReached, IsReady, Continues, KeptHold}
use Rattle.sum_outputs.specs.Outputs.{CanImplyNow, Imply, IsDefined, IsDefinedNext}
use Rattle.sum_outputs.specs.Joining.{Follows, IsOutputAt, SinglesImply, AreOutputsAt, AreOutputsNow, AreChildren, AreChildrenNow, IsInnerAt, IsTarget, IsTargetNow, AreImplying, IsAboveAll, IsNewOutput}
use Rattle.sum_outputs.specs.declared.sum_output.SumOutput.{SumOutput}
use Rattle.sum_outputs.specs.declared.inner.Inner.{Inner}
use Rattle.sum_outputs.proofs.Glue.{value-le-total}
use Rattle.sum_outputs.proofs.LaterStates.{continues_twice, ready_later, always_later}
use Rattle.sum_outputs.proofs.OutputsLater.{defined_then, variable_then, now_later}
use Rattle.sum_outputs.proofs.JoinLines.{children_then, outputs_then, target_then, new_target, tie_can}
use Rattle.sum_outputs.proofs.JoinMeaning.{target_follows}

-- the weights of a node with children
pub node_weights : (a : Snapshot) → IsReady a → (node : Inner) → AreChildrenNow a node → AreWeights node.terms.now
node_weights a ready node children = subst (λ (ts : Terms). AreWeights ts) (sym node.joined) (children ready.state ready.reached).weights

module _ (a b : Snapshot) (ready : IsReady a) (on : Continues a b) where
  children_later : (node : Inner) → AreChildrenNow a node → AreChildrenNow b node
  children_later node = now_later a b (λ c s. AreChildren c s node.first.terms.now node.second.terms.now node.first.outputs.now node.second.outputs.now) ready on
      (λ s has is. children_then a b on s has node.first.terms.now node.second.terms.now node.first.outputs.now node.second.outputs.now is)

  pub inner_later : (node : Inner) (k : ℕ) → IsInnerAt a node k → IsInnerAt b node k
  inner_later node k inner = record {
    children = children_later node inner.children;
    first_complete = inner.first_complete;
    second_complete = inner.second_complete;
  }

  pub outputs_later : (terms : Terms) (os : List SumOutput) → AreOutputsNow a terms os → AreOutputsNow b terms os
  outputs_later terms os = now_later a b (λ c s. AreOutputsAt c s terms os) ready on (λ s has is. outputs_then a b on s has terms os is)

  pub target_later : (node : Inner) (o : SumOutput) → IsTargetNow a node o → IsTargetNow b node o
  target_later node o = now_later a b (λ c s. IsTarget c s (node.first.terms.now ++ node.second.terms.now) node.first.outputs.now node.second.outputs.now o) ready on
      (λ s has is. target_then a b on s has (node.first.terms.now ++ node.second.terms.now) node.first.outputs.now node.second.outputs.now o is)

  -- a literal that was just defined is a target
  pub target_now : (node : Inner) (o : SumOutput) → AreChildrenNow a node → 0 < o.sum → IsDefinedNext a b node.terms.now o → IsTargetNow b node o
  target_now node o are some new t reached =
      new_target a ready.state node.first.terms.now node.second.terms.now node.first.outputs.now node.second.outputs.now (are ready.state ready.reached) b t o some (new.fresh ready.state ready.reached) (new.variable t reached)
      (subst (λ (ts : Terms). IsDefined b t ts o) node.joined (new.defined t reached))

  -- greater outputs of the node may imply it
  pub ties_now : (node : Inner) (next : List SumOutput) (o : SumOutput) → AreChildrenNow a node → AreOutputsNow a node.terms.now next → 0 < o.sum → IsDefinedNext a b node.terms.now o →
      All (λ p. o.sum ≤ p.sum → CanImplyNow b (p ∷ []) [] o) next
  ties_now node next o are nexts some new k d short reach t reached =
      let here = (outputs_later node.terms.now next nexts t reached).each k d short in
      let before = (nexts ready.state ready.reached).each k d short in
      let old = before.literal.variable in
      let fresh = new.fresh ready.state ready.reached in
      tie_can b t node.terms.now (get_or next k d) o (node_weights a ready node are) (new.defined t reached) some (new.variable t reached) here.literal reach (λ e. omega arith)

-- what the clauses give
module _ (a b c d : Snapshot) (ready : IsReady a) (one : Continues a b) (b_whole : b.broken ≡ false) (two : Continues b c) (c_whole : c.broken ≡ false) (three : Continues c d) (node : Inner) (next : List SumOutput) (o : SumOutput) (from below : ℕ)
    (inner : IsInnerAt a node from) (nexts : AreOutputsNow a node.terms.now next) (above : IsAboveAll node.terms.now next below) (greater : All (λ p. o.sum < p.sum) next)
    (from_one : 0 < from) (from_is : o.from ≡ from) (least : IsLeastSum node.terms.now from o.sum) (new : IsDefinedNext a b node.terms.now o)
    (most : ℕ) (large : 2 ^ 63 ≤ most) (ties : SinglesImply c next o most) (by : AreImplying d node o below) where
  abbrev terms : Terms
  terms = node.terms.now

  all : Continues a d
  all = continues_twice a c d (continues_twice a b c one two) three

  ready_b : IsReady b
  ready_b = ready_later a b ready one b_whole

  later : Continues b d
  later = continues_twice b c d two three

  some : 0 < o.sum
  some = let r = least.reaches in omega arith

  -- from `below` on it follows by the next greater output
  from_below : (t : StateValue) → IsReached d t → (x : List Bool) → KeptHold d.problem d.lines t x → below ≤ value x terms → lit_true x o.lit ≡ true
  from_below t reached x hold high = ⊎_elim
      (λ (none : total terms < below). let most = value-le-total x terms in absurd (omega arith))
      (λ (next_is : (0 < length next) × ((e : SumOutput) → (get_or next 0 e).sum ≡ below)).
      let p = get_or next 0 o in
      let outputs = outputs_later a d ready all terms next nexts t reached in
      let sum = next_is.1 o in
      let over = greater 0 o next_is.0 in
      let small = outputs.rising.small 0 o next_is.0 in
      let lesser = ties p (Contains-get_or next 0 o next_is.0) (omega arith) (omega arith) in
      let is = All-contains (IsOutputAt d t terms) next lesser.0 outputs.each lesser.1 in
      let low = lesser.2 in
      let true_too : lit_true x lesser.0.lit ≡ true = is.follows x hold (omega arith) in
      always_later c d (Imply (lesser.0 ∷ []) o) (ready_later a c ready (continues_twice a b c one two) c_whole) three lesser.3 t reached x hold
      (All-cons (λ q. lit_true x q.lit ≡ true) lesser.0 [] true_too (All-nil (λ q. lit_true x q.lit ≡ true))))
      above

  defined_d : (t : StateValue) → IsReached d t → IsDefined d t terms o × IsVariable t.vars o.lit.var
  defined_d = now_later b d (λ e s. IsDefined e s terms o × IsVariable s.vars o.lit.var) ready_b later (λ s has is. (defined_then b d later s has terms o is.0, variable_then b d later s has o.lit.var is.1)) (λ s reached. (new.defined s reached, new.variable s reached))

  follows_d : (t : StateValue) → IsReached d t → Follows d t terms o
  follows_d t reached = subst (λ (ts : Terms). Follows d t ts o) (sym node.joined)
      (target_follows d t reached node (children_later a d ready all node inner.children t reached) o from below inner.first_complete inner.second_complete (subst (λ (ts : Terms). IsLeastSum ts from o.sum) node.joined least) some by
      (λ x hold high. from_below t reached x hold (subst (λ (ts : Terms). below ≤ value x ts) (sym node.joined) high)))

  pub output_made : IsNewOutput a d terms o
  output_made = record {
    fresh = new.fresh;
    defined = λ t reached. let is = defined_d t reached in is.0;
    is = λ t reached.
        let is = defined_d t reached in
        let reached_by = least.attainable in
        record {
          literal = record { known = inr is.0; some = some; most = let most = value-le-total reached_by.0 terms in let e = reached_by.1 in omega arith; variable = is.1 };
          attainable = least.attainable;
          gap = λ m can reach. least.least m can (omega arith);
          follows = follows_d t reached;
        };
  }
