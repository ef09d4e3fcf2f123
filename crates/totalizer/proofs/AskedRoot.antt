-- An output of the root that was asked for, among those of all nodes.
use Rattle.std.proofs.Common.{◌≡◌, ◌≢◌, ⊎_elim, ℕ, ◌+◌, ◌-◌, ◌<◌, ◌≤◌, List, [], length, get_or, refl, ap, sym, subst, ◌∙◌, arith, pos}
use Rattle.std.specs.List.{All}
use Rattle.std.proofs.Math.ListN.{set}
use Rattle.std.proofs.lemmas.List.{get_or-set_other, length-set}
use Rattle.std.proofs.lemmas.List.Elements.{All-contains}
use Rattle.std.proofs.lemmas.List.Sums.{sum_by-set}
use Rattle.scut_base.specs.Literal.{Literal}
use Rattle.pb_lin.specs.Constraint.{total}
use Rattle.cutting_planes.proofs.Terms.{Terms}
use Rattle.proof_laws.specs.State.{StateValue}
use Rattle.proof_rules.specs.Recording.{Snapshot}
use Rattle.sum_outputs.specs.Adding.{IsReached, IsReady, Continues}
use Rattle.sum_outputs.specs.Outputs.{IsDefined}
use Rattle.sum_outputs.specs.Joining.{IsOutputAt, AreOutputsAt, IsCompleteTo}
use Rattle.sum_outputs.specs.Sums.{last_sum}
use Rattle.sum_outputs.specs.Falling.{AreAllBetween, IsAsked, IsFresh, IsKept}
use Rattle.sum_outputs.specs.MadeOutputs.{AreMade, AreMadeNow, AreCompleteTo, AreOutside, count_outputs}
use Rattle.sum_outputs.specs.declared.node.Node.{Node}
use Rattle.sum_outputs.specs.declared.sum_output.SumOutput.{SumOutput}
use Rattle.totalizer.specs.declared.bound.Bound.TheVariants.{At}
use Rattle.totalizer.specs.Meaning.{IsBound, IsBoundAt}
use Rattle.totalizer.specs.Totalizing.{root_terms}
use Rattle.totalizer.proofs.BoundLines.{output_bound}
use Rattle.totalizer.proofs.LaterOutputs.{made_then, later_of}
use Rattle.sum_outputs.proofs.MadeLists.{any_node, set_cases}
use Rattle.totalizer.proofs.Roots.{root_is, some_nodes}

-- no two of these outputs have one variable
abbrev AreApart : List SumOutput → List SumOutput → Type 0
AreApart os ps = All (λ q. All (λ p. q.lit.var ≢ p.lit.var) ps) os

-- a call for an output of the root, and what it answered: the output, and all of the root
pub record IsAskedRoot (a b : Snapshot) (nodes : List Node) (made : List (List SumOutput)) (k : ℕ) (o : SumOutput)
    (os : List SumOutput) : Type 0 where
  pub ready : IsReady a
  pub on : Continues a b
  pub long : 1 < length (root_terms nodes)
  pub are : AreMadeNow a nodes made
  pub asked : (e : List SumOutput) → IsAsked a b (root_terms nodes) (get_or made (length nodes - 1) e) k o os

module _ (a b : Snapshot) (nodes : List Node) (made : List (List SumOutput)) (k : ℕ) (o : SumOutput)
    (os : List SumOutput) (call : IsAskedRoot a b nodes made k o os) where
  abbrev root : ℕ
  root = length nodes - 1

  abbrev s₀ : StateValue
  s₀ = call.ready.state

  abbrev new : List (List SumOutput)
  new = set made root os

  -- the terms of a node
  abbrev at : ℕ → Node → Terms
  at j n = (get_or nodes j n).terms

  was : AreMade a s₀ nodes made
  was = call.are s₀ call.ready.reached

  some : 0 < length nodes
  some = some_nodes nodes (let long = call.long in omega arith)

  in_made : root < length made
  in_made = let e = was.size in let more = some in omega arith

  -- all that was there, in the state that is reached now
  now_is : (t : StateValue) → IsReached b t → AreMade b t nodes made
  now_is t reached = made_then a b call.on.problem s₀ t (later_of a b call.ready call.on t reached) nodes made was

  terms_are : (n : Node) → root_terms nodes ≡ at root n
  terms_are n = root_is nodes n some

  -- of the new literals, and of those that were there
  each_by : (P : Literal → Type 0) → ((l : Literal) → s₀.vars < l.var → P l) →
      All (λ q. P q.lit) (get_or made root []) → All (λ q. P q.lit) os
  each_by P new' there j d short =
      let q = get_or os j d in
      ⊎_elim
      (λ (kept : IsKept (get_or made root []) q).
      subst P kept.2 (All-contains (λ p. P p.lit) (get_or made root []) kept.0 there kept.1))
      (λ (fresh : (q ≡ o) × IsFresh a q). new' q.lit (fresh.1 s₀ call.ready.reached))
      ((call.asked []).kept j d short)

  apart_here : (j : ℕ) (ps : List SumOutput) → j < length nodes → j ≢ root → AreApart os (get_or made j ps)
  apart_here j ps less ne = each_by (λ l. All (λ p. l.var ≢ p.lit.var) (get_or made j ps))
      (λ l fresh h e within same.
      let v = ((was.outputs j any_node ps less).each h e within).literal.variable in
      absurd (omega (arith, v.1)))
      (was.apart root j [] ps (let more = some in omega arith) less (λ e. ne (sym e)))

  outputs_new : (t : StateValue) → IsReached b t →
      (j : ℕ) (ps : List SumOutput) (n : Node) → j < length nodes → AreOutputsAt b t (at j n) (get_or new j ps)
  outputs_new t reached =
      let P : ℕ → List SumOutput → Type 0 = λ j qs. (n : Node) → j < length nodes → AreOutputsAt b t (at j n) qs in
      set_cases P made root os in_made
      (λ n less. subst (λ (ts : Terms). AreOutputsAt b t ts os) (terms_are n) ((call.asked []).outputs t reached))
      (λ j d ne n less. (now_is t reached).outputs j n d less)

  defined_new : (t : StateValue) → IsReached b t → (j : ℕ) (ps : List SumOutput) (n : Node) → j < length nodes →
      1 < length (at j n) → All (IsDefined b t (at j n)) (get_or new j ps)
  defined_new t reached =
      let P : ℕ → List SumOutput → Type 0 =
      λ j qs. (n : Node) → j < length nodes → 1 < length (at j n) → All (IsDefined b t (at j n)) qs in
      set_cases P made root os in_made
      (λ n less more.
      subst (λ (ts : Terms). All (IsDefined b t ts) os) (terms_are n) ((call.asked []).defined t reached))
      (λ j d ne n less more. (now_is t reached).defined j n d less more)

  leaves_new : (j : ℕ) (ps : List SumOutput) (n : Node) (h : ℕ) → j < length nodes →
      length (at j n) ≡ 1 → IsCompleteTo (at j n) (get_or new j ps) h
  leaves_new =
      let P : ℕ → List SumOutput → Type 0 =
      λ j qs. (n : Node) (h : ℕ) → j < length nodes → length (at j n) ≡ 1 → IsCompleteTo (at j n) qs h in
      set_cases P made root os in_made
      (λ n h less one.
      let same : length (root_terms nodes) ≡ length (at root n) = ap length (terms_are n) in
      let long = call.long in
      absurd (omega arith))
      (λ j d ne n h less one. was.leaves j n d h less one)

  apart_new : (j : ℕ) (ps : List SumOutput) (h : ℕ) (qs : List SumOutput) → j < length nodes → h < length nodes →
      j ≢ h → AreApart (get_or new j ps) (get_or new h qs)
  apart_new =
      let P : ℕ → List SumOutput → Type 0 = λ j xs. (h : ℕ) (qs : List SumOutput) →
      j < length nodes → h < length nodes → j ≢ h → AreApart xs (get_or new h qs) in
      set_cases P made root os in_made
      (λ h qs less less' ne. subst (λ (ys : List SumOutput). AreApart os ys)
      (sym (get_or-set_other made root h os qs (λ e. ne (sym e)))) (apart_here h qs less' (λ e. ne (sym e))))
      (λ j d ne h qs less less' other.
      set_cases (λ f ys. f < length nodes → j ≢ f → AreApart (get_or made j d) ys) made root os in_made
      (λ l e x c within y p inside same. apart_here j d less ne y p inside x c within (sym same))
      (λ f c ne' l e. was.apart j f d c less l e) h qs less' other)

  -- the root is no child
  other_same : (j : ℕ) (ps : List SumOutput) → j + 1 < length nodes → get_or new j ps ≡ get_or made j ps
  other_same j ps below = get_or-set_other made root j os ps (λ e. omega arith)

  outside_stays : (j : ℕ) (ps : List SumOutput) (terms : Terms) → j + 1 < length nodes →
      AreOutside (get_or made j ps) terms → AreOutside (get_or new j ps) terms
  outside_stays j ps terms below is =
      subst (λ (qs : List SumOutput). AreOutside qs terms) (sym (other_same j ps below)) is

  pub made_asked : AreMadeNow b nodes new
  made_asked t reached = record {
    size = length-set made root os ∙ was.size;
    variables = (now_is t reached).variables;
    outputs = λ j n ps less. outputs_new t reached j ps n less;
    defined = λ j n ps less more. defined_new t reached j ps n less more;
    gapless = λ j n ps below. subst (λ (qs : List SumOutput). AreAllBetween (at j n) 0 (last_sum qs) qs)
        (sym (other_same j ps below)) (was.gapless j n ps below);
    leaves = λ j n ps h less one. leaves_new j ps n h less one;
    apart = λ j h ps qs less less' ne. apart_new j ps h qs less less' ne;
    first_outside = λ j n m ps less inner. outside_stays (get_or nodes j n).first ps (at (get_or nodes j n).second m)
        (let x = inner.first_before in omega arith) (was.first_outside j n m ps less inner);
    second_outside = λ j n m ps less inner. outside_stays (get_or nodes j n).second ps (at (get_or nodes j n).first m)
        (let x = inner.second_before in omega arith) (was.second_outside j n m ps less inner);
  }

  -- nodes below the root are as complete as they were
  pub complete_stays : (h : ℕ) → AreCompleteTo nodes made root h → AreCompleteTo nodes new root h
  complete_stays h complete j n ps less = subst (λ (qs : List SumOutput). IsCompleteTo (at j n) qs h)
      (sym (other_same j ps (omega arith))) (complete j n ps less)

  asked_bound_at : (t : StateValue) → IsReached b t → IsBoundAt b.problem b.lines t (root_terms nodes) k o.lit o.lower
  asked_bound_at t reached =
      let ask = call.asked [] in
      output_bound b t (root_terms nodes) k o
      (All-contains (IsOutputAt b t (root_terms nodes)) os o (ask.outputs t reached).each ask.there)
      (All-contains (IsDefined b t (root_terms nodes)) os o (ask.defined t reached) ask.there) ask.least call.long

  pub asked_bound : 0 < k → k ≤ total (root_terms nodes) →
      IsBound b.problem b.lines (root_terms nodes) (pos k) (At o.lit o.lower)
  asked_bound from_one most = (k, refl, from_one, most, asked_bound_at)

  pub count_more : (d : List SumOutput) →
      count_outputs new + length (get_or made root d) ≡ count_outputs made + length os
  count_more d = sum_by-set length made root os d in_made
