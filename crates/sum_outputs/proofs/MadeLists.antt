-- The outputs of a tree's nodes, and those of a node's children among them.
use Rattle.std.proofs.Common.{◌≡◌, ◌≢◌, ◌⊎◌, ⊎_elim, ℕ, ◌+◌, ◌<◌, ◌≤◌, List, [], ◌++◌, length, get_or, drop, refl, ap, sym, subst, ◌∙◌, arith}
use Rattle.std.specs.List.{All}
use Rattle.std.proofs.Math.ListN.{set}
use Rattle.std.proofs.lemmas.Bool.{cases_order}
use Rattle.std.proofs.lemmas.List.Elements.{All-append}
use Rattle.std.proofs.lemmas.List.{take-append-drop, get_or-set_same, get_or-set_other, get_or_default, length-set}
use Rattle.pb_lin.specs.Constraint.{IsVariable}
use Rattle.cutting_planes.proofs.Terms.{Terms}
use Rattle.proof_laws.specs.State.{StateValue}
use Rattle.proof_rules.specs.Recording.{Snapshot}
use Rattle.sum_outputs.specs.Totals.{AreWeights, first_half}
use Rattle.sum_outputs.specs.Adding.{IsReached, IsReady, Continues}
use Rattle.sum_outputs.specs.Outputs.{IsDefined}
use Rattle.sum_outputs.specs.Sums.{last_sum}
use Rattle.sum_outputs.specs.Falling.{AreAllBetween, AreExtended}
use Rattle.sum_outputs.specs.Joining.{AreChildren, AreDefinedNow, AreOutputsAt, IsCompleteTo, IsInnerAt}
use Rattle.sum_outputs.specs.Tree.{IsInner, IsInnerOf, IsTree}
use Rattle.sum_outputs.specs.MadeOutputs.{AreMade, AreCompleteTo, AreOutside}
use Rattle.sum_outputs.proofs.OutputsLater.{defined_then, variable_then, now_later}
use Rattle.sum_outputs.proofs.MakeLines.{outputs_later}
use Rattle.sum_outputs.specs.declared.node.Node.{Node}
use Rattle.sum_outputs.specs.declared.sum_output.SumOutput.{SumOutput}
use Rattle.sum_outputs.specs.declared.inner.Inner.{Inner}

-- some node
abbrev pub any_node : Node
any_node = record { terms = []; total = 0; first = 0; second = 0 }

module _ (nodes : List Node) (tree : IsTree nodes) (i : ℕ) (n m : Node) (short : i < length nodes) (inner : IsInner nodes i (get_or nodes i n)) where
  abbrev node : Node
  node = get_or nodes i n

  -- the terms are those of the children
  pub terms_divide : node.terms ≡ (get_or nodes node.first m).terms ++ (get_or nodes node.second m).terms
  terms_divide = sym (take-append-drop (first_half (length node.terms)) node.terms)
      ∙ ap (λ (ts : Terms). ts ++ drop (first_half (length node.terms)) node.terms) (sym (inner.first_terms m))
      ∙ ap (λ (ts : Terms). (get_or nodes node.first m).terms ++ ts) (sym (inner.second_terms m))

  pub children_of : (a : Snapshot) (s : StateValue) (made : List (List SumOutput)) (os : List SumOutput) → AreMade a s nodes made → AreChildren a s (get_or nodes node.first m).terms (get_or nodes node.second m).terms (get_or made node.first os) (get_or made node.second os)
  children_of a s made os are =
      let first_short : node.first < length nodes = let b = inner.first_before in omega arith in
      let second_short : node.second < length nodes = let b = inner.second_before in omega arith in
      record {
        weights = subst (λ (ts : Terms). AreWeights ts) terms_divide (tree i n short).weights;
        variables = subst (λ (ts : Terms). All (λ t. IsVariable s.vars t.0.var) ts) terms_divide (are.variables i n short);
        of_first = are.outputs node.first m os first_short;
        of_second = are.outputs node.second m os second_short;
        apart = are.apart node.first node.second os os first_short second_short (λ e. let b = inner.apart in omega arith);
        first_outside = are.first_outside i n m os short inner;
        second_outside = are.second_outside i n m os short inner;
      }

-- what holds at one place and what holds at all others holds in a list with another element there
pub set_cases : (P : ℕ → List SumOutput → Type 0) (made : List (List SumOutput)) (i : ℕ) (os : List SumOutput) → i < length made → P i os → ((j : ℕ) (d : List SumOutput) → j ≢ i → P j (get_or made j d)) → (j : ℕ) (d : List SumOutput) → P j (get_or (set made i os) j d)
set_cases P made i os short here there j d = ⊎_elim
    (λ (same : j ≡ i). subst (λ (k : ℕ). P k (get_or (set made i os) k d)) (sym same) (subst (λ (ps : List SumOutput). P i ps) (sym (get_or-set_same made i os d short)) here))
    (λ (other : (j < i) ⊎ (i < j)).
    let ne : j ≢ i = ⊎_elim (λ (less : j < i). λ (e : j ≡ i). absurd (omega arith)) (λ (more : i < j). λ (e : j ≡ i). absurd (omega arith)) other in
    subst (λ (ps : List SumOutput). P j ps) (sym (get_or-set_other made i j os d ne)) (there j d ne))
    (cases_order j i)

-- one node has more outputs, of new variables
module _ (a b : Snapshot) (ready : IsReady a) (on : Continues a b) (nodes : List Node) (made : List (List SumOutput)) (i k : ℕ) (n : Node) (os before : List SumOutput) (short : i < length nodes)
    (old : (s : StateValue) → IsReached a s → AreMade a s nodes made) (ext : AreExtended a b (get_or nodes i n).terms (get_or made i before) k os) where
  abbrev s₀ : StateValue
  s₀ = ready.state

  was : AreMade a s₀ nodes made
  was = old s₀ ready.reached

  in_made : i < length made
  in_made = let e = was.size in omega arith

  -- of the new variables, and of those that were there
  each_by : (P : SumOutput → Type 0) → ((o : SumOutput) → s₀.vars < o.lit.var → P o) → All P (get_or made i before) → All P os
  each_by P new there = subst (λ (ps : List SumOutput). All P ps) (sym ext.is)
      (All-append P (get_or made i before) ext.more there (λ j d less. new (get_or ext.more j d) (ext.fresh s₀ ready.reached j d less)))

  old_variable : (j : ℕ) (ps : List SumOutput) → j < length nodes → All (λ o. o.lit.var ≤ s₀.vars) (get_or made j ps)
  old_variable j ps less h e within = let v = ((was.outputs j n ps less).each h e within).literal.variable in v.1

  apart_here : (j : ℕ) (ps : List SumOutput) → j < length nodes → j ≢ i → All (λ o. All (λ p. o.lit.var ≢ p.lit.var) (get_or made j ps)) os
  apart_here j ps less ne = each_by (λ o. All (λ p. o.lit.var ≢ p.lit.var) (get_or made j ps))
      (λ o fresh h e within same. let v = old_variable j ps less h e within in absurd (omega arith))
      (was.apart i j before ps short less (λ e. ne (sym e)))

  outside_here : (terms : Terms) → All (λ t. IsVariable s₀.vars t.0.var) terms → AreOutside (get_or made i before) terms → AreOutside os terms
  outside_here terms variables there = each_by (λ o. All (λ t. o.lit.var ≢ t.0.var) terms)
      (λ o fresh h e within same. let v = variables h e within in absurd (omega arith)) there

  abbrev new : List (List SumOutput)
  new = set made i os

  node_same : (m : Node) → get_or nodes i n ≡ get_or nodes i m
  node_same m = get_or_default nodes i n m short

  outputs_new : (t : StateValue) → IsReached b t → (j : ℕ) (ps : List SumOutput) (m : Node) → j < length nodes → AreOutputsAt b t (get_or nodes j m).terms (get_or new j ps)
  outputs_new t reached = set_cases (λ j qs. (m : Node) → j < length nodes → AreOutputsAt b t (get_or nodes j m).terms qs) made i os in_made
      (λ m less. subst (λ (nd : Node). AreOutputsAt b t nd.terms os) (node_same m) (ext.outputs t reached))
      (λ j d ne m less. outputs_later a b ready on (get_or nodes j m).terms (get_or made j d) (λ s here. (old s here).outputs j m d less) t reached)

  defined_new : (t : StateValue) → IsReached b t → (j : ℕ) (ps : List SumOutput) (m : Node) → j < length nodes → 1 < length (get_or nodes j m).terms → All (IsDefined b t (get_or nodes j m).terms) (get_or new j ps)
  defined_new t reached = set_cases (λ j qs. (m : Node) → j < length nodes → 1 < length (get_or nodes j m).terms → All (IsDefined b t (get_or nodes j m).terms) qs) made i os in_made
      (λ m less long. subst (λ (nd : Node). All (IsDefined b t nd.terms) os) (node_same m) (ext.defined t reached))
      (λ j d ne m less long. now_later a b (λ c s. All (IsDefined c s (get_or nodes j m).terms) (get_or made j d)) ready on (λ s has all h e within. defined_then a b on s has (get_or nodes j m).terms (get_or (get_or made j d) h e) (all h e within)) (λ s here. (old s here).defined j m d less long) t reached)

  gapless_new : (j : ℕ) (ps : List SumOutput) (m : Node) → j + 1 < length nodes → AreAllBetween (get_or nodes j m).terms 0 (last_sum (get_or new j ps)) (get_or new j ps)
  gapless_new = set_cases (λ j qs. (m : Node) → j + 1 < length nodes → AreAllBetween (get_or nodes j m).terms 0 (last_sum qs) qs) made i os in_made
      (λ m less. subst (λ (nd : Node). AreAllBetween nd.terms 0 (last_sum os) os) (node_same m) ext.gapless)
      (λ j d ne m less. was.gapless j m d less)

  leaves_new : 1 < length (get_or nodes i n).terms → (j : ℕ) (ps : List SumOutput) (m : Node) (h : ℕ) → j < length nodes → length (get_or nodes j m).terms ≡ 1 → IsCompleteTo (get_or nodes j m).terms (get_or new j ps) h
  leaves_new long = set_cases (λ j qs. (m : Node) (h : ℕ) → j < length nodes → length (get_or nodes j m).terms ≡ 1 → IsCompleteTo (get_or nodes j m).terms qs h) made i os in_made
      (λ m h less one. let same : length (get_or nodes i n).terms ≡ length (get_or nodes i m).terms = ap (λ (nd : Node). length nd.terms) (node_same m) in absurd (omega arith))
      (λ j d ne m h less one. was.leaves j m d h less one)

  apart_new : (j : ℕ) (ps : List SumOutput) (h : ℕ) (qs : List SumOutput) → j < length nodes → h < length nodes → j ≢ h → All (λ o. All (λ p. o.lit.var ≢ p.lit.var) (get_or new h qs)) (get_or new j ps)
  apart_new = set_cases (λ j xs. (h : ℕ) (qs : List SumOutput) → j < length nodes → h < length nodes → j ≢ h → All (λ o. All (λ p. o.lit.var ≢ p.lit.var) (get_or new h qs)) xs) made i os in_made
      (λ h qs less less' ne. subst (λ (ys : List SumOutput). All (λ o. All (λ p. o.lit.var ≢ p.lit.var) ys) os) (sym (get_or-set_other made i h os qs (λ e. ne (sym e)))) (apart_here h qs less' (λ e. ne (sym e))))
      (λ j d ne h qs less less' other. set_cases (λ f ys. f < length nodes → j ≢ f → All (λ o. All (λ p. o.lit.var ≢ p.lit.var) ys) (get_or made j d)) made i os in_made
      (λ l e x o within y p inside same. apart_here j d less ne y p inside x o within (sym same))
      (λ f c ne' l e. was.apart j f d c less l e) h qs less' other)

  first_new : (j : ℕ) (m u : Node) (ps : List SumOutput) → j < length nodes → IsInner nodes j (get_or nodes j m) → AreOutside (get_or new (get_or nodes j m).first ps) (get_or nodes (get_or nodes j m).second u).terms
  first_new j m u ps less inner = set_cases (λ f xs. f ≡ (get_or nodes j m).first → AreOutside xs (get_or nodes (get_or nodes j m).second u).terms) made i os in_made
      (λ e. outside_here (get_or nodes (get_or nodes j m).second u).terms (was.variables (get_or nodes j m).second u (let x = inner.second_before in omega arith))
      (subst (λ (f : ℕ). AreOutside (get_or made f before) (get_or nodes (get_or nodes j m).second u).terms) (sym e) (was.first_outside j m u before less inner)))
      (λ f d ne e. subst (λ (g : ℕ). AreOutside (get_or made g d) (get_or nodes (get_or nodes j m).second u).terms) (sym e) (was.first_outside j m u d less inner))
      (get_or nodes j m).first ps refl

  second_new : (j : ℕ) (m u : Node) (ps : List SumOutput) → j < length nodes → IsInner nodes j (get_or nodes j m) → AreOutside (get_or new (get_or nodes j m).second ps) (get_or nodes (get_or nodes j m).first u).terms
  second_new j m u ps less inner = set_cases (λ f xs. f ≡ (get_or nodes j m).second → AreOutside xs (get_or nodes (get_or nodes j m).first u).terms) made i os in_made
      (λ e. outside_here (get_or nodes (get_or nodes j m).first u).terms (was.variables (get_or nodes j m).first u (let x = inner.first_before in omega arith))
      (subst (λ (f : ℕ). AreOutside (get_or made f before) (get_or nodes (get_or nodes j m).first u).terms) (sym e) (was.second_outside j m u before less inner)))
      (λ f d ne e. subst (λ (g : ℕ). AreOutside (get_or made g d) (get_or nodes (get_or nodes j m).first u).terms) (sym e) (was.second_outside j m u d less inner))
      (get_or nodes j m).second ps refl

  pub made_extended : 1 < length (get_or nodes i n).terms → (t : StateValue) → IsReached b t → AreMade b t nodes new
  made_extended long t reached = record {
    size = length-set made i os ∙ was.size;
    variables = λ j m less. now_later a b (λ c s. All (λ u. IsVariable s.vars u.0.var) (get_or nodes j m).terms) ready on (λ s has all h e within. variable_then a b on s has (get_or (get_or nodes j m).terms h e).0.var (all h e within)) (λ s here. (old s here).variables j m less) t reached;
    outputs = λ j m ps less. outputs_new t reached j ps m less;
    defined = λ j m ps less long. defined_new t reached j ps m less long;
    gapless = λ j m ps less. gapless_new j ps m less;
    leaves = λ j m ps h less one. leaves_new long j ps m h less one;
    apart = λ j h ps qs less less' ne. apart_new j ps h qs less less' ne;
    first_outside = λ j m u ps less inner. first_new j m u ps less inner;
    second_outside = λ j m u ps less inner. second_new j m u ps less inner;
  }

  -- the first nodes are complete, and now this one
  pub complete_more : AreCompleteTo nodes made i k → AreCompleteTo nodes new (i + 1) k
  complete_more before_is j m ps less = set_cases (λ f xs. f < i + 1 → IsCompleteTo (get_or nodes f m).terms xs k) made i os in_made
      (λ l. subst (λ (nd : Node). IsCompleteTo nd.terms os k) (node_same m) ext.complete)
      (λ f d ne l. before_is f m d (⊎_elim (λ (e : f ≡ i). absurd (ne e)) (λ (o : (f < i) ⊎ (i < f)). ⊎_elim (λ (x : f < i). x) (λ (x : i < f). absurd (omega arith)) o) (cases_order f i)))
      j ps less

-- a node of more terms than one has children
pub inner_of : (nodes : List Node) → IsTree nodes → (i : ℕ) (n : Node) → i < length nodes → 1 < length (get_or nodes i n).terms → IsInner nodes i (get_or nodes i n)
inner_of nodes tree i n short long = ⊎_elim
    (λ (one : length (get_or nodes i n).terms ≡ 1). absurd (omega arith))
    (λ (inner : IsInner nodes i (get_or nodes i n)). inner)
    (tree i n short).shape

pub long_node : (nodes : List Node) → IsTree nodes → (i : ℕ) (n : Node) → i < length nodes → (length (get_or nodes i n).terms ≡ 1 → ⊥) → (d : Node) → 1 < length (get_or nodes i d).terms
long_node nodes tree i n short other d = ⊎_elim
    (λ (one : length (get_or nodes i d).terms ≡ 1). absurd (other (ap (λ (nd : Node). length nd.terms) (get_or_default nodes i n d short) ∙ one)))
    (λ (inner : IsInner nodes i (get_or nodes i d)). inner.long)
    (tree i d short).shape

-- a node of the tree, as it is lent to those that make its outputs
module _ (nodes : List Node) (tree : IsTree nodes) (made : List (List SumOutput)) (i : ℕ) (n : Node) (short : i < length nodes) (inner : IsInner nodes i (get_or nodes i n)) (node : Inner) (is : IsInnerOf nodes made (get_or nodes i n) node) where
  pub inner_of_made : (a : Snapshot) (k : ℕ) → ((s : StateValue) → IsReached a s → AreMade a s nodes made) → AreCompleteTo nodes made i k → IsInnerAt a node k
  inner_of_made a k are complete =
      let first = (get_or nodes i n).first in
      let second = (get_or nodes i n).second in
      record {
        children = λ s reached.
            subst (λ (ts : Terms). AreChildren a s ts node.second.terms.now node.first.outputs.now node.second.outputs.now) (sym (is.first_terms n))
            (subst (λ (ts : Terms). AreChildren a s (get_or nodes first n).terms ts node.first.outputs.now node.second.outputs.now) (sym (is.second_terms n))
            (subst (λ (os : List SumOutput). AreChildren a s (get_or nodes first n).terms (get_or nodes second n).terms os node.second.outputs.now) (sym (is.firsts []))
            (subst (λ (os : List SumOutput). AreChildren a s (get_or nodes first n).terms (get_or nodes second n).terms (get_or made first []) os) (sym (is.seconds []))
            (children_of nodes tree i n n short inner a s made [] (are s reached)))));
        first_complete =
            subst (λ (ts : Terms). IsCompleteTo ts node.first.outputs.now k) (sym (is.first_terms n))
            (subst (λ (os : List SumOutput). IsCompleteTo (get_or nodes first n).terms os k) (sym (is.firsts [])) (complete first n [] inner.first_before));
        second_complete =
            subst (λ (ts : Terms). IsCompleteTo ts node.second.outputs.now k) (sym (is.second_terms n))
            (subst (λ (os : List SumOutput). IsCompleteTo (get_or nodes second n).terms os k) (sym (is.seconds [])) (complete second n [] inner.second_before));
      }

  -- its own outputs
  pub own_outputs : (a : Snapshot) → ((s : StateValue) → IsReached a s → AreMade a s nodes made) → 1 < length (get_or nodes i n).terms → AreDefinedNow a node.terms.now (get_or made i [])
  own_outputs a are long = subst (λ (ts : Terms). AreDefinedNow a ts (get_or made i [])) (sym is.terms) (record {
    outputs = λ s reached. (are s reached).outputs i n [] short;
    defined = λ s reached. (are s reached).defined i n [] short long;
  })
