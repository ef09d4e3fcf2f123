-- A totalizer that was just built.
use Rattle.std.proofs.Common.{◌≡◌, ◌≢◌, ◌⊎◌, ⊎_elim, ℕ, ◌-◌, ◌<◌, ◌≤◌, List, [], ◌∷◌, ◌++◌, length, get_or, map, refl, ap, sym, subst, ◌∙◌, arith}
use Rattle.std.specs.Prelude.{◌^◌}
use Rattle.std.specs.List.{All, Contains}
use Rattle.std.proofs.lemmas.Bool.{cases_order}
use Rattle.std.proofs.lemmas.List.{get_or-map, length-map, get_or_default}
use Rattle.std.proofs.lemmas.List.Elements.{All-nil, All-cons, All-head, All-contains}
use Rattle.scut_base.specs.Literal.{Literal}
use Rattle.scut_base.proofs.Lists.{Contains-nil}
use Rattle.pb_lin.specs.Constraint.{IsVariable}
use Rattle.cutting_planes.proofs.Terms.{Terms}
use Rattle.proof_laws.specs.State.{StateValue}
use Rattle.proof_rules.specs.Recording.{Snapshot}
use Rattle.sum_outputs.specs.Totals.{AreWeights}
use Rattle.sum_outputs.specs.Adding.{IsReached}
use Rattle.sum_outputs.specs.Outputs.{IsDefined}
use Rattle.sum_outputs.specs.Joining.{IsOutputAt, AreOutputsAt, IsCompleteTo}
use Rattle.sum_outputs.specs.Sums.{last_sum}
use Rattle.sum_outputs.specs.Falling.{AreAllBetween}
use Rattle.sum_outputs.specs.Leaves.{leaf_output}
use Rattle.sum_outputs.specs.Tree.{IsInner, IsGrown}
use Rattle.sum_outputs.specs.MadeOutputs.{AreMadeNow, AreCompleteTo, AreOutside}
use Rattle.sum_outputs.specs.declared.node.Node.{Node}
use Rattle.sum_outputs.specs.declared.sum_output.SumOutput.{SumOutput}
use Rattle.sum_outputs.proofs.Attaining.{apart_across}
use Rattle.sum_outputs.proofs.LeafLists.{leaf_outputs, leaf_complete}
use Rattle.sum_outputs.proofs.MadeLists.{any_node, terms_divide}
use Rattle.totalizer.specs.Totalizing.{first_outputs, Fits, HasVariables}
use Rattle.totalizer.specs.Knowing.{AreNodesOf}
use Rattle.totalizer.proofs.AskedTotalizer.{totalizer_of}
use Rattle.totalizer.proofs.Roots.{root_is, alone}

-- ---- nodes

pub nodes_grown : (nodes : List Node) (terms : Terms) (at : ℕ) → IsGrown [] nodes terms at → AreNodesOf terms nodes
nodes_grown nodes terms at is =
    let last = is.last in
    record {
      root = root_is nodes any_node (omega arith) ∙ ap (λ (j : ℕ). (get_or nodes j any_node).terms)
          (let e : length nodes - 1 ≡ at = omega arith in e) ∙ is.has any_node;
      rooted = record { tree = is.tree; parents = λ i below. is.parents i (omega arith) (omega arith) };
      among = subst (λ (ns : List Node). All (λ n. All (Contains terms) n.terms) ns) (sym is.is) is.among;
      leaves_apart = λ i j less short. is.leaves_apart i j (omega arith) less short;
    }

-- ---- outputs of one node

no_outputs : (a : Snapshot) (s : StateValue) (terms : Terms) → AreOutputsAt a s terms []
no_outputs a s terms = record {
  each = All-nil (IsOutputAt a s terms);
  rising = record { rising = λ i j d less short. absurd (omega arith); small = All-nil (λ o. o.sum < 2 ^ 63) };
}

first_are : (a : Snapshot) (s : StateValue) (terms : Terms) → AreWeights terms →
    All (λ t. IsVariable s.vars t.0.var) terms → AreOutputsAt a s terms (first_outputs terms)
first_are a s [] weights variables = no_outputs a s []
first_are a s (t ∷ []) weights variables =
    leaf_outputs t weights a s (All-head (λ u. IsVariable s.vars u.0.var) t [] variables)
first_are a s (t ∷ u ∷ ts) weights variables = no_outputs a s (t ∷ u ∷ ts)

first_none : (terms : Terms) → 1 < length terms → first_outputs terms ≡ []
first_none [] long = refl
first_none (t ∷ []) long = absurd (omega arith)
first_none (t ∷ u ∷ ts) long = refl

first_some : (terms : Terms) (o : SumOutput) → Contains (first_outputs terms) o → length terms ≡ 1
first_some [] o has = absurd (Contains-nil o has)
first_some (t ∷ []) o has = refl
first_some (t ∷ u ∷ ts) o has = absurd (Contains-nil o has)

first_complete : (terms : Terms) → AreWeights terms → length terms ≡ 1 → (k : ℕ) →
    IsCompleteTo terms (first_outputs terms) k
first_complete [] weights one k = absurd (omega arith)
first_complete (t ∷ []) weights one k = leaf_complete t weights k
first_complete (t ∷ u ∷ ts) weights one k = absurd (omega arith)

first_gapless : (terms : Terms) → AreWeights terms → AreAllBetween terms 0 (last_sum (first_outputs terms))
    (first_outputs terms)
first_gapless [] weights m can more most = absurd (omega arith)
first_gapless (t ∷ []) weights m can more most = ⊎_elim
    (λ (same : (o : SumOutput) × Contains (leaf_output t ∷ []) o × (o.sum ≡ m)). same)
    (λ (less : (o : SumOutput) × Contains (leaf_output t ∷ []) o × (m ≤ o.sum) × (o.sum ≤ m)).
    let low = less.2 in
    let high = less.3 in
    (less.0, less.1, omega arith))
    (leaf_complete t weights m m can more)
first_gapless (t ∷ u ∷ ts) weights m can more most = absurd (omega arith)

-- ---- outputs of two

one_outside : (t : Literal × ℕ) (us : Terms) → All (λ u. t.0.var ≢ u.0.var) us → AreOutside (leaf_output t ∷ []) us
one_outside t us apart = All-cons (λ o. All (λ u. o.lit.var ≢ u.0.var) us)
    (leaf_output t) [] apart (All-nil (λ o. All (λ u. o.lit.var ≢ u.0.var) us))

first_outside : (ts us : Terms) → All (λ t. All (λ u. t.0.var ≢ u.0.var) us) ts → AreOutside (first_outputs ts) us
first_outside [] us apart = All-nil (λ o. All (λ u. o.lit.var ≢ u.0.var) us)
first_outside (t ∷ []) us apart = one_outside t us (All-head (λ s. All (λ u. s.0.var ≢ u.0.var) us) t [] apart)
first_outside (t ∷ v ∷ ts) us apart = All-nil (λ o. All (λ u. o.lit.var ≢ u.0.var) us)

abbrev AreApartFrom : List SumOutput → List SumOutput → Type 0
AreApartFrom os ps = All (λ o. All (λ p. o.lit.var ≢ p.lit.var) ps) os

none_apart : (os : List SumOutput) → AreApartFrom os []
none_apart os h e within = All-nil (λ p. (get_or os h e).lit.var ≢ p.lit.var)

first_apart : (ts us : Terms) →
    (length ts ≡ 1 → length us ≡ 1 → All (λ t. All (λ u. t.0.var ≢ u.0.var) us) ts) →
    AreApartFrom (first_outputs ts) (first_outputs us)
first_apart [] us apart = All-nil (λ o. All (λ p. o.lit.var ≢ p.lit.var) (first_outputs us))
first_apart (t ∷ v ∷ ts) us apart = All-nil (λ o. All (λ p. o.lit.var ≢ p.lit.var) (first_outputs us))
first_apart (t ∷ []) [] apart = none_apart (leaf_output t ∷ [])
first_apart (t ∷ []) (u ∷ v ∷ us) apart = none_apart (leaf_output t ∷ [])
first_apart (t ∷ []) (u ∷ []) apart =
    let ne = All-head (λ w. t.0.var ≢ w.0.var) u []
    (All-head (λ s. All (λ w. s.0.var ≢ w.0.var) (u ∷ [])) t [] (apart refl refl)) in
    All-cons (λ o. All (λ p. o.lit.var ≢ p.lit.var) (leaf_output u ∷ []))
    (leaf_output t) [] (All-cons (λ p. t.0.var ≢ p.lit.var)
    (leaf_output u) [] ne (All-nil (λ p. t.0.var ≢ p.lit.var)))
    (All-nil (λ o. All (λ p. o.lit.var ≢ p.lit.var) (leaf_output u ∷ [])))

-- ---- all nodes

module _ (terms : Terms) (nodes : List Node) (are : AreNodesOf terms nodes) where
  abbrev made : List (List SumOutput)
  made = map (λ (n : Node). first_outputs n.terms) nodes

  made_at : (i : ℕ) (n : Node) (os : List SumOutput) → i < length nodes →
      get_or made i os ≡ first_outputs (get_or nodes i n).terms
  made_at i n os short = get_or-map (λ (m : Node). first_outputs m.terms) nodes i n os short

  weights_at : (i : ℕ) (n : Node) → i < length nodes → AreWeights (get_or nodes i n).terms
  weights_at i n short = (are.rooted.tree i n short).weights

  abbrev terms_at : ℕ → Terms
  terms_at i = (get_or nodes i any_node).terms

  apart_by : (i j : ℕ) → i < length nodes → j < length nodes → i ≢ j →
      length (terms_at i) ≡ 1 → length (terms_at j) ≡ 1 →
      All (λ s. All (λ t. s.0.var ≢ t.0.var) (terms_at j)) (terms_at i)
  apart_by i j short short' ne one other = ⊎_elim
      (λ (same : i ≡ j). absurd (ne same))
      (λ (order : (i < j) ⊎ (j < i)). ⊎_elim
      (λ (before : i < j). are.leaves_apart i j before short' any_node one other)
      (λ (after : j < i). λ h d within l e inside same.
      are.leaves_apart j i after short any_node other one l e inside h d within (sym same))
      order)
      (cases_order i j)

  module _ (i : ℕ) (n m : Node) (short : i < length nodes) (inner : IsInner nodes i (get_or nodes i n)) where
    abbrev lefts : Terms
    lefts = (get_or nodes (get_or nodes i n).first m).terms

    abbrev rights : Terms
    rights = (get_or nodes (get_or nodes i n).second m).terms

    both : AreWeights (lefts ++ rights)
    both = subst (λ (ts : Terms). AreWeights ts) (terms_divide nodes are.rooted.tree i n m short inner)
        (weights_at i n short)

    across : (g h : ℕ) (d : Literal × ℕ) (e : Literal × ℕ) → g < length lefts → h < length rights →
        (get_or lefts g d).0.var ≢ (get_or rights h e).0.var
    across g h d e within inside same =
        let there = ap (λ (t : Literal × ℕ). t.0.var) (get_or_default rights h e d inside) in
        apart_across lefts rights both g h d within inside (same ∙ there)

    firsts_outside : (os : List SumOutput) → AreOutside (get_or made (get_or nodes i n).first os) rights
    firsts_outside os = subst (λ (ps : List SumOutput). AreOutside ps rights)
        (sym (made_at (get_or nodes i n).first m os (let b = inner.first_before in omega arith)))
        (first_outside lefts rights (λ g d within h e inside. across g h d e within inside))

    seconds_outside : (os : List SumOutput) → AreOutside (get_or made (get_or nodes i n).second os) lefts
    seconds_outside os = subst (λ (ps : List SumOutput). AreOutside ps lefts)
        (sym (made_at (get_or nodes i n).second m os (let b = inner.second_before in omega arith)))
        (first_outside rights lefts (λ h e inside g d within same. across g h d e within inside (sym same)))

  module _ (a : Snapshot) (has : HasVariables a terms) where
    variables_at : (s : StateValue) → IsReached a s → (i : ℕ) (n : Node) → i < length nodes →
        All (λ t. IsVariable s.vars t.0.var) (get_or nodes i n).terms
    variables_at s reached i n short k d within =
        All-contains (λ t. IsVariable s.vars t.0.var) terms (get_or (get_or nodes i n).terms k d)
        (has s reached) (are.among i n short k d within)

    new_made : AreMadeNow a nodes made
    new_made s reached = record {
      size = length-map nodes (λ (n : Node). first_outputs n.terms);
      variables = variables_at s reached;
      outputs = λ i n os short. subst (λ (ps : List SumOutput). AreOutputsAt a s (get_or nodes i n).terms ps)
          (sym (made_at i n os short)) (first_are a s (get_or nodes i n).terms (weights_at i n short)
          (variables_at s reached i n short));
      defined = λ i n os short long.
          let terms = (get_or nodes i n).terms in
          let none : get_or made i os ≡ [] = made_at i n os short ∙ first_none terms long in
          subst (λ (ps : List SumOutput). All (IsDefined a s terms) ps) (sym none)
          (All-nil (IsDefined a s terms));
      gapless = λ i n os below.
          let terms = (get_or nodes i n).terms in
          subst (λ (ps : List SumOutput). AreAllBetween terms 0 (last_sum ps) ps) (sym (made_at i n os (omega arith)))
          (first_gapless terms (weights_at i n (omega arith)));
      leaves = λ i n os k short one. subst (λ (ps : List SumOutput). IsCompleteTo (get_or nodes i n).terms ps k)
          (sym (made_at i n os short)) (first_complete (get_or nodes i n).terms (weights_at i n short) one k);
      apart = λ i j os ps short short' ne. subst (λ (qs : List SumOutput). AreApartFrom qs (get_or made j ps))
          (sym (made_at i any_node os short))
          (subst (λ (qs : List SumOutput). AreApartFrom (first_outputs (get_or nodes i any_node).terms) qs)
          (sym (made_at j any_node ps short'))
          (first_apart (get_or nodes i any_node).terms (get_or nodes j any_node).terms (apart_by i j short short' ne)));
      first_outside = λ i n m os short inner. firsts_outside i n m short inner os;
      second_outside = λ i n m os short inner. seconds_outside i n m short inner os;
    }

    -- only a root of one term has an output, and then there is no node below it
    new_asked : (o : SumOutput) (d : List SumOutput) → Contains (get_or made (length nodes - 1) d) o →
        AreCompleteTo nodes made (length nodes - 1) o.from
    new_asked o d has' i n os less =
        let last : length nodes - 1 < length nodes = omega arith in
        let here = subst (λ (ps : List SumOutput). Contains ps o) (made_at (length nodes - 1) n d last) has' in
        let one = first_some (get_or nodes (length nodes - 1) n).terms o here in
        let single = alone nodes are.rooted (ap length (root_is nodes n (omega arith)) ∙ one) (omega arith) in
        absurd (omega arith)

    pub new_fits : Fits a (totalizer_of nodes made)
    new_fits = record { rooted = are.rooted; made = new_made; asked = new_asked }
