-- The root, as it is handed to a call.
use Rattle.std.proofs.Common.{◌≡◌, ℕ, ◌-◌, ◌<◌, Some, List, [], length, get_or, sym, subst, ◌∙◌, arith}
use Rattle.std.specs.Prelude.{slice_get}
use Rattle.std.proofs.lemmas.Option.{get_or_from_slice_get}
use Rattle.cutting_planes.proofs.Terms.{Terms}
use Rattle.proof_rules.specs.Recording.{Snapshot}
use Rattle.sum_outputs.specs.Joining.{AreDefinedNow, IsInnerAt}
use Rattle.sum_outputs.specs.Falling.{IsAsked}
use Rattle.sum_outputs.specs.Tree.{IsInner, IsInnerOf}
use Rattle.sum_outputs.specs.MadeOutputs.{AreMadeNow, AreCompleteTo}
use Rattle.sum_outputs.specs.declared.inner.Inner.{Inner}
use Rattle.sum_outputs.specs.declared.node.Node.{Node}
use Rattle.sum_outputs.specs.declared.sum_output.SumOutput.{SumOutput}
use Rattle.sum_outputs.proofs.MadeLists.{any_node, inner_of, inner_of_made, own_outputs}
use Rattle.totalizer.specs.Totalizing.{root_terms, IsRooted}
use Rattle.totalizer.proofs.Roots.{root_is, some_nodes}

module _ (nodes : List Node) (rooted : IsRooted nodes) (long : 1 < length (root_terms nodes)) where
  abbrev place : ℕ
  place = length nodes - 1

  pub in_nodes : place < length nodes
  in_nodes = let some = some_nodes nodes (omega arith) in omega arith

  pub long_root : (d : Node) → 1 < length (get_or nodes place d).terms
  long_root d = subst (λ (ts : Terms). 1 < length ts) (root_is nodes d (some_nodes nodes (omega arith))) long

  inner : IsInner nodes place (get_or nodes place any_node)
  inner = inner_of nodes rooted.tree place any_node in_nodes (long_root any_node)

  module _ (a : Snapshot) (made : List (List SumOutput)) (are : AreMadeNow a nodes made) (node : Inner)
      (is : (d : Node) → IsInnerOf nodes made (get_or nodes place d) node) where
    pub root_terms_are : node.terms.now ≡ root_terms nodes
    root_terms_are = (is any_node).terms ∙ sym (root_is nodes any_node (some_nodes nodes (omega arith)))

    pub root_inner : (k : ℕ) → AreCompleteTo nodes made place k → IsInnerAt a node k
    root_inner k complete =
        inner_of_made nodes rooted.tree made place any_node in_nodes inner node (is any_node) a k are complete

    -- its outputs
    module _ (os found : List SumOutput) (there : slice_get made place ≡ Some found) (outputs : os ≡ found) where
      outputs_at : (e : List SumOutput) → os ≡ get_or made place e
      outputs_at e = outputs ∙ sym (get_or_from_slice_get made place found e there)

      pub root_outputs : AreDefinedNow a node.terms.now os
      root_outputs =
          subst (λ (ps : List SumOutput). AreDefinedNow a node.terms.now ps) (sym (outputs_at []))
          (own_outputs nodes rooted.tree made place any_node in_nodes inner node (is any_node) a are
          (long_root any_node))

      -- what is answered, of the root's terms and outputs
      pub asked_of : (b : Snapshot) (k : ℕ) (o : SumOutput) (ps : List SumOutput) →
          IsAsked a b node.terms.now os k o ps →
          (e : List SumOutput) → IsAsked a b (root_terms nodes) (get_or made place e) k o ps
      asked_of b k o ps asked e =
          subst (λ (qs : List SumOutput). IsAsked a b (root_terms nodes) qs k o ps) (outputs_at e)
          (subst (λ (ts : Terms). IsAsked a b ts os k o ps) root_terms_are asked)
