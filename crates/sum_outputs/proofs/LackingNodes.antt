-- Nodes that have all outputs up to a number, and those that haven't.
use Rattle.std.proofs.Common.{◌≡◌, ◌⊎◌, inl, inr, ℕ, ◌+◌, ◌<◌, ◌≤◌, List, [], get_or, length, ap, sym, subst, ◌∙◌, ⊎_elim, arith}
use Rattle.std.specs.Prelude.{min}
use Rattle.std.specs.List.{Contains}
use Rattle.std.proofs.Math.ListN.{set}
use Rattle.std.proofs.lemmas.Bool.{cases_lt, cases_order}
use Rattle.std.proofs.lemmas.List.{get_or_default}
use Rattle.std.proofs.lemmas.List.Elements.{All-contains}
use Rattle.std.proofs.lemmas.List.Sums.{sum_by-set}
use Rattle.pb_lin.specs.Constraint.{total}
use Rattle.cutting_planes.proofs.Terms.{Terms}
use Rattle.proof_laws.specs.State.{StateValue}
use Rattle.proof_rules.specs.Recording.{Snapshot}
use Rattle.sum_outputs.specs.Totals.{AreWeights}
use Rattle.sum_outputs.specs.Adding.{Continues}
use Rattle.sum_outputs.specs.Outputs.{AreRising}
use Rattle.sum_outputs.specs.Sums.{last_sum}
use Rattle.sum_outputs.specs.Falling.{AreAllBetween, AreExtended}
use Rattle.sum_outputs.specs.Joining.{IsCompleteTo}
use Rattle.sum_outputs.specs.Tree.{IsTree}
use Rattle.sum_outputs.specs.MadeOutputs.{AreMade, AreCompleteTo, ExtendsTo, LacksOutputs, MayExtend}
use Rattle.sum_outputs.specs.declared.node.Node.{Node}
use Rattle.sum_outputs.specs.declared.sum_output.SumOutput.{SumOutput}
use Rattle.sum_outputs.proofs.Glue.{value-le-total}
use Rattle.sum_outputs.proofs.Attaining.{attain_total}
use Rattle.sum_outputs.proofs.ExtendedLists.{last_is, last_most}
use Rattle.sum_outputs.proofs.MadeLists.{any_node, complete_more, long_node, made_extended}
use Rattle.sum_outputs.proofs.GrownOutputs.{grown_node}

-- ---- of one node

-- outputs without a gap that reach a number, or the greatest sum, are all up to there
complete_last : (terms : Terms) (os : List SumOutput) (k : ℕ) → 0 < k → AreAllBetween terms 0 (last_sum os) os → min k (total terms) ≤ last_sum os → IsCompleteTo terms os k
complete_last terms os k some gapless enough m can more = ⊎_elim
    (λ (above : last_sum os < m).
    let most = value-le-total can.0 terms in
    let is = can.1 in
    ⊎_elim
    (λ (none : last_sum os ≡ 0). absurd (omega arith))
    (λ (last : (o : SumOutput) × Contains os o × (o.sum ≡ last_sum os)). let e = last.2 in inr (last.0, last.1, omega arith, omega arith))
    (last_is os))
    (λ (within : m ≤ last_sum os). inl (gapless m can more within))
    (cases_lt (last_sum os) m)

-- outputs that reach neither aren't all
not_complete : (terms : Terms) (os : List SumOutput) (k : ℕ) → AreWeights terms → AreRising os → last_sum os < min k (total terms) → IsCompleteTo terms os k → ⊥
not_complete terms os k weights rises low complete =
    let Low : SumOutput → Type 0 = λ o. o.sum ≤ last_sum os in
    ⊎_elim
    (λ (same : (o : SumOutput) × Contains os o × (o.sum ≡ total terms)). let most = All-contains Low os same.0 (last_most os rises) same.1 in let e = same.2 in omega arith)
    (λ (over : (o : SumOutput) × Contains os o × (k ≤ o.sum) × (o.sum ≤ total terms)). let most = All-contains Low os over.0 (last_most os rises) over.1 in let reach = over.2 in omega arith)
    (complete (total terms) (attain_total terms weights) (omega arith))

-- ---- among the nodes

module _ (a : Snapshot) (s : StateValue) (nodes : List Node) (tree : IsTree nodes) (made : List (List SumOutput)) (i k : ℕ) (are : AreMade a s nodes made) (below : i + 1 < length nodes) (some : 0 < k) where
  short : i < length nodes
  short = omega arith

  total_of : (n : Node) → (get_or nodes i n).total ≡ total (get_or nodes i n).terms
  total_of n = (tree i n short).all

  -- a node that has all is complete, as those before it are
  pub complete_node : (n : Node) (xs : List SumOutput) → (length (get_or nodes i n).terms ≡ 1) ⊎ (min k (get_or nodes i n).total ≤ last_sum (get_or made i xs)) →
      AreCompleteTo nodes made i k → AreCompleteTo nodes made (i + 1) k
  complete_node n xs has before j m os less = ⊎_elim
      (λ (e : j ≡ i). subst (λ (f : ℕ). IsCompleteTo (get_or nodes f m).terms (get_or made f os) k) (sym e) (here m os))
      (λ (o : (j < i) ⊎ (i < j)). ⊎_elim (λ (x : j < i). before j m os x) (λ (x : i < j). absurd (omega arith)) o)
      (cases_order j i)
    where
      here : (m : Node) (os : List SumOutput) → IsCompleteTo (get_or nodes i m).terms (get_or made i os) k
      here m os =
          let node : get_or nodes i n ≡ get_or nodes i m = get_or_default nodes i n m short in
          ⊎_elim
          (λ (one : length (get_or nodes i n).terms ≡ 1). are.leaves i m os k short (ap (λ (nd : Node). length nd.terms) (sym node) ∙ one))
          (λ (enough : min k (get_or nodes i n).total ≤ last_sum (get_or made i xs)).
          let list : last_sum (get_or made i xs) ≡ last_sum (get_or made i os) = ap last_sum (get_or_default made i xs os (let e = are.size in omega arith)) in
          let whole = ap (λ (nd : Node). nd.total) node in
          let all = total_of m in
          complete_last (get_or nodes i m).terms (get_or made i os) k some (are.gapless i m os below) (omega arith))
          has

  -- one that hasn't isn't
  pub lacking_node : (n : Node) (xs : List SumOutput) → (length (get_or nodes i n).terms ≡ 1 → ⊥) → last_sum (get_or made i xs) < min k (get_or nodes i n).total → LacksOutputs nodes made i k
  lacking_node n xs other low = record {
    long = long_node nodes tree i n short other;
    low = λ m os.
        let list : last_sum (get_or made i xs) ≡ last_sum (get_or made i os) = ap last_sum (get_or_default made i xs os (let e = are.size in omega arith)) in
        let whole = ap (λ (nd : Node). nd.total) (get_or_default nodes i n m short) in
        let all = total_of m in
        omega arith;
  }

  pub not_again : LacksOutputs nodes made i k → (n : Node) (os : List SumOutput) → AreCompleteTo nodes made (i + 1) k → ⊥
  not_again lacks n os complete = not_complete (get_or nodes i n).terms (get_or made i os) k (tree i n short).weights (are.outputs i n os short).rising (lacks.low n os) (complete i n os (omega arith))

-- ---- one node gets more

-- a node that lacked outputs has them now
pub extends_inner : (a b : Snapshot) (nodes : List Node) (made : List (List SumOutput)) (at k : ℕ) (all : List SumOutput) → MayExtend a nodes made at k → LacksOutputs nodes made at k → Continues a b →
    AreExtended a b (get_or nodes at any_node).terms (get_or made at []) k all → ExtendsTo a b nodes made (set made at all) (at + 1) k
extends_inner a b nodes made at k all may lacks on ext =
    let before = may.made may.ready.state may.ready.reached in
    let below = may.below in
    let size = before.size in
    let inside : at < length nodes = omega arith in
    record {
      made = λ t reached. made_extended a b may.ready on nodes made at k any_node all [] inside may.made ext (lacks.long any_node) t reached;
      complete = complete_more a b may.ready on nodes made at k any_node all [] inside may.made ext may.complete;
      grown = grown_node a b nodes made at k any_node all [] size below lacks.long ext;
      defined =
          let sum = sum_by-set length made at all [] (omega arith) in
          let more = ext.counted in
          omega arith;
      again = λ was. absurd (not_again a may.ready.state nodes may.tree made at k before below may.from_one lacks any_node [] was);
    }
