-- What is demanded is there.
use Rattle.std.proofs.Common.{◌≡◌, ⊎_elim, ℕ, ◌+◌, ◌-◌, ◌<◌, ◌≤◌, List, [], length, get_or, refl, ap, sym, subst, ◌∙◌, arith}
use Rattle.std.specs.List.{Contains}
use Rattle.std.proofs.lemmas.List.{get_or_default}
use Rattle.std.proofs.lemmas.List.Elements.{All-contains}
use Rattle.scut_base.specs.Literal.{Literal}
use Rattle.cutting_planes.proofs.Terms.{Terms}
use Rattle.proof_laws.specs.State.{StateValue}
use Rattle.proof_rules.specs.Recording.{Snapshot}
use Rattle.sum_outputs.specs.Totals.{IsAttainable, IsLeastSum, IsUpToLeast}
use Rattle.sum_outputs.specs.Joining.{IsOutputAt}
use Rattle.sum_outputs.specs.MadeOutputs.{AreMade, AreCompleteTo}
use Rattle.sum_outputs.specs.declared.node.Node.{Node}
use Rattle.sum_outputs.specs.declared.sum_output.SumOutput.{SumOutput}
use Rattle.totalizer.specs.Totalizing.{TotalizerValue, root_terms, terms_of}
use Rattle.totalizer.specs.Demanding.{IsAnswered, IsDemanded, IsThere}
use Rattle.sum_outputs.proofs.AskedLists.{least_once}
use Rattle.sum_outputs.proofs.MadeLists.{any_node}
use Rattle.totalizer.proofs.Roots.{root_is}

pub is_there : (made : List (List SumOutput)) (i : ℕ) (o : SumOutput) → i < length made →
    Contains (get_or made i []) o → IsThere made i o.sum o.lit
is_there made i o short has d =
    (o, subst (λ (os : List SumOutput). Contains os o) (get_or_default made i [] d short) has, refl, refl)

-- the literal of the root's output at the least sum of at least k answers
pub answered_by : (t : TotalizerValue) (k : ℕ) (o : SumOutput) → length t.nodes - 1 < length t.made →
    Contains (get_or t.made (length t.nodes - 1) []) o → IsLeastSum (terms_of t) k o.sum → IsAnswered t k o.lit
answered_by t k o short has least long n is =
    subst (λ (m : ℕ). IsThere t.made (length t.nodes - 1) m o.lit) (least_once (terms_of t) k o.sum n least is)
    (is_there t.made (length t.nodes - 1) o short has)

module _ (a : Snapshot) (s : StateValue) (nodes : List Node) (made : List (List SumOutput))
    (are : AreMade a s nodes made) where
  -- the terms of a node
  abbrev at : ℕ → Terms
  at i = (get_or nodes i any_node).terms

  pub attained : (i : ℕ) (o : SumOutput) → i < length nodes → Contains (get_or made i []) o → IsAttainable (at i) o.sum
  attained i o short has =
      let all = (are.outputs i any_node [] short).each in
      (All-contains (IsOutputAt a s (at i)) (get_or made i []) o all has).attainable

  abbrev HasAt : ℕ → ℕ → Type 0
  HasAt i n = (l : Literal) × IsThere made i n l

  has_at : (i n : ℕ) (o : SumOutput) → i < length nodes → Contains (get_or made i []) o → o.sum ≡ n → HasAt i n
  has_at i n o short has sum =
      let size = are.size in
      subst (λ (m : ℕ). HasAt i m) sum (o.lit, is_there made i o (omega arith) has)

  -- Where the nodes below the root are complete, and the root has the output at the least sum, all is there.
  module _ (k : ℕ) (complete : AreCompleteTo nodes made (length nodes - 1) k) (o : SumOutput)
      (has : Contains (get_or made (length nodes - 1) []) o) (least : IsLeastSum (root_terms nodes) k o.sum) where
    there_below : (i n : ℕ) → i + 1 < length nodes → IsUpToLeast (at i) k n → HasAt i n
    there_below i n below upto = ⊎_elim
        (λ (same : (q : SumOutput) × Contains (get_or made i []) q × (q.sum ≡ n)).
        has_at i n same.0 (omega arith) same.1 same.2)
        (λ (less : (q : SumOutput) × Contains (get_or made i []) q × (k ≤ q.sum) × (q.sum ≤ n)).
        let first = upto.least less.0.sum (attained i less.0 (omega arith) less.1) less.2 in
        let most = less.3 in
        has_at i n less.0 (omega arith) less.1 (omega arith))
        (complete i any_node [] (omega arith) n upto.attainable upto.some)

    there_at_root : (i n : ℕ) → i + 1 ≡ length nodes → IsLeastSum (at i) k n → HasAt i n
    there_at_root i n last is =
        let place : length nodes - 1 ≡ i = omega arith in
        let terms : root_terms nodes ≡ at i = root_is nodes any_node (omega arith) ∙ ap at place in
        let own = subst (λ (ts : Terms). IsLeastSum ts k n) (sym terms) is in
        let here = subst (λ (j : ℕ). Contains (get_or made j []) o) place has in
        has_at i n o (omega arith) here (least_once (root_terms nodes) k o.sum n least own)

    pub all_there : (i n : ℕ) → i < length nodes → IsDemanded nodes k i n → (l : Literal) × IsThere made i n l
    all_there i n short demanded = ⊎_elim
        (λ (root : (i + 1 ≡ length nodes) × IsLeastSum (at i) k n). there_at_root i n root.0 root.1)
        (λ (inner : (i + 1 < length nodes) × IsUpToLeast (at i) k n). there_below i n inner.0 inner.1)
        (demanded any_node)
