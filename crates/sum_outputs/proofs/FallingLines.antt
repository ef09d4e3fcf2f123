-- Outputs that are made in falling order, one after the other.
use Rattle.std.proofs.Common.{◌≡◌, ◌≢◌, ◌⊎◌, inl, inr, ℕ, ◌-◌, ◌<◌, ◌≤◌, List, [], ◌∷◌, ◌++◌, get_or, length, drop, refl, sym, subst, ◌∙◌, ⊎_elim, arith}
use Rattle.std.specs.List.{All, Contains}
use Rattle.std.proofs.lemmas.Bool.{cases_order}
use Rattle.std.proofs.lemmas.List.{length-drop}
use Rattle.std.proofs.lemmas.List.Elements.{All-nil, All-cons, All-append, All-drop, Contains-append_left, Contains-append_right}
use Rattle.std.proofs.lemmas.List.Quantifiers.{all_pairs_push}
use Rattle.scut_base.proofs.Lists.{Contains-head}
use Rattle.pb_lin.specs.Constraint.{total}
use Rattle.cutting_planes.proofs.Terms.{Terms}
use Rattle.proof_laws.specs.State.{StateValue}
use Rattle.proof_rules.specs.Recording.{Snapshot}
use Rattle.sum_outputs.specs.Totals.{AreWeights, IsAttainable, IsLeastSum, IsUpToLeast}
use Rattle.sum_outputs.specs.Adding.{IsReady, Continues}
use Rattle.sum_outputs.specs.Outputs.{IsDefined}
use Rattle.sum_outputs.specs.Joining.{IsAboveAll, IsOutputAt, AreOutputsAt, IsCompleteTo, IsInnerAt, IsNewOutput}
use Rattle.sum_outputs.specs.Sums.{IsLeastOf, IsRun, IsRunTo}
use Rattle.sum_outputs.specs.Falling.{AreFalling, AreFallingTo, AreAllBetween}
use Rattle.sum_outputs.specs.declared.sum_output.SumOutput.{SumOutput}
use Rattle.sum_outputs.specs.declared.inner.Inner.{Inner}
use Rattle.sum_outputs.proofs.OutputsLater.{defined_then, now_later}
use Rattle.sum_outputs.proofs.JoinLines.{output_then}
use Rattle.sum_outputs.proofs.SumLists.{least_is}
use Rattle.sum_outputs.proofs.Runs.{IsLastOf, run_pop}

-- outputs are complete to a number below
complete_less : (terms : Terms) (os : List SumOutput) (k j : ℕ) → j ≤ k → IsCompleteTo terms os k → IsCompleteTo terms os j
complete_less terms os k j le complete m can some = ⊎_elim
    (λ (exact : (o : SumOutput) × Contains os o × (o.sum ≡ m)). inl exact)
    (λ (over : (o : SumOutput) × Contains os o × (k ≤ o.sum) × (o.sum ≤ m)). inr (over.0, over.1, (let large = over.2 in omega arith), over.3))
    (complete m can some)

-- ---- a run

-- some sums of a run are left
pub record IsHalfWay (a b : Snapshot) (node : Inner) (last k : ℕ) (sums : List (ℕ × ℕ)) (os : List SumOutput) : Type 0 where
  pub middle : ℕ
  pub high : ℕ
  pub run : IsRun node k last sums middle
  pub are : AreFalling a b node.terms.now middle os
  pub needed : All (λ o. IsUpToLeast node.terms.now k o.sum) os
  pub all : AreAllBetween node.terms.now middle high os
  pub within : All (λ o. o.sum ≤ high) os
  pub below : middle ≤ high
  pub top : (high ≡ middle) ⊎ ((o : SumOutput) × Contains os o × (o.sum ≡ high))
  pub enough : (k ≤ high) ⊎ (total node.terms.now ≤ high)

-- nothing is made yet
pub halfway_starts : (a : Snapshot) (node : Inner) (last k : ℕ) (sums : List (ℕ × ℕ)) → IsRunTo node last k sums → IsHalfWay a a node last k sums []
halfway_starts a node last k sums run = record {
  middle = run.0;
  high = run.0;
  run = run.1;
  are = record {
    outputs = λ t reached. All-nil (IsOutputAt a t node.terms.now);
    defined = λ t reached. All-nil (IsDefined a t node.terms.now);
    falling = λ i j d less short. absurd (omega arith);
    above = All-nil (λ o. run.0 < o.sum);
    fresh = λ s reached. All-nil (λ o. s.vars < o.lit.var);
    apart = λ i j d less short. absurd (omega arith);
  };
  needed = All-nil (λ o. IsUpToLeast node.terms.now k o.sum);
  all = λ m can low high. absurd (omega arith);
  within = All-nil (λ o. o.sum ≤ run.0);
  below = omega arith;
  top = inl refl;
  enough = run.3;
}

-- the least sum of the children's outputs is that of the node
pub least_of_node : (a : Snapshot) → IsReady a → (node : Inner) (j k r : ℕ) → IsInnerAt a node k → j ≤ k → IsLeastOf node.first.outputs.now node.second.outputs.now j (total node.terms.now) r → IsLeastSum node.terms.now j r
least_of_node a ready node j k r inner le least =
    let first = node.first.terms.now in
    let second = node.second.terms.now in
    let firsts = node.first.outputs.now in
    let seconds = node.second.outputs.now in
    let are = inner.children ready.state ready.reached in
    subst (λ (ts : Terms). IsLeastSum ts j r) (sym node.joined)
    (least_is first second firsts seconds are.weights (λ i d short. (are.of_first.each i d short).attainable) (λ i d short. (are.of_second.each i d short).attainable) j
    (complete_less first firsts k j le inner.first_complete) (complete_less second seconds k j le inner.second_complete) r
    (subst (λ (ts : Terms). IsLeastOf firsts seconds j (total ts) r) node.joined least))

-- what may be made up to a number may be made up to one below
pub inner_less : (a : Snapshot) (node : Inner) (k j : ℕ) → j ≤ k → IsInnerAt a node k → IsInnerAt a node j
inner_less a node k j le inner = record {
  children = inner.children;
  first_complete = complete_less node.first.terms.now node.first.outputs.now k j le inner.first_complete;
  second_complete = complete_less node.second.terms.now node.second.outputs.now k j le inner.second_complete;
}

module _ (a b c : Snapshot) (ready : IsReady a) (ready_b : IsReady b) (before : Continues a b) (on : Continues b c) (node : Inner) (last k : ℕ) (sums : List (ℕ × ℕ)) (s : ℕ × ℕ) (os : List SumOutput) (o : SumOutput) (half : IsHalfWay a b node last k (sums ++ s ∷ []) os) (new : IsNewOutput b c node.terms.now o) (sum : o.sum ≡ s.1) (least : IsLeastSum node.terms.now s.0 s.1) where
  abbrev terms : Terms
  terms = node.terms.now

  popped : IsLastOf node k last sums s half.middle
  popped = run_pop node k last sums half.middle s half.run

  old_variables : All (λ p. p.lit.var < o.lit.var) os
  old_variables i d short =
      let is = (half.are.outputs ready_b.state ready_b.reached i d short).literal.variable in
      let fresh = new.fresh ready_b.state ready_b.reached in
      omega arith

  falling_more : AreFalling a c terms popped.middle (os ++ o ∷ [])
  falling_more =
      let reaches = least.reaches in
      let from = popped.from in
      let is = popped.is in
      record {
        outputs = λ t reached. All-append (IsOutputAt c t terms) os (o ∷ [])
            (now_later b c (λ d u. All (IsOutputAt d u terms) os) ready_b on (λ u has all i d short. output_then b c on u has terms (get_or os i d) (all i d short)) half.are.outputs t reached)
            (All-cons (IsOutputAt c t terms) o [] (new.is t reached) (All-nil (IsOutputAt c t terms)));
        defined = λ t reached. All-append (IsDefined c t terms) os (o ∷ [])
            (now_later b c (λ d u. All (IsDefined d u terms) os) ready_b on (λ u has all i d short. defined_then b c on u has terms (get_or os i d) (all i d short)) half.are.defined t reached)
            (All-cons (IsDefined c t terms) o [] (new.defined t reached) (All-nil (IsDefined c t terms)));
        falling = all_pairs_push (λ p q. q.sum < p.sum) os o half.are.falling (λ i d short. let w = half.are.above i d short in omega arith);
        above = All-append (λ p. popped.middle < p.sum) os (o ∷ []) (λ i d short. let w = half.are.above i d short in omega arith) (All-cons (λ p. popped.middle < p.sum) o [] (omega arith) (All-nil (λ p. popped.middle < p.sum)));
        fresh = λ u reached. All-append (λ p. u.vars < p.lit.var) os (o ∷ []) (half.are.fresh u reached)
            (All-cons (λ p. u.vars < p.lit.var) o [] (let has = before.states u reached in let more = has.later.vars in let f = new.fresh has.state has.reached in omega arith) (All-nil (λ p. u.vars < p.lit.var)));
        apart = all_pairs_push (λ p q. p.lit.var ≢ q.lit.var) os o half.are.apart (λ i d short e. let w = old_variables i d short in omega arith);
      }

  -- the number that a run asks for is at most k, so the least sum of at least that is none too many
  new_needed : IsUpToLeast terms k o.sum
  new_needed =
      let from = popped.from in
      let most = popped.most in
      let reaches = least.reaches in
      record {
        attainable = subst (λ (n : ℕ). IsAttainable terms n) (sym sum) least.attainable;
        some = omega arith;
        least = λ m can high. let low = least.least m can (omega arith) in omega arith;
      }

  all_more : AreAllBetween terms popped.middle half.high (os ++ o ∷ [])
  all_more m can low high =
      let from = popped.from in
      let is = popped.is in
      let most = least.least m can (omega arith) in
      ⊎_elim
      (λ (same : m ≡ o.sum). (o, Contains-append_right os (o ∷ []) o (Contains-head o []), sym same))
      (λ (other : (m < o.sum) ⊎ (o.sum < m)). ⊎_elim
      (λ (less : m < o.sum). absurd (omega arith))
      (λ (more : o.sum < m). let found = half.all m can (omega arith) high in (found.0, Contains-append_left os (o ∷ []) found.0 found.1, found.2))
      other)
      (cases_order m o.sum)

  pub halfway_more : IsHalfWay a c node last k sums (os ++ o ∷ [])
  halfway_more =
      let from = popped.from in
      let is = popped.is in
      let reaches = least.reaches in
      let below = half.below in
      record {
        middle = popped.middle;
        high = half.high;
        run = popped.run;
        are = falling_more;
        needed = All-append (λ p. IsUpToLeast terms k p.sum) os (o ∷ []) half.needed (All-cons (λ p. IsUpToLeast terms k p.sum) o [] new_needed (All-nil (λ p. IsUpToLeast terms k p.sum)));
        all = all_more;
        within = All-append (λ p. p.sum ≤ half.high) os (o ∷ []) half.within (All-cons (λ p. p.sum ≤ half.high) o [] (omega arith) (All-nil (λ p. p.sum ≤ half.high)));
        below = omega arith;
        top = ⊎_elim
            (λ (none : half.high ≡ half.middle). inr (o, Contains-append_right os (o ∷ []) o (Contains-head o []), sum ∙ sym is ∙ sym none))
            (λ (found : (p : SumOutput) × Contains os p × (p.sum ≡ half.high)). inr (found.0, Contains-append_left os (o ∷ []) found.0 found.1, found.2))
            half.top;
        enough = half.enough;
      }

-- no sum is left
pub halfway_ends : (a b : Snapshot) (node : Inner) (last k : ℕ) (os : List SumOutput) → IsHalfWay a b node last k [] os → AreFallingTo a b node.terms.now last k os
halfway_ends a b node last k os half =
    let end : half.middle ≡ last = half.run in
    record {
      high = half.high;
      are = subst (λ (n : ℕ). AreFalling a b node.terms.now n os) end half.are;
      needed = half.needed;
      all = subst (λ (n : ℕ). AreAllBetween node.terms.now n half.high os) end half.all;
      within = half.within;
      top = subst (λ (n : ℕ). (half.high ≡ n) ⊎ ((o : SumOutput) × Contains os o × (o.sum ≡ half.high))) end half.top;
      enough = half.enough;
    }

-- the last of outputs alone
pub last_outputs : (b : Snapshot) (terms : Terms) (os : List SumOutput) (t : StateValue) → AreWeights terms → All (IsOutputAt b t terms) os → AreOutputsAt b t terms (drop (length os - 1) os)
last_outputs b terms os t weights all =
    let each = All-drop (IsOutputAt b t terms) (length os - 1) os all in
    let few = length-drop (length os - 1) os in
    record {
      each = each;
      rising = record {
        rising = λ i j d less short. absurd (omega arith);
        small = λ i d short. let most = (each i d short).literal.most in let w = weights.small in omega arith;
      };
    }

-- the sum of the first output, or a number above all sums where there is none
pub above_first : (terms : Terms) (os : List SumOutput) (number below : ℕ) → total terms < number → (os ≡ [] → below ≡ number) → ((d : SumOutput) → 0 < length os → (get_or os 0 d).sum ≡ below) → IsAboveAll terms os below
above_first terms [] number below above none some = inl (let is = none refl in omega arith)
above_first terms (o ∷ os) number below above none some = inr (omega arith, λ d. some d (omega arith))
