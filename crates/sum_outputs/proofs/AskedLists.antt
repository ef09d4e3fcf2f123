-- Outputs with one more among them.
use Rattle.std.proofs.Common.{◌≡◌, ◌≢◌, ◌⊎◌, inl, inr, ℕ, ◌+◌, ◌<◌, ◌≤◌, List, [], ◌∷◌, ◌++◌, get_or, length, take, drop, refl, ap, sym, subst, ◌∙◌, ⊎_elim, arith}
use Rattle.std.specs.Prelude.{◌^◌}
use Rattle.std.proofs.Math.ListN.{set}
use Rattle.std.specs.List.{All, AllPairs, Contains}
use Rattle.std.proofs.lemmas.Bool.{cases_order}
use Rattle.std.proofs.lemmas.List.{get_or-drop, get_or-take, get_or_default, get_or-set_same, get_or-set_other, length-append, length-set, length-take, length-drop, take-append-drop}
use Rattle.std.proofs.lemmas.List.Elements.{All-nil, All-cons, All-append, All-contains, All-take, All-drop, Contains-append_cases, Contains-append_left, Contains-append_right, Contains-get_or}
use Rattle.std.proofs.lemmas.List.Quantifiers.{all_pairs_push}
use Rattle.scut_base.proofs.Lists.{Contains-nil, Contains-head, Contains-cons_cases}
use Rattle.pb_lin.specs.Place.{IsPlace}
use Rattle.cutting_planes.proofs.Terms.{Terms}
use Rattle.proof_laws.specs.State.{StateValue}
use Rattle.proof_rules.specs.Recording.{Snapshot}
use Rattle.sum_outputs.specs.Totals.{AreWeights, IsLeastSum}
use Rattle.sum_outputs.specs.Adding.{DefinesMore, IsReached, IsReady, Continues}
use Rattle.sum_outputs.specs.Outputs.{AreRising, CanImplyNow, IsDefined}
use Rattle.sum_outputs.specs.Joining.{IsOutputAt, AreOutputsAt, AreOutputsNow, IsNewOutput}
use Rattle.sum_outputs.specs.declared.sum_output.SumOutput.{SumOutput}
use Rattle.sum_outputs.proofs.OutputsLater.{defined_then, now_later}
use Rattle.sum_outputs.proofs.MakeLines.{outputs_later}
use Rattle.sum_outputs.specs.Falling.{IsAsked, IsFresh, IsKept, asked_from}
use Rattle.sum_outputs.proofs.JoinLines.{tie_can, output_then}
use Rattle.sum_outputs.proofs.ExtendedLists.{pairs_joined}

pub first_outputs : (a : Snapshot) (s : StateValue) (terms : Terms) (os : List SumOutput) → AreOutputsAt a s terms os → AreOutputsAt a s terms (take 1 os)
first_outputs a s terms os are =
    let few = length-take 1 os in
    record {
      each = All-take (IsOutputAt a s terms) 1 os are.each;
      rising = record { rising = λ i j d less short. absurd (omega arith); small = All-take (λ o. o.sum < 2 ^ 63) 1 os are.rising.small };
    }

pub rest_outputs : (a : Snapshot) (s : StateValue) (terms : Terms) (os : List SumOutput) (n : ℕ) → AreOutputsAt a s terms os → AreOutputsAt a s terms (drop n os)
rest_outputs a s terms os n are =
    let fewer = length-drop n os in
    record {
      each = All-drop (IsOutputAt a s terms) n os are.each;
      rising = record {
        rising = λ i j d less short. let rise = are.rising.rising (n + i) (n + j) d (omega arith) (omega arith) in let one = ap (λ (o : SumOutput). o.sum) (get_or-drop n os i d) in let two = ap (λ (o : SumOutput). o.sum) (get_or-drop n os j d) in omega arith;
        small = All-drop (λ o. o.sum < 2 ^ 63) n os are.rising.small;
      };
    }

-- from the place on, where the number is none of the sums
pub above_place : (os : List SumOutput) (n place : ℕ) → IsPlace (λ o. o.sum) os n place → All (λ o. o.sum ≢ n) os → All (λ o. n < o.sum) (drop place os)
above_place os n place is none i d short =
    let fewer = length-drop place os in
    let at = ap (λ (o : SumOutput). o.sum) (get_or-drop place os i d) in
    let most = is.above (place + i) d (omega arith) (omega arith) in
    let other = none (place + i) d (omega arith) in
    ⊎_elim
    (λ (same : (get_or os (place + i) d).sum ≡ n). absurd (other same))
    (λ (ne : ((get_or os (place + i) d).sum < n) ⊎ (n < (get_or os (place + i) d).sum)). ⊎_elim (λ (low : (get_or os (place + i) d).sum < n). absurd (omega arith)) (λ (high : n < (get_or os (place + i) d).sum). omega arith) ne)
    (cases_order (get_or os (place + i) d).sum n)

pub below_place : (os : List SumOutput) (n place : ℕ) → IsPlace (λ o. o.sum) os n place → All (λ o. o.sum < n) (take place os)
below_place os n place is i d short =
    let fewer = length-take place os in
    let at = ap (λ (o : SumOutput). o.sum) (get_or-take place os i d (omega arith)) in
    let low = is.below i d (omega arith) in
    omega arith

-- one sum is the least
pub least_once : (terms : Terms) (k m n : ℕ) → IsLeastSum terms k m → IsLeastSum terms k n → m ≡ n
least_once terms k m n one other =
    let below = one.least n other.attainable other.reaches in
    let above = other.least m one.attainable one.reaches in
    omega arith

module _ (a b : Snapshot) (ready : IsReady a) (on : Continues a b) (terms : Terms) (weights : AreWeights terms) (outputs : List SumOutput) (now : AreOutputsNow a terms outputs) (defined : (s : StateValue) → IsReached a s → All (IsDefined a s terms) outputs) (n place : ℕ) (is : IsPlace (λ o. o.sum) outputs n place) (o : SumOutput) (sum : o.sum ≡ n) (new : IsNewOutput a b terms o) where
  old_variables : All (λ q. q.lit.var ≤ ready.state.vars) outputs
  old_variables i d short = let v = ((now ready.state ready.reached).each i d short).literal.variable in v.1

  defined_later : (t : StateValue) → IsReached b t → All (IsDefined b t terms) outputs
  defined_later = now_later a b (λ c s. All (IsDefined c s terms) outputs) ready on (λ s has all i d short. defined_then a b on s has terms (get_or outputs i d) (all i d short)) defined

  -- the new output may imply the smaller ones
  pub implies_smaller : (m i : ℕ) (d : SumOutput) → i < length (drop m (take place outputs)) → CanImplyNow b (o ∷ []) [] (get_or (drop m (take place outputs)) i d)
  implies_smaller m i d short t reached =
      let each = All-drop (IsOutputAt b t terms) m (take place outputs) (All-take (IsOutputAt b t terms) place outputs (outputs_later a b ready on terms outputs now t reached).each) in
      let def = All-drop (IsDefined b t terms) m (take place outputs) (All-take (IsDefined b t terms) place outputs (defined_later t reached)) in
      let old = All-drop (λ q. q.lit.var ≤ ready.state.vars) m (take place outputs) (All-take (λ q. q.lit.var ≤ ready.state.vars) place outputs old_variables) in
      let low = All-drop (λ q. q.sum < n) m (take place outputs) (below_place outputs n place is) in
      let q = each i d short in
      let v = old i d short in
      let l = low i d short in
      let f = new.fresh ready.state ready.reached in
      tie_can b t terms o (get_or (drop m (take place outputs)) i d) weights (def i d short) q.literal.some q.literal.variable (new.is t reached).literal (omega arith) (λ same. omega arith)

  module _ (d : Snapshot) (ready_b : IsReady b) (later : Continues b d) (absent : All (λ q. q.sum ≢ n) outputs) (k : ℕ) (least : IsLeastSum terms k n) (from : o.from ≡ k) (one : DefinesMore a d 1) where
    abbrev all : List SumOutput
    all = (take place outputs ++ o ∷ []) ++ drop place outputs

    each_d : (t : StateValue) → IsReached d t → All (IsOutputAt d t terms) all
    each_d t reached =
        let old = (outputs_later b d ready_b later terms outputs (outputs_later a b ready on terms outputs now) t reached).each in
        let here = now_later b d (λ c s. IsOutputAt c s terms o) ready_b later (λ s has w. output_then b d later s has terms o w) new.is t reached in
        All-append (IsOutputAt d t terms) (take place outputs ++ o ∷ []) (drop place outputs)
        (All-append (IsOutputAt d t terms) (take place outputs) (o ∷ []) (All-take (IsOutputAt d t terms) place outputs old) (All-cons (IsOutputAt d t terms) o [] here (All-nil (IsOutputAt d t terms))))
        (All-drop (IsOutputAt d t terms) place outputs old)

    defined_d : (t : StateValue) → IsReached d t → All (IsDefined d t terms) all
    defined_d t reached =
        let old = now_later b d (λ c s. All (IsDefined c s terms) outputs) ready_b later (λ s has w i e short. defined_then b d later s has terms (get_or outputs i e) (w i e short)) defined_later t reached in
        let here = now_later b d (λ c s. IsDefined c s terms o) ready_b later (λ s has w. defined_then b d later s has terms o w) new.defined t reached in
        All-append (IsDefined d t terms) (take place outputs ++ o ∷ []) (drop place outputs)
        (All-append (IsDefined d t terms) (take place outputs) (o ∷ []) (All-take (IsDefined d t terms) place outputs old) (All-cons (IsDefined d t terms) o [] here (All-nil (IsDefined d t terms))))
        (All-drop (IsDefined d t terms) place outputs old)

    rising_before : AllPairs (λ p q. p.sum < q.sum) outputs
    rising_before = (now ready.state ready.reached).rising.rising

    taken_rising : AllPairs (λ p q. p.sum < q.sum) (take place outputs)
    taken_rising i j e less short =
        let few = length-take place outputs in
        let one = ap (λ (q : SumOutput). q.sum) (get_or-take place outputs i e (omega arith)) in
        let two = ap (λ (q : SumOutput). q.sum) (get_or-take place outputs j e (omega arith)) in
        let rise = rising_before i j e less (omega arith) in
        omega arith

    dropped_rising : AllPairs (λ p q. p.sum < q.sum) (drop place outputs)
    dropped_rising = (rest_outputs a ready.state terms outputs place (now ready.state ready.reached)).rising.rising

    front_low : All (λ q. q.sum ≤ n) (take place outputs ++ o ∷ [])
    front_low = All-append (λ q. q.sum ≤ n) (take place outputs) (o ∷ []) (λ i e short. let l = below_place outputs n place is i e short in omega arith) (All-cons (λ q. q.sum ≤ n) o [] (omega arith) (All-nil (λ q. q.sum ≤ n)))

    all_rising : AllPairs (λ p q. p.sum < q.sum) all
    all_rising = pairs_joined (λ p q. p.sum < q.sum) (take place outputs ++ o ∷ []) (drop place outputs)
        (all_pairs_push (λ p q. p.sum < q.sum) (take place outputs) o taken_rising (λ i e short. let l = below_place outputs n place is i e short in omega arith))
        dropped_rising
        (λ i j e short short'. let low = front_low i e short in let high = above_place outputs n place is absent j e short' in omega arith)

    -- an output before the place or after it is among all
    among_all : (q : SumOutput) → Contains outputs q → Contains all q
    among_all q there = ⊎_elim
        (λ (left : Contains (take place outputs) q). Contains-append_left (take place outputs ++ o ∷ []) (drop place outputs) q (Contains-append_left (take place outputs) (o ∷ []) q left))
        (λ (right : Contains (drop place outputs) q). Contains-append_right (take place outputs ++ o ∷ []) (drop place outputs) q right)
        (Contains-append_cases (take place outputs) (drop place outputs) q (subst (λ (os : List SumOutput). Contains os q) (sym (take-append-drop place outputs)) there))

    -- and all but the new one were there
    kept_or_new : (q : SumOutput) → Contains all q → IsKept outputs q ⊎ ((q ≡ o) × IsFresh a q)
    kept_or_new q there = ⊎_elim
        (λ (front : Contains (take place outputs ++ o ∷ []) q). ⊎_elim
        (λ (left : Contains (take place outputs) q). inl (q, subst (λ (os : List SumOutput). Contains os q) (take-append-drop place outputs) (Contains-append_left (take place outputs) (drop place outputs) q left), refl, refl))
        (λ (here : Contains (o ∷ []) q). ⊎_elim
        (λ (same : o ≡ q). inr (sym same, λ s reached. let f = new.fresh s reached in let e : o.lit.var ≡ q.lit.var = ap (λ (p : SumOutput). p.lit.var) same in omega arith))
        (λ (never : Contains [] q). absurd (Contains-nil q never))
        (Contains-cons_cases o q [] here))
        (Contains-append_cases (take place outputs) (o ∷ []) q front))
        (λ (right : Contains (drop place outputs) q). inl (q, subst (λ (os : List SumOutput). Contains os q) (take-append-drop place outputs) (Contains-append_right (take place outputs) (drop place outputs) q right), refl, refl))
        (Contains-append_cases (take place outputs ++ o ∷ []) (drop place outputs) q there)

    -- all others were there as they are
    others_before : All (λ q. (q ≡ o) ⊎ Contains outputs q) all
    others_before =
        let own : All (λ q. (q ≡ o) ⊎ Contains outputs q) outputs = λ i e short. inr (Contains-get_or outputs i e short) in
        All-append (λ q. (q ≡ o) ⊎ Contains outputs q) (take place outputs ++ o ∷ []) (drop place outputs)
        (All-append (λ q. (q ≡ o) ⊎ Contains outputs q) (take place outputs) (o ∷ []) (All-take (λ q. (q ≡ o) ⊎ Contains outputs q) place outputs own)
        (All-cons (λ q. (q ≡ o) ⊎ Contains outputs q) o [] (inl refl) (All-nil (λ q. (q ≡ o) ⊎ Contains outputs q))))
        (All-drop (λ q. (q ≡ o) ⊎ Contains outputs q) place outputs own)

    pub is_asked : IsAsked a d terms outputs k o all
    is_asked = record {
      there = Contains-append_left (take place outputs ++ o ∷ []) (drop place outputs) o (Contains-append_right (take place outputs) (o ∷ []) o (Contains-head o []));
      least = subst (λ (m : ℕ). IsLeastSum terms k m) (sym sum) least;
      from = from;
      outputs = λ t reached. record {
        each = each_d t reached;
        rising = record { rising = all_rising; small = λ i e short. let most = (each_d t reached i e short).literal.most in let w = weights.small in omega arith };
      };
      defined = defined_d;
      stays = λ i e short. (get_or outputs i e, among_all (get_or outputs i e) (Contains-get_or outputs i e short), refl, refl);
      kept = λ i e short. kept_or_new (get_or all i e) (Contains-get_or all i e short);
      others = others_before;
      counted =
          let size = length-append (take place outputs ++ o ∷ []) (drop place outputs) in
          let front = length-append (take place outputs) (o ∷ []) in
          let first = length-take place outputs in
          let rest = length-drop place outputs in
          let within = is.bound in
          omega arith;
      again = λ q there least'. absurd (All-contains (λ p. p.sum ≢ n) outputs q absent there (least_once terms k q.sum n least' least));
    }

-- where the output at the place has another sum, none has it
pub absent_at_place : (os : List SumOutput) (n place : ℕ) (x : SumOutput) → AllPairs (λ o q. o.sum < q.sum) os → IsPlace (λ o. o.sum) os n place → place < length os → (get_or os place x).sum ≢ n → All (λ o. o.sum ≢ n) os
absent_at_place os n place x rising is short other i d within e = ⊎_elim
    (λ (same : i ≡ place). other (ap (λ (o : SumOutput). o.sum) (get_or_default os place x d short) ∙ ap (λ (j : ℕ). (get_or os j d).sum) (sym same) ∙ e))
    (λ (ne : (i < place) ⊎ (place < i)). ⊎_elim
    (λ (low : i < place). let l = is.below i d low in omega arith)
    (λ (high : place < i). let l = is.above place d (omega arith) short in let r = rising place i d high within in omega arith) ne)
    (cases_order i place)

-- the same outputs, where one serves smaller numbers too
module _ (a : Snapshot) (terms : Terms) (outputs : List SumOutput) (now : AreOutputsNow a terms outputs) (defined : (s : StateValue) → IsReached a s → All (IsDefined a s terms) outputs) (place k : ℕ) (x : SumOutput) (short : place < length outputs) (least : IsLeastSum terms k (get_or outputs place x).sum) where
  abbrev found : SumOutput
  found = asked_from k (get_or outputs place x)

  abbrev changed : List SumOutput
  changed = set outputs place found

  not_place : (i : ℕ) → (i < place) ⊎ (place < i) → i ≢ place
  not_place i (inl less) e = omega arith
  not_place i (inr more) e = omega arith

  -- what holds of all and of the changed one holds of the changed list
  all_changed : (P : SumOutput → Type 0) → All P outputs → P found → All P changed
  all_changed P all here i d within = ⊎_elim
      (λ (same : i ≡ place). subst (λ (j : ℕ). P (get_or changed j d)) (sym same) (subst P (sym (get_or-set_same outputs place found d short)) here))
      (λ (ne : (i < place) ⊎ (place < i)). subst P (sym (get_or-set_other outputs place i found d (not_place i ne))) (all i d (let l = length-set outputs place found in omega arith)))
      (cases_order i place)

  defined_found : (s : StateValue) → IsDefined a s terms (get_or outputs place x) → IsDefined a s terms found
  defined_found s is = record { sum = is.sum; degree = is.degree; normal = is.normal; order = is.order; same = is.same; whole = is.whole; below = is.below; above = is.above; positive = is.positive; named = is.named; lower = is.lower; upper = is.upper }

  each_changed : (s : StateValue) → IsReached a s → All (IsOutputAt a s terms) changed
  each_changed s reached =
      let all = (now s reached).each in
      let is = all place x short in
      all_changed (IsOutputAt a s terms) all (record {
        literal = record { known = inr (defined_found s (defined s reached place x short)); some = is.literal.some; most = is.literal.most; variable = is.literal.variable };
        attainable = is.attainable;
        gap = λ m can from. least.least m can from;
        follows = is.follows;
      })

  sum_at : (i : ℕ) (d : SumOutput) → i < length outputs → (get_or changed i d).sum ≡ (get_or outputs i d).sum
  sum_at i d within = ⊎_elim
      (λ (same : i ≡ place).
      ap (λ (j : ℕ). (get_or changed j d).sum) same ∙ ap (λ (o : SumOutput). o.sum) (get_or-set_same outputs place found d short)
      ∙ ap (λ (o : SumOutput). o.sum) (get_or_default outputs place x d short) ∙ ap (λ (j : ℕ). (get_or outputs j d).sum) (sym same))
      (λ (ne : (i < place) ⊎ (place < i)). ap (λ (o : SumOutput). o.sum) (get_or-set_other outputs place i found d (not_place i ne)))
      (cases_order i place)

  rising_changed : (s : StateValue) → IsReached a s → AreRising changed
  rising_changed s reached = record {
    rising = λ i j d less within.
        let size = length-set outputs place found in
        let rise = (now s reached).rising.rising i j d less (omega arith) in
        let one = sum_at i d (omega arith) in
        let two = sum_at j d (omega arith) in
        omega arith;
    small = λ i d within. let size = length-set outputs place found in let small = (now s reached).rising.small i d (omega arith) in let one = sum_at i d (omega arith) in omega arith;
  }

  kept_changed : (q : SumOutput) → Contains changed q → IsKept outputs q
  kept_changed q (i, within, is) =
      let size = length-set outputs place found in
      ⊎_elim
      (λ (same : i ≡ place).
      let e : found ≡ q = sym (get_or-set_same outputs place found q short) ∙ ap (λ (j : ℕ). get_or changed j q) (sym same) ∙ is in
      (get_or outputs place x, Contains-get_or outputs place x short, ap (λ (o : SumOutput). o.lit) e, ap (λ (o : SumOutput). o.sum) e))
      (λ (ne : (i < place) ⊎ (place < i)). (q, (i, omega arith, sym (get_or-set_other outputs place i found q (not_place i ne)) ∙ is), refl, refl))
      (cases_order i place)

  stays_changed : All (IsKept changed) outputs
  stays_changed i d within =
      let size = length-set outputs place found in
      ⊎_elim
      (λ (same : i ≡ place).
      let here : get_or outputs place x ≡ get_or outputs i d = get_or_default outputs place x d short ∙ ap (λ (j : ℕ). get_or outputs j d) (sym same) in
      (found, (place, omega arith, get_or-set_same outputs place found found short), ap (λ (o : SumOutput). o.lit) here, ap (λ (o : SumOutput). o.sum) here))
      (λ (ne : (i < place) ⊎ (place < i)).
      let q = get_or outputs i d in
      (q, (i, omega arith, get_or-set_other outputs place i found q (not_place i ne) ∙ get_or_default outputs i q d within), refl, refl))
      (cases_order i place)

  pub asked_again : IsAsked a a terms outputs k found changed
  asked_again = record {
    there = (place, (let size = length-set outputs place found in omega arith), get_or-set_same outputs place found found short);
    least = least;
    from = refl;
    outputs = λ t reached. record { each = each_changed t reached; rising = rising_changed t reached };
    defined = λ t reached. all_changed (IsDefined a t terms) (defined t reached) (defined_found t (defined t reached place x short));
    stays = stays_changed;
    kept = λ i d within. inl (kept_changed (get_or changed i d) (Contains-get_or changed i d within));
    others = all_changed (λ q. (q ≡ found) ⊎ Contains outputs q) (λ i d within. inr (Contains-get_or outputs i d within)) (inl refl);
    counted = let size = length-set outputs place found in omega arith;
    again = λ q there least'. refl;
  }
