-- Outputs of a node with those that were made in falling order behind them.
use Rattle.std.proofs.Common.{◌≡◌, ◌≢◌, ◌⊎◌, inl, inr, ℕ, ◌-◌, ◌<◌, ◌≤◌, List, [], ◌∷◌, ◌++◌, get_or, length, drop, reverse, refl, ap, sym, subst, ◌∙◌, ⊎_elim, arith}
use Rattle.std.specs.List.{All, AllPairs, Contains}
use Rattle.std.proofs.lemmas.Bool.{cases_lt, cases_order}
use Rattle.std.proofs.lemmas.List.{get_or_append_left, get_or-append_right, get_or-reverse, length-reverse, length-append}
use Rattle.std.proofs.lemmas.List.Elements.{All-append, All-drop, All-contains, Contains-append_left, Contains-append_right, Contains-append_cases, Contains-get_or}
use Rattle.pb_lin.specs.Constraint.{total}
use Rattle.cutting_planes.proofs.Terms.{Terms}
use Rattle.proof_laws.specs.State.{StateValue}
use Rattle.proof_rules.specs.Recording.{Snapshot}
use Rattle.sum_outputs.specs.Totals.{AreWeights, IsAttainable, IsUpToLeast}
use Rattle.sum_outputs.specs.Adding.{DefinesMore, IsReached, IsReady, Continues}
use Rattle.sum_outputs.specs.Outputs.{IsDefined, AreRising, CanImplyNow}
use Rattle.sum_outputs.specs.Joining.{IsOutputAt, AreOutputsNow, IsCompleteTo}
use Rattle.sum_outputs.specs.Sums.{last_sum}
use Rattle.sum_outputs.specs.Falling.{AreFallingTo, AreAllBetween, AreExtended}
use Rattle.sum_outputs.specs.declared.sum_output.SumOutput.{SumOutput}
use Rattle.sum_outputs.proofs.Glue.{value-le-total}
use Rattle.sum_outputs.proofs.OutputsLater.{defined_then, now_later}
use Rattle.sum_outputs.proofs.MakeLines.{outputs_later}
use Rattle.sum_outputs.proofs.JoinLines.{tie_can}
use Rattle.sum_outputs.proofs.Runs.{last_sum_is}

-- ---- lists in reverse

all_reversed : {X : Type 0} (P : X → Type 0) (xs : List X) → All P xs → All P (reverse xs)
all_reversed P xs all k d short =
    let same = length-reverse xs in
    subst P (sym (get_or-reverse xs k d (omega arith))) (all (length xs - 1 - k) d (omega arith))

pairs_reversed : {X : Type 0} (R S : X → X → Type 0) → ((x y : X) → R x y → S y x) → (xs : List X) → AllPairs R xs → AllPairs S (reverse xs)
pairs_reversed R S flip xs pairs i j d less short =
    let same = length-reverse xs in
    let one = get_or-reverse xs i d (omega arith) in
    let two = get_or-reverse xs j d (omega arith) in
    subst (λ (y : _). S (get_or (reverse xs) i d) y) (sym two) (subst (λ (x : _). S x (get_or xs (length xs - 1 - j) d)) (sym one)
    (flip (get_or xs (length xs - 1 - j) d) (get_or xs (length xs - 1 - i) d) (pairs (length xs - 1 - j) (length xs - 1 - i) d (omega arith) (omega arith))))

contains_reversed : {X : Type 0} (xs : List X) (x : X) → Contains xs x → Contains (reverse xs) x
contains_reversed xs x (k, short, is) =
    let same = length-reverse xs in
    (length xs - 1 - k, omega arith, get_or-reverse xs (length xs - 1 - k) x (omega arith) ∙ ap (λ (i : ℕ). get_or xs i x) (let e : length xs - 1 - (length xs - 1 - k) ≡ k = omega arith in e) ∙ is)

pub pairs_joined : {X : Type 0} (R : X → X → Type 0) (xs ys : List X) → AllPairs R xs → AllPairs R ys → ((i j : ℕ) (d : X) → i < length xs → j < length ys → R (get_or xs i d) (get_or ys j d)) → AllPairs R (xs ++ ys)
pairs_joined R xs ys left right across i j d less short =
    let whole = length-append xs ys in
    ⊎_elim
    (λ (low : j < length xs).
    let one = get_or_append_left xs ys d i (omega arith) in
    let two = get_or_append_left xs ys d j low in
    subst (λ (y : _). R (get_or (xs ++ ys) i d) y) (sym two) (subst (λ (x : _). R x (get_or xs j d)) (sym one) (left i j d less low)))
    (λ (high : length xs ≤ j).
    let two = get_or-append_right xs ys (length xs) j d refl high in
    subst (λ (y : _). R (get_or (xs ++ ys) i d) y) (sym two)
    (⊎_elim
    (λ (low : i < length xs). subst (λ (x : _). R x (get_or ys (j - length xs) d)) (sym (get_or_append_left xs ys d i low)) (across i (j - length xs) d low (omega arith)))
    (λ (above : length xs ≤ i). subst (λ (x : _). R x (get_or ys (j - length xs) d)) (sym (get_or-append_right xs ys (length xs) i d refl above)) (right (i - length xs) (j - length xs) d (omega arith) (omega arith)))
    (cases_lt i (length xs))))
    (cases_lt j (length xs))

-- ---- the last sum

-- the last sum is 0, or that of an output
pub last_is : (os : List SumOutput) → (last_sum os ≡ 0) ⊎ ((o : SumOutput) × Contains os o × (o.sum ≡ last_sum os))
last_is [] = inl refl
last_is (o ∷ os) =
    let p = get_or (o ∷ os) (length (o ∷ os) - 1) o in
    inr (p, Contains-get_or (o ∷ os) (length (o ∷ os) - 1) o (omega arith), last_sum_is (o ∷ os) o (omega arith))

-- no sum is above the last
pub last_most : (os : List SumOutput) → AreRising os → All (λ o. o.sum ≤ last_sum os) os
last_most os rises i d short =
    let last = last_sum_is os d (omega arith) in
    ⊎_elim
    (λ (same : i ≡ length os - 1). let e : (get_or os i d).sum ≡ (get_or os (length os - 1) d).sum = ap (λ (j : ℕ). (get_or os j d).sum) same in omega arith)
    (λ (other : (i < length os - 1) ⊎ (length os - 1 < i)). ⊎_elim
    (λ (less : i < length os - 1). let rise = rises.rising i (length os - 1) d less (omega arith) in omega arith)
    (λ (more : length os - 1 < i). absurd (omega arith)) other)
    (cases_order i (length os - 1))

module _ (a b : Snapshot) (ready : IsReady a) (on : Continues a b) (terms : Terms) (weights : AreWeights terms) (before falling : List SumOutput) (k : ℕ) (some : 0 < k) (now : AreOutputsNow a terms before) (defined : (s : StateValue) → IsReached a s → All (IsDefined a s terms) before) (gapless : AreAllBetween terms 0 (last_sum before) before) (made : AreFallingTo a b terms (last_sum before) k falling) (more : DefinesMore a b (length falling)) where
  abbrev os : List SumOutput
  os = before ++ reverse falling

  rising_before : AreRising before
  rising_before = (now ready.state ready.reached).rising

  each_b : (t : StateValue) → IsReached b t → All (IsOutputAt b t terms) os
  each_b t reached = All-append (IsOutputAt b t terms) before (reverse falling) (outputs_later a b ready on terms before now t reached).each (all_reversed (IsOutputAt b t terms) falling (made.are.outputs t reached))

  rising_all : (t : StateValue) → IsReached b t → AreRising os
  rising_all t reached = record {
    rising = pairs_joined (λ o q. o.sum < q.sum) before (reverse falling) rising_before.rising
        (pairs_reversed (λ o q. q.sum < o.sum) (λ o q. o.sum < q.sum) (λ x y less. less) falling made.are.falling)
        (λ i j d short short'. let low = last_most before rising_before i d short in let high = all_reversed (λ o. last_sum before < o.sum) falling made.are.above j d short' in omega arith);
    small = λ i d short. let most = (each_b t reached i d short).literal.most in let w = weights.small in omega arith;
  }

  -- all sums up to the greatest that was made
  found : (m : ℕ) → IsAttainable terms m → 0 < m → m ≤ made.high → (o : SumOutput) × Contains os o × (o.sum ≡ m)
  found m can more most = ⊎_elim
      (λ (new : last_sum before < m). let o = made.all m can new most in (o.0, Contains-append_right before (reverse falling) o.0 (contains_reversed falling o.0 o.1), o.2))
      (λ (old : m ≤ last_sum before). let o = gapless m can more old in (o.0, Contains-append_left before (reverse falling) o.0 o.1, o.2))
      (cases_lt (last_sum before) m)

  old_found : (m : ℕ) → IsAttainable terms m → 0 < m → m ≤ last_sum before → (o : SumOutput) × Contains os o × (o.sum ≡ m)
  old_found m can more old = let o = gapless m can more old in (o.0, Contains-append_left before (reverse falling) o.0 o.1, o.2)

  all_gapless : AreAllBetween terms 0 (last_sum os) os
  all_gapless m can more most = ⊎_elim
      (λ (none : last_sum os ≡ 0). absurd (omega arith))
      (λ (last : (o : SumOutput) × Contains os o × (o.sum ≡ last_sum os)). ⊎_elim
      (λ (old : Contains before last.0). let w = All-contains (λ o. o.sum ≤ last_sum before) before last.0 (last_most before rising_before) old in let e = last.2 in old_found m can more (omega arith))
      (λ (new : Contains (reverse falling) last.0). let w = All-contains (λ o. o.sum ≤ made.high) (reverse falling) last.0 (all_reversed (λ o. o.sum ≤ made.high) falling made.within) new in let e = last.2 in found m can more (omega arith))
      (Contains-append_cases before (reverse falling) last.0 last.1))
      (last_is os)

  -- an output of the greatest sum that was made
  highest : k ≤ made.high → (o : SumOutput) × Contains os o × (o.sum ≡ made.high)
  highest large = ⊎_elim
      (λ (none : made.high ≡ last_sum before). ⊎_elim
      (λ (zero' : last_sum before ≡ 0). absurd (omega arith))
      (λ (last : (o : SumOutput) × Contains before o × (o.sum ≡ last_sum before)). (last.0, Contains-append_left before (reverse falling) last.0 last.1, last.2 ∙ sym none))
      (last_is before))
      (λ (top : (o : SumOutput) × Contains falling o × (o.sum ≡ made.high)). (top.0, Contains-append_right before (reverse falling) top.0 (contains_reversed falling top.0 top.1), top.2))
      made.top

  all_complete : IsCompleteTo terms os k
  all_complete m can more = ⊎_elim
      (λ (above : made.high < m). ⊎_elim
      (λ (large : k ≤ made.high). let o = highest large in let e = o.2 in inr (o.0, o.1, omega arith, omega arith))
      (λ (all : total terms ≤ made.high). let most = value-le-total can.0 terms in let e = can.1 in absurd (omega arith))
      made.enough)
      (λ (within : m ≤ made.high). inl (found m can more within))
      (cases_lt made.high m)

  pub are_extended : AreExtended a b terms before k os
  are_extended = record {
    more = reverse falling;
    is = refl;
    outputs = λ t reached. record { each = each_b t reached; rising = rising_all t reached };
    defined = λ t reached. All-append (IsDefined b t terms) before (reverse falling)
        (now_later a b (λ c s. All (IsDefined c s terms) before) ready on (λ s has all i d short. defined_then a b on s has terms (get_or before i d) (all i d short)) defined t reached)
        (all_reversed (IsDefined b t terms) falling (made.are.defined t reached));
    gapless = all_gapless;
    complete = all_complete;
    needed = all_reversed (λ o. IsUpToLeast terms k o.sum) falling made.needed;
    fresh = λ s reached. all_reversed (λ o. s.vars < o.lit.var) falling (made.are.fresh s reached);
    apart = pairs_reversed (λ o q. o.lit.var ≢ q.lit.var) (λ o q. o.lit.var ≢ q.lit.var) (λ x y ne e. ne (sym e)) falling made.are.apart;
    counted =
        let whole = length-append before (reverse falling) in
        let same = length-reverse falling in
        omega arith;
  }

-- new outputs may imply those that were there
pub new_implies_old : (a b : Snapshot) → IsReady a → Continues a b → (terms : Terms) → AreWeights terms → (before falling : List SumOutput) (k : ℕ) → AreOutputsNow a terms before → ((s : StateValue) → IsReached a s → All (IsDefined a s terms) before) → AreFallingTo a b terms (last_sum before) k falling →
    (m n i : ℕ) (d : SumOutput) (j : ℕ) (e : SumOutput) → i < length (drop n before) → j < length (drop m falling) → CanImplyNow b (get_or (drop m falling) j e ∷ []) [] (get_or (drop n before) i d)
new_implies_old a b ready on terms weights before falling k now defined made m n i d j e short short' t reached =
    let outputs = All-drop (IsOutputAt b t terms) n before (outputs_later a b ready on terms before now t reached).each in
    let defined_b = All-drop (IsDefined b t terms) n before (now_later a b (λ c s. All (IsDefined c s terms) before) ready on (λ s has all h f less. defined_then a b on s has terms (get_or before h f) (all h f less)) defined t reached) in
    let low = All-drop (λ o. o.sum ≤ last_sum before) n before (last_most before (now ready.state ready.reached).rising) in
    let old = All-drop (λ o. o.lit.var ≤ ready.state.vars) n before (λ h f less. let v = ((now ready.state ready.reached).each h f less).literal.variable in v.1) in
    let new = All-drop (IsOutputAt b t terms) m falling (made.are.outputs t reached) in
    let high = All-drop (λ o. last_sum before < o.sum) m falling made.are.above in
    let fresh = All-drop (λ o. ready.state.vars < o.lit.var) m falling (made.are.fresh ready.state ready.reached) in
    let is = outputs i d short in
    let l = low i d short in
    let h = high j e short' in
    let f = fresh j e short' in
    let v = old i d short in
    tie_can b t terms (get_or (drop m falling) j e) (get_or (drop n before) i d) weights (defined_b i d short) is.literal.some is.literal.variable (new j e short').literal (omega arith) (λ same. omega arith)

-- the last sum is no greater than the greatest
pub last_within : (a : Snapshot) → IsReady a → (terms : Terms) (os : List SumOutput) → AreOutputsNow a terms os → last_sum os ≤ total terms
last_within a ready terms os now = ⊎_elim
    (λ (none : last_sum os ≡ 0). omega arith)
    (λ (last : (o : SumOutput) × Contains os o × (o.sum ≡ last_sum os)). let is = All-contains (IsOutputAt a ready.state terms) os last.0 (now ready.state ready.reached).each last.1 in let most = is.literal.most in let e = last.2 in omega arith)
    (last_is os)

-- lines that were added after all was made change nothing
pub extended_later : (a b c : Snapshot) → IsReady b → Continues b c → DefinesMore b c 0 → (terms : Terms) (before : List SumOutput) (k : ℕ) (os : List SumOutput) → AreExtended a b terms before k os → AreExtended a c terms before k os
extended_later a b c ready on none terms before k os is = record {
  more = is.more;
  is = is.is;
  outputs = outputs_later b c ready on terms os is.outputs;
  defined = now_later b c (λ d s. All (IsDefined d s terms) os) ready on (λ s has all i d short. defined_then b c on s has terms (get_or os i d) (all i d short)) is.defined;
  gapless = is.gapless;
  complete = is.complete;
  needed = is.needed;
  fresh = is.fresh;
  apart = is.apart;
  counted = let before = is.counted in omega arith;
}
