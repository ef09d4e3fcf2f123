-- The least sum of outputs of two lists.
use Rattle.std.proofs.Common.{◌≡◌, ◌⊎◌, inl, inr, ℕ, ◌+◌, ◌-◌, ◌<◌, ◌≤◌, Bool, Option, None, Some, List, [], ◌∷◌, ◌++◌, get_or, length, take, refl, ap, sym, subst, ◌∙◌, ⊎_elim, arith}
use Rattle.std.specs.Prelude.{MatchOption, min}
use Rattle.std.specs.List.{All, Contains}
use Rattle.std.proofs.lemmas.Bool.{cases_order}
use Rattle.std.proofs.lemmas.List.{take_more, get_or_default}
use Rattle.std.proofs.lemmas.List.Elements.{Contains-get_or, Contains-append_cases, Contains-append_left, Contains-append_right, All-contains}
use Rattle.std.proofs.lemmas.List.Sums.{sum_by-append}
use Rattle.scut_base.proofs.Lists.{Contains-nil, Contains-head, Contains-cons_cases}
use Rattle.pb_lin.specs.Constraint.{term_value, total, value}
use Rattle.pb_lin.specs.Place.{IsPlace}
use Rattle.cutting_planes.proofs.Terms.{Terms}
use Rattle.proof_laws.proofs.Definitions.{zero_or_more}
use Rattle.sum_outputs.specs.Totals.{AreWeights, IsAttainable, IsLeastSum}
use Rattle.sum_outputs.specs.Outputs.{AreRising}
use Rattle.sum_outputs.specs.Joining.{IsCompleteTo}
use Rattle.sum_outputs.specs.Sums.{HasSum, NoneWith, IsLeastWith, IsLeastOf, IsLessOf}
use Rattle.sum_outputs.specs.declared.sum_output.SumOutput.{SumOutput}
use Rattle.sum_outputs.proofs.OutputsLater.{from_place}
use Rattle.sum_outputs.proofs.Attaining.{attain_both, attain_none, attain_total, weights_left, weights_right}
use Rattle.sum_outputs.proofs.JoinMeaning.{HasSide}

-- from the place on the sums rise
pub least_at_place : (base k : ℕ) (os : List SumOutput) (place : ℕ) (x : SumOutput) → AreRising os → base < k → IsPlace (λ o. o.sum) os (k - base) place → place < length os → IsLeastWith base os k (base + (get_or os place x).sum)
least_at_place base k os place x rises less is short = record {
  sum = (get_or os place x).sum;
  has = inr (get_or os place x, Contains-get_or os place x short, refl);
  is = refl;
  reaches = let above = is.above place x (omega arith) short in omega arith;
  least = λ q has most. by q has most;
}
  where
    at_least : (i : ℕ) (d : SumOutput) → i < length os → place ≤ i → (get_or os place x).sum ≤ (get_or os i d).sum
    at_least i d short' le = ⊎_elim
        (λ (same : place ≡ i). let e : (get_or os place x).sum ≡ (get_or os i d).sum = ap (λ (o : SumOutput). o.sum) (get_or_default os place x d short) ∙ ap (λ (j : ℕ). (get_or os j d).sum) same in omega arith)
        (λ (other : (place < i) ⊎ (i < place)). ⊎_elim
        (λ (low : place < i). let rise = rises.rising place i d low short' in let e : (get_or os place x).sum ≡ (get_or os place d).sum = ap (λ (o : SumOutput). o.sum) (get_or_default os place x d short) in omega arith)
        (λ (high : i < place). absurd (omega arith)) other)
        (cases_order place i)

    by : (q : ℕ) → HasSum os q → k ≤ base + q → base + (get_or os place x).sum ≤ base + q
    by q (inl none) most = absurd (omega arith)
    by q (inr (o, (i, short', at), e)) most =
        let sums : (get_or os i o).sum ≡ o.sum = ap (λ (p : SumOutput). p.sum) at in
        let after = from_place (λ (p : SumOutput). p.sum) os (k - base) place i o is (omega arith) in
        let rise = at_least i o short' after in
        omega arith

-- the least so far, and what one number more gives
pub less_more : (firsts seconds : List SumOutput) (Has : ℕ → Type 0) (base old r k total : ℕ) → ((p : ℕ) → HasSum firsts p → Has p ⊎ (p ≡ base)) → HasSum firsts base →
    (old ≡ total) ⊎ ((p : ℕ) × (q : ℕ) × HasSum firsts p × HasSum seconds q × (old ≡ p + q)) → k ≤ old → old ≤ total → ((p q : ℕ) → Has p → HasSum seconds q → k ≤ p + q → old ≤ p + q) →
    (found : Option ℕ) → MatchOption found (NoneWith base seconds k) (IsLeastWith base seconds k) → IsLessOf old found r → IsLeastOf firsts seconds k total r
less_more firsts seconds Has base old r k total split here was reaches most least None none less = record {
  is = ⊎_elim (λ (e : old ≡ total). inl (less ∙ e)) (λ (w : (p : ℕ) × (q : ℕ) × HasSum firsts p × HasSum seconds q × (old ≡ p + q)). inr (w.0, w.1, w.2, w.3, less ∙ w.4)) was;
  reaches = omega arith;
  most = omega arith;
  least = λ p q has has' large. ⊎_elim
      (λ (before : Has p). let w = least p q before has' large in omega arith)
      (λ (e : p ≡ base). let w = none q has' in absurd (omega arith))
      (split p has);
}
less_more firsts seconds Has base old r k total split here was reaches most least (Some new) with' less = record {
  is = ⊎_elim
      (λ (e : r ≡ old). ⊎_elim (λ (w : old ≡ total). inl (e ∙ w)) (λ (w : (p : ℕ) × (q : ℕ) × HasSum firsts p × HasSum seconds q × (old ≡ p + q)). inr (w.0, w.1, w.2, w.3, e ∙ w.4)) was)
      (λ (e : r ≡ new). inr (base, with'.sum, here, with'.has, e ∙ with'.is))
      (either old new r less);
  reaches = let w = with'.reaches in omega arith;
  most = omega arith;
  least = λ p q has has' large. ⊎_elim
      (λ (before : Has p). let w = least p q before has' large in omega arith)
      (λ (e : p ≡ base). let w = with'.least q has' (omega arith) in omega arith)
      (split p has);
}
  where
    either : (m n k : ℕ) → k ≡ min m n → (k ≡ m) ⊎ (k ≡ n)
    either m n k e = ⊎_elim (λ (same : m ≡ n). inl (omega arith)) (λ (other : (m < n) ⊎ (n < m)). ⊎_elim (λ (low : m < n). inl (omega arith)) (λ (high : n < m). inr (omega arith)) other) (cases_order m n)

-- with no output of the one
pub less_first : (seconds : List SumOutput) (k total r : ℕ) (found : Option ℕ) → k ≤ total → MatchOption found (NoneWith 0 seconds k) (IsLeastWith 0 seconds k) → IsLessOf total found r → IsLeastOf [] seconds k total r
less_first seconds k total r found most is less = less_more [] seconds (λ p. ⊥) 0 total r k total
    (λ p has. inr (none_there p has)) (inl refl) (inl refl) most (omega arith) (λ p q never. absurd never) found is less
  where
    none_there : (p : ℕ) → HasSum [] p → p ≡ 0
    none_there p (inl e) = e
    none_there p (inr (o, in', e)) = absurd (Contains-nil o in')

-- with one output more
pub less_next : (firsts seconds : List SumOutput) (i : ℕ) (x : SumOutput) (k total old r : ℕ) (found : Option ℕ) → x ≡ get_or firsts i x → i < length firsts → IsLeastOf (take i firsts) seconds k total old → MatchOption found (NoneWith x.sum seconds k) (IsLeastWith x.sum seconds k) → IsLessOf old found r → IsLeastOf (take (i + 1) firsts) seconds k total r
less_next firsts seconds i x k total old r found at short was is less =
    subst (λ (fs : List SumOutput). IsLeastOf fs seconds k total r) (sym more)
    (less_more (take i firsts ++ x ∷ []) seconds (HasSum (take i firsts)) x.sum old r k total
    split (inr (x, Contains-append_right (take i firsts) (x ∷ []) x (Contains-head x []), refl))
    (⊎_elim (λ (e : old ≡ total). inl e) (λ (w : (p : ℕ) × (q : ℕ) × HasSum (take i firsts) p × HasSum seconds q × (old ≡ p + q)). inr (w.0, w.1, longer w.0 w.2, w.3, w.4)) was.is)
    was.reaches was.most was.least found is less)
  where
    more : take (i + 1) firsts ≡ take i firsts ++ x ∷ []
    more = take_more firsts i x short ∙ ap (λ (y : SumOutput). take i firsts ++ y ∷ []) (sym at)

    longer : (p : ℕ) → HasSum (take i firsts) p → HasSum (take i firsts ++ x ∷ []) p
    longer p (inl e) = inl e
    longer p (inr (o, in', e)) = inr (o, Contains-append_left (take i firsts) (x ∷ []) o in', e)

    split : (p : ℕ) → HasSum (take i firsts ++ x ∷ []) p → HasSum (take i firsts) p ⊎ (p ≡ x.sum)
    split p (inl e) = inl (inl e)
    split p (inr (o, in', e)) = ⊎_elim
        (λ (left : Contains (take i firsts) o). inl (inr (o, left, e)))
        (λ (right : Contains (x ∷ []) o). ⊎_elim (λ (same : x ≡ o). inr (sym e ∙ ap (λ (y : SumOutput). y.sum) (sym same))) (λ (never : Contains [] o). absurd (Contains-nil o never)) (Contains-cons_cases x o [] right))
        (Contains-append_cases (take i firsts) (x ∷ []) o in')

-- ---- the least sum of a node

module _ (first second : Terms) (firsts seconds : List SumOutput) (weights : AreWeights (first ++ second)) (of_first : All (λ o. IsAttainable first o.sum) firsts) (of_second : All (λ o. IsAttainable second o.sum) seconds) (k : ℕ) (left : IsCompleteTo first firsts k) (right : IsCompleteTo second seconds k) where
  attained_first : (p : ℕ) → HasSum firsts p → IsAttainable first p
  attained_first p (inl e) = subst (λ (m : ℕ). IsAttainable first m) (sym e) (attain_none first (weights_left first second weights))
  attained_first p (inr (o, in', e)) = subst (λ (m : ℕ). IsAttainable first m) e (All-contains (λ q. IsAttainable first q.sum) firsts o of_first in')

  attained_second : (p : ℕ) → HasSum seconds p → IsAttainable second p
  attained_second p (inl e) = subst (λ (m : ℕ). IsAttainable second m) (sym e) (attain_none second (weights_right first second weights))
  attained_second p (inr (o, in', e)) = subst (λ (m : ℕ). IsAttainable second m) e (All-contains (λ q. IsAttainable second q.sum) seconds o of_second in')

  -- the sum of an output that is at least k and at most m, or m itself
  unfoldable pub Side : List SumOutput → ℕ → Type 0
  Side os m = (p : ℕ) × HasSum os p × ((p ≡ m) ⊎ ((k ≤ p) × (p ≤ m)))

  side : (os : List SumOutput) (m : ℕ) → (0 < m → HasSide os k m) → Side os m
  unfolding Side
  side os m has = ⊎_elim (λ (none : m ≡ 0). (m, inl none, inl refl)) (λ (more : 0 < m). by (has more)) (zero_or_more m)
    where
      by : HasSide os k m → Side os m
      by (inl (o, in', e)) = (m, inr (o, in', e), inl refl)
      by (inr (o, in', most, less)) = (o.sum, inr (o, in', refl), inr (most, less))

  pub least_is : (r : ℕ) → IsLeastOf firsts seconds k (total (first ++ second)) r → IsLeastSum (first ++ second) k r
  unfolding Side
  least_is r is = record {
    attainable = ⊎_elim
        (λ (e : r ≡ total (first ++ second)). subst (λ (m : ℕ). IsAttainable (first ++ second) m) (sym e) (attain_total (first ++ second) weights))
        (λ (w : (p : ℕ) × (q : ℕ) × HasSum firsts p × HasSum seconds q × (r ≡ p + q)). subst (λ (m : ℕ). IsAttainable (first ++ second) m) (sym w.4) (attain_both first second weights w.0 w.1 (attained_first w.0 w.2) (attained_second w.1 w.3)))
        is.is;
    reaches = is.reaches;
    least = λ m can large. by m can.0 can.1 large;
  }
    where
      by : (m : ℕ) (x : List Bool) → value x (first ++ second) ≡ m → k ≤ m → r ≤ m
      by m x e large =
          let both = sum_by-append (term_value x) first second in
          let one = side firsts (value x first) (left (value x first) (x, refl)) in
          let two = side seconds (value x second) (right (value x second) (x, refl)) in
          ⊎_elim
          (λ (exact : one.0 ≡ value x first). ⊎_elim
          (λ (exact' : two.0 ≡ value x second). let w = is.least one.0 two.0 one.1 two.1 (omega arith) in omega arith)
          (λ (over : (k ≤ two.0) × (two.0 ≤ value x second)). let w = is.least 0 two.0 (inl refl) two.1 (let o = over.0 in omega arith) in let l = over.1 in omega arith)
          two.2)
          (λ (over : (k ≤ one.0) × (one.0 ≤ value x first)). let w = is.least one.0 0 one.1 (inl refl) (let o = over.0 in omega arith) in let l = over.1 in omega arith)
          one.2
