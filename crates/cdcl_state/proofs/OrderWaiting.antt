-- Orders over their heaps: who waits, and what is kept.
use Rattle.std.proofs.Common.{◌≡◌, ℕ, ◌-◌, ◌*◌, ◌/◌, ◌<◌, ◌≤◌, max, Bool, false, not, List, length, get_or, take, map, replicate, ◌++◌, All, arith, ap, sym, ◌∙◌, subst, ⊎_elim, inl, inr, length-take, get_or-take}
use Rattle.std.proofs.lemmas.List.{get_or_default, length-map}
use Rattle.std.proofs.lemmas.List.Elements.{All-map, All-weaker}
use Rattle.std.specs.List.{Contains}
use Rattle.scut_base.specs.Literal.{Literal}
use Rattle.clause_prop.specs.Steps.{TrailValue}
use Rattle.cdcl_state.specs.Heap.{HeapValue, IsAdded, IsGrownHeap, IsOrder, IsOrdered, IsTaken, Waits, key}
use Rattle.cdcl_state.specs.Order.{AllOpenWait, IsGrown, IsTakenChoice, NoneOpen, NoneWaits, OrderValue, SameWait, WaitsToo, activity, limit, phase}

-- ---- the list of those that wait

pub listed : (h : HeapValue) (var : ℕ) → h.count ≤ length h.vars → Waits h var → Contains (take h.count h.vars) var
listed h var room w =
    let less = w.1 in
    (w.0, omega (arith, length-take h.count h.vars), get_or-take h.count h.vars w.0 var less ∙ get_or_default h.vars w.0 var 0 (omega arith) ∙ w.2)

pub unlisted : (h : HeapValue) (var : ℕ) → Contains (take h.count h.vars) var → Waits h var
unlisted h var w =
    let short = w.1 in
    let size = length-take h.count h.vars in
    let less : w.0 < h.count = omega arith in
    (w.0, less, get_or_default h.vars w.0 0 var (omega arith) ∙ sym (get_or-take h.count h.vars w.0 var less) ∙ w.2)

-- between an order's list and its heap
abbrev pub IsListOf : OrderValue → HeapValue → Type 0
IsListOf o h = (o.waiting ≡ take h.count h.vars) × (h.count ≤ length h.vars)

of_heap : (o : OrderValue) (h : HeapValue) (var : ℕ) → IsListOf o h → Waits h var → Contains o.waiting var
of_heap o h var of w = subst (λ (xs : List ℕ). Contains xs var) (sym of.0) (listed h var of.1 w)

to_heap : (o : OrderValue) (h : HeapValue) (var : ℕ) → IsListOf o h → Contains o.waiting var → Waits h var
to_heap o h var of w = unlisted h var (subst (λ (xs : List ℕ). Contains xs var) of.0 w)

pub same_wait : (h k : HeapValue) (o p : OrderValue) → IsListOf o h → IsListOf p k → ((var : ℕ) → Waits h var → Waits k var) → ((var : ℕ) → Waits k var → Waits h var) → SameWait o p
same_wait h k o p of_h of_k kept only = record {
  kept = λ var w. of_heap p k var of_k (kept var (to_heap o h var of_h w));
  only = λ var w. of_heap o h var of_h (only var (to_heap p k var of_k w));
}

pub waits_too : (h k : HeapValue) (o p : OrderValue) (var : ℕ) → IsListOf o h → IsListOf p k → IsAdded h k var → WaitsToo o p var
waits_too h k o p var of_h of_k a = record {
  here = of_heap p k var of_k a.here;
  kept = λ other w. of_heap p k other of_k (a.kept other (to_heap o h other of_h w));
  only = λ other w. ⊎_elim (λ (b : Waits h other). inl (of_heap o h other of_h b)) (λ (e : other ≡ var). inr e) (a.only other (to_heap p k other of_k w));
}

-- ---- activities

-- all halved, where they are below twice the limit
pub order_halved : (h k : HeapValue) (phases : List Bool) (step half : ℕ) → length phases ≡ length h.activities → All (λ a. a < 2 * limit) h.activities → step < 2 * limit → h.count ≤ length h.vars
    → k ≡ record { activities = map (λ a. a / 2) h.activities; vars = h.vars; count = h.count; room = h.room } → half ≡ max 1 (step / 2) → IsOrdered (key k) k.count → IsOrder k phases half
order_halved h k phases step half phased below small room is half_is ordered = record {
  phased = phased ∙ sym (length-map h.activities (λ a. a / 2)) ∙ sym (ap (λ (x : HeapValue). length x.activities) is);
  below = subst (λ (x : HeapValue). All (λ a. a < limit) x.activities) (sym is) (All-map (λ a. a < limit) (λ a. a / 2) h.activities (All-weaker (λ a. a < 2 * limit) (λ a. a / 2 < limit) (λ a less. omega arith) h.activities below));
  positive = omega arith;
  small = omega arith;
  room = subst (λ (x : HeapValue). x.count ≤ length x.vars) (sym is) room;
  ordered = ordered;
}

pub below_twice : (xs : List ℕ) → All (λ a. a < limit) xs → All (λ a. a < 2 * limit) xs
below_twice xs below = All-weaker (λ a. a < limit) (λ a. a < 2 * limit) (λ a less. omega arith) xs below

-- ---- the next choice

pub taken_choice : (h k : HeapValue) (o p : OrderValue) (l : Literal) (var : ℕ) → IsListOf o h → IsListOf p k → o.activities ≡ h.activities → IsTaken h k var → l.var ≡ var → l.neg ≡ not (phase o var) → IsTakenChoice o p l
taken_choice h k o p l var of_h of_k same t is neg = record {
  positive = subst (λ (v : ℕ). 0 < v) (sym is) t.positive;
  within = let e = ap length same in let w = t.within in omega arith;
  last_phase = neg ∙ ap (λ (v : ℕ). not (phase o v)) (sym is);
  greatest = λ other w.
      let most = t.greatest other (to_heap o h other of_h w) in
      let e1 : activity o other ≡ get_or h.activities (other - 1) 0 = ap (λ (xs : List ℕ). get_or xs (other - 1) 0) same in
      let e2 : activity o l.var ≡ get_or h.activities (var - 1) 0 = ap (λ (v : ℕ). activity o v) is ∙ ap (λ (xs : List ℕ). get_or xs (var - 1) 0) same in omega arith;
  kept = λ other w apart. of_heap p k other of_k (t.kept other (to_heap o h other of_h w) (λ e. apart (e ∙ sym is)));
  fewer =
      let e1 = ap length of_h.0 in
      let e2 = ap length of_k.0 in
      let r1 = of_h.1 in
      let r2 = of_k.1 in
      let count = t.count in omega (arith, length-take h.count h.vars, length-take k.count k.vars);
}

-- what `next` has so far: who is open waits, and nothing else has changed
pub record IsSeeking (old o : OrderValue) (t : TrailValue) : Type 0 where
  pub vars : t.vars ≡ length o.activities
  pub activities : o.activities ≡ old.activities
  pub phases : o.phases ≡ old.phases
  pub step : o.step ≡ old.step
  pub waiting : AllOpenWait o t

pub none_open : (o : OrderValue) (t : TrailValue) → AllOpenWait o t → NoneWaits o → NoneOpen t
none_open o t waiting none var positive within is_open = none var (waiting var positive within is_open)

-- ---- more variables

pub grown_order : (h k : HeapValue) (o p : OrderValue) (vars known : ℕ) → IsListOf o h → IsListOf p k → o.activities ≡ h.activities → p.activities ≡ k.activities → known ≡ length h.activities
    → p.phases ≡ o.phases ++ replicate (vars - known) false → p.step ≡ o.step → IsGrownHeap h k vars → IsGrown o p vars
grown_order h k o p vars known of_h of_k same_o same_p is phases step g = record {
  activities = same_p ∙ g.activities ∙ ap (λ (xs : List ℕ). xs ++ replicate (vars - length xs) 0) (sym same_o);
  phases = phases ∙ ap (λ (n : ℕ). o.phases ++ replicate (vars - n) false) (is ∙ ap length (sym same_o));
  step = step;
  kept = λ var w. of_heap p k var of_k (g.kept var (to_heap o h var of_h w));
  fresh = λ var above below. let e = ap length same_o in of_heap p k var of_k (g.fresh var (omega arith) below);
  only = λ var w. ⊎_elim
      (λ (b : Waits h var). inl (of_heap o h var of_h b))
      (λ (l : (length h.activities < var) × (var ≤ vars)). let above = l.0 in inr (let e = ap length same_o in omega arith, l.1))
      (g.only var (to_heap p k var of_k w));
}
