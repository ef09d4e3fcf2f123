-- What is in step throughout a search, after each kind of change.
use Rattle.std.proofs.Common.{◌≡◌, ℕ, ◌<◌, ◌≤◌, ◌^◌, max, Bool, true, false, cond, [], length, refl, arith, ap, sym, ◌∙◌, subst}
use Rattle.std.specs.Prelude.{Result, Ok, Err, OnOk, OnErr, Option, None}
use Rattle.std.specs.Ordering.{nat_cmp, eq_by_cmp}
use Rattle.std.specs.Cmp.{nat_cmp_total}
use Rattle.std.specs.FinMap.{empty, get, insert, remove, get-empty, get-remove}
use Rattle.std.proofs.lemmas.Option.{none-some}
use Rattle.pb_lin.specs.Constraint.{ConstraintValue, UpTo, IsNormal}
use Rattle.pb_lin.specs.LineMap.{LineMap}
use Rattle.proof_laws.proofs.Live.{live_insert, live_remove}
use Rattle.clause_prop.specs.Steps.{TrailValue, last_level}
use Rattle.cdcl_trail.specs.SearchTrail.{AreLines, IsSearchTrail}
use Rattle.cdcl_trail.proofs.Stores.{get_other}
use Rattle.cdcl_trail.proofs.Pushes.{last_low}
use Rattle.cdcl_trail.proofs.Counts.{length_within}
use Rattle.cdcl_state.specs.Order.{OrderValue}
use Rattle.cdcl_state.specs.Searching.{SearchValue, IsOrderFor, IsSearch}

-- ---- the lines

pub lines_added : (n : ℕ) (store : LineMap) (id : ℕ) (c : ConstraintValue) → 0 < id → UpTo n c → IsNormal c.terms c.degree → AreLines n store → AreLines n (insert store id c)
lines_added n store id c positive within normal lines = record {
  no_zero = get_other store id 0 c (λ same. omega (arith, positive, same)) ∙ lines.no_zero;
  normal = live_insert (λ (d : ConstraintValue). IsNormal d.terms d.degree) store id c normal lines.normal;
  variables = live_insert (UpTo n) store id c within lines.variables;
}

still_none : (b : Bool) (o : Option ConstraintValue) → o ≡ None → cond b None o ≡ None
still_none true o none = refl
still_none false o none = none

pub lines_dropped : (n : ℕ) (store : LineMap) (id : ℕ) → AreLines n store → AreLines n (remove store id)
lines_dropped n store id lines = record {
  no_zero = get-remove nat_cmp_total store id 0 ∙ still_none (eq_by_cmp nat_cmp 0 id) (get store 0) lines.no_zero;
  normal = λ q d there. lines.normal q d (live_remove store id q d there);
  variables = λ q d there. lines.variables q d (live_remove store id q d there);
}

lines_wider : (n m : ℕ) (store : LineMap) → n ≤ m → AreLines n store → AreLines m store
lines_wider n m store more lines = record {
  no_zero = lines.no_zero;
  normal = lines.normal;
  variables = λ q d there k e short. let own = lines.variables q d there k e short in omega (arith, own, more);
}

nothing_there : (store : LineMap) (id : ℕ) → store ≡ empty → get store id ≡ None
nothing_there store id is = ap (λ (m : LineMap). get m id) is ∙ get-empty {X = ConstraintValue} nat_cmp id

lines_none : (store : LineMap) → store ≡ empty → AreLines 0 store
lines_none store is = record {
  no_zero = nothing_there store 0 is;
  normal = λ q d there. absurd (none-some d (sym (nothing_there store q is) ∙ there));
  variables = λ q d there. absurd (none-some d (sym (nothing_there store q is) ∙ there));
}

-- the lines after one was stored, or none for want of memory
pub lines_stored : {T E : Type 0} (r : Result T E) (store new : LineMap) (t : TrailValue) (id : ℕ) (c : ConstraintValue) → OnOk r (new ≡ insert store id c) → OnErr r (new ≡ store) → 0 < id → UpTo t.vars c → IsNormal c.terms c.degree → AreLines t.vars store → AreLines t.vars new
lines_stored (Ok x) store new t id c is same positive within normal lines = subst (AreLines t.vars) (sym is) (lines_added t.vars store id c positive within normal lines)
lines_stored (Err e) store new t id c is same positive within normal lines = subst (AreLines t.vars) (sym same) lines

-- and the trail
pub search_stored : {T E : Type 0} (r : Result T E) (store new : LineMap) (t : TrailValue) (id : ℕ) (c : ConstraintValue) → OnOk r (new ≡ insert store id c) → OnErr r (new ≡ store) → IsSearchTrail store t → IsSearchTrail (insert store id c) t → IsSearchTrail new t
search_stored (Ok x) store new t id c is same old more = subst (λ (m : LineMap). IsSearchTrail m t) (sym is) more
search_stored (Err e) store new t id c is same old more = subst (λ (m : LineMap). IsSearchTrail m t) (sym same) old

-- ---- the whole

abbrev pub searching : LineMap → TrailValue → SearchValue
searching store t = record { store = store; trail = t }

-- other lines and steps over the same variables
pub changed : (A : Type 0) (B : TrailValue → Type 0) (places : ℕ) (o p : OrderValue) (store more : LineMap) (t v u : TrailValue) → u ≡ v → v.vars ≡ t.vars → IsSearch A places o (searching store t) → AreLines t.vars more → IsSearchTrail more v → B v → IsOrderFor p v → IsSearch (B u) places p (searching more u)
changed A B places o p store more t v u is vars old lines search in_step order =
    subst (λ (w : TrailValue). IsSearch (B w) places p (searching more w)) (sym is) (record {
      lines = subst (λ (n : ℕ). AreLines n more) (sym vars) lines;
      trail = search;
      in_step = in_step;
      room = subst (λ (n : ℕ). n ≤ places) (sym vars) old.room;
      order = order;
      small = subst (λ (n : ℕ). n < 2 ^ 63) (sym vars) old.small;
    })

max_below : (n m limit : ℕ) → n < limit → m < limit → max n m < limit
max_below n m limit less few = omega (arith, less, few)

max_within : (n m places : ℕ) → m ≤ places → max n m ≤ max n places
max_within n m places room = omega (arith, room)

pub max_more : (n m : ℕ) → m ≤ max n m
max_more n m = omega arith

abbrev pub widened : ℕ → TrailValue → TrailValue
widened n t = record { vars = max n t.vars; steps = t.steps }

-- more variables
pub grown : (A : Type 0) (B : TrailValue → Type 0) (n places more : ℕ) (o p : OrderValue) (store : LineMap) (t u : TrailValue) → u ≡ widened n t → more ≡ max n places → n < 2 ^ 63 → IsSearch A places o (searching store t) → IsSearchTrail store (widened n t) → B (widened n t) → IsOrderFor p (widened n t) → IsSearch (B u) more p (searching store u)
grown A B n places more o p store t u is room small old search in_step order =
    subst (λ (w : TrailValue). IsSearch (B w) more p (searching store w)) (sym is) (record {
      lines = lines_wider t.vars (max n t.vars) store (max_more n t.vars) old.lines;
      trail = search;
      in_step = in_step;
      room = subst (λ (k : ℕ). max n t.vars ≤ k) (sym room) (max_within n t.vars places old.room);
      order = order;
      small = max_below n t.vars (2 ^ 63) small old.small;
    })

abbrev no_steps : TrailValue
no_steps = record { vars = 0; steps = [] }

-- no line and no variable
pub begun : (B : LineMap → TrailValue → Type 0) (places : ℕ) (o : OrderValue) (store : LineMap) (t : TrailValue) → store ≡ empty → t ≡ no_steps → length o.activities ≡ 0 → IsSearchTrail store no_steps → B empty no_steps → IsSearch (B store t) places o (searching store t)
begun B places o store t none is few search in_step =
    subst (λ (w : TrailValue). IsSearch (B store w) places o (searching store w)) (sym is) (record {
      lines = lines_none store none;
      trail = search;
      in_step = subst (λ (m : LineMap). B m no_steps) (sym none) in_step;
      room = omega arith;
      order = record { known = sym few; open_wait = λ var positive within. absurd (omega (arith, positive, within)) };
      small = omega arith;
    })

below_all : (a b c limit : ℕ) → a ≤ b → b ≤ c → c < limit → a < limit
below_all a b c limit low few small = omega (arith, low, few, small)

-- no level is above the number of variables
pub level_small : (A : Type 0) (places : ℕ) (o : OrderValue) (store : LineMap) (t : TrailValue) → IsSearch A places o (searching store t) → last_level t.steps < 2 ^ 63
level_small A places o store t is = below_all (last_level t.steps) (length t.steps) t.vars (2 ^ 63) (last_low store t is.trail) (length_within t.vars t.steps is.trail.steps) is.small
