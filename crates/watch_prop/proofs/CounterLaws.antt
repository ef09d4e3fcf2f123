-- The same of the counters themselves.
use Rattle.std.proofs.Common.{Option, None, true, ◌-◌, ⊎_elim, length-append, ◌≡◌, ℕ, ◌<◌, ◌≤◌, Some, List, [], ◌∷◌, ◌++◌, length, get_or, refl, arith, ap, ◌∙◌}
use Rattle.std.specs.Prelude.{slice_get, nat_eq, IfNone, OnErr, Result, Ok, Err}
use Rattle.std.specs.Map.{lookup}
use Rattle.std.proofs.lemmas.List.{get_or_append_left}
use Rattle.std.proofs.lemmas.Option.{slice_get_within, get_or_from_slice_get, slice_get-get_or}
use Rattle.pb_lin.specs.LineMap.{LineMap}
use Rattle.clause_prop.specs.Steps.{AreSteps, TrailValue, cut, with_step}
use Rattle.clause_prop.specs.Propagating.{Extends}
use Rattle.clause_prop.specs.LineKinds.{IsClosedForCounted, is_watched}
use Rattle.watch_prop.specs.Counting.{IsOver, fresh_at, line_at}
use Rattle.watch_prop.specs.Counted.{AreCounters}
use Rattle.watch_prop.specs.declared.counters.Counters.{Counters}
use Rattle.clause_prop.specs.declared.step.Step.{Step}
use Rattle.std.specs.FinMap.{get, remove}
use Rattle.std.proofs.lemmas.Bool.{cases_lt}
use Rattle.pb_lin.specs.Constraint.{ConstraintValue}
use Rattle.watch_prop.proofs.CounterKeeps.{kept_cut, kept_longer, kept_unwatched, kept_watched}
use Rattle.watch_prop.proofs.CounterChanges.{kept_over, kept_vars}
use Rattle.watch_prop.proofs.CounterLooks.{kept_closed}

pub counters_extended : (w : Counters) (store lines : LineMap) (t u : TrailValue) → Extends lines t u → AreCounters w store t → AreCounters w store u
unfolding AreCounters
counters_extended w store lines t u more in_step = kept_longer w.lines.items w.lists (λ id. lookup (nat_eq id) w.slots.entries) w.counted w.ends.items w.fresh.items w.done store t u more.more more.vars more.is in_step

pub counters_longer : (w : Counters) (store : LineMap) (t : TrailValue) (s : Step) → AreCounters w store t → AreCounters w store (with_step t s)
unfolding AreCounters
counters_longer w store t s in_step = kept_longer w.lines.items w.lists (λ id. lookup (nat_eq id) w.slots.entries) w.counted w.ends.items w.fresh.items w.done store t (with_step t s) (s ∷ []) refl refl in_step

pub counters_over : (w : Counters) (store : LineMap) (t : TrailValue) → AreSteps t.vars t.steps → AreCounters w store t → (j : ℕ) → IsOver store t (line_at w.lines.items j)
unfolding AreCounters
counters_over w store t are in_step = kept_over w.lines.items w.lists (λ id. lookup (nat_eq id) w.slots.entries) w.counted w.ends.items w.fresh.items w.done store t are in_step

pub counters_closed : (w : Counters) (store : LineMap) (t : TrailValue) → w.done ≡ length w.fresh.items → length t.steps ≤ length w.ends.items → AreCounters w store t → IsClosedForCounted store t
unfolding AreCounters
counters_closed w store t done all in_step = kept_closed w.lines.items w.lists (λ id. lookup (nat_eq id) w.slots.entries) w.counted w.ends.items w.fresh.items w.done store t done all in_step

-- a step stays at its place
pub step_extended : (lines : LineMap) (t u : TrailValue) (k : ℕ) (s : Step) → Extends lines t u → slice_get t.steps k ≡ Some s → slice_get u.steps k ≡ Some s
step_extended lines t u k s more found =
    let short : k < length t.steps = slice_get_within t.steps k s found in
    ap (λ (ss : List Step). slice_get ss k) more.is
    ∙ slice_get-get_or (t.steps ++ more.more) k s (longer short)
    ∙ ap (λ (r : Step). Some r) (get_or_append_left t.steps more.more s k short ∙ get_or_from_slice_get t.steps k s s found)
  where
    longer : k < length t.steps → k < length (t.steps ++ more.more)
    longer short = omega (arith, short, length-append t.steps more.more)

pub counters_vars : (w : Counters) (store : LineMap) (t : TrailValue) (n : ℕ) → t.vars ≤ n → AreCounters w store t → AreCounters w store (record { vars = n; steps = t.steps })
unfolding AreCounters
counters_vars w store t n le in_step = kept_vars w.lines.items w.lists (λ id. lookup (nat_eq id) w.slots.entries) w.counted w.ends.items w.fresh.items w.done store t n le in_step

pub counters_watched : (w : Counters) (store : LineMap) (t : TrailValue) (id : ℕ) (c : ConstraintValue) → get store id ≡ Some c → is_watched c ≡ true → AreCounters w (remove store id) t → AreCounters w store t
unfolding AreCounters
counters_watched w store t id c there watched in_step = kept_watched w.lines.items w.lists (λ id. lookup (nat_eq id) w.slots.entries) w.counted w.ends.items w.fresh.items w.done store t id c there watched in_step

-- only the steps that are kept were looked at
pub ends_short : (w : Counters) (store : LineMap) (t : TrailValue) (keep : ℕ) → ((k : ℕ) → k < length w.ends.items → get_or w.ends.items k 0 ≤ keep) → AreCounters w store t → length w.ends.items ≤ keep
unfolding AreCounters
ends_short w store t keep within in_step = ⊎_elim
    (λ (none : length w.ends.items < 1). omega (arith, none))
    (λ (some : 1 ≤ length w.ends.items).
    let last : length w.ends.items - 1 < length w.ends.items = omega (arith, some) in
    let low = (in_step.within (length w.ends.items - 1) last).0 in
    let high = within (length w.ends.items - 1) last in
    omega (arith, low, high, some))
    (cases_lt (length w.ends.items) 1)

pub counters_cut : (w : Counters) (store : LineMap) (t : TrailValue) (keep : ℕ) → keep ≤ length t.steps → w.counted ≤ keep → ((k : ℕ) → k < length w.ends.items → get_or w.ends.items k 0 ≤ keep) → ((k : ℕ) → k < w.done → (fresh_at w.fresh.items k).end ≤ keep)
    → AreCounters w store t → AreCounters w store (cut t keep)
unfolding AreCounters
counters_cut w store t keep short counts within late in_step = kept_cut w.lines.items w.lists (λ id. lookup (nat_eq id) w.slots.entries) w.counted w.ends.items w.fresh.items w.done store t keep short counts within late in_step

-- what holds anyway holds after an error
pub on_err : {T E : Type 0} (r : Result T E) (P : Type 0) → P → OnErr r P
on_err (Ok x) P p = tt
on_err (Err e) P p = p

pub some_same : {X : Type 0} (a b : X) (o : Option X) → o ≡ Some a → o ≡ Some b → a ≡ b
some_same a b o e f = cc

pub if_none : {X : Type 0} (o : Option X) (P : Type 0) → (o ≡ None → P) → IfNone o P
if_none None P holds = holds refl
if_none (Some x) P holds = tt

pub counters_unwatched : (w : Counters) (store : LineMap) (t : TrailValue) (id : ℕ) (c : ConstraintValue) → get store id ≡ Some c → is_watched c ≡ true → AreCounters w store t → AreCounters w (remove store id) t
unfolding AreCounters
counters_unwatched w store t id c there watched in_step = kept_unwatched w.lines.items w.lists (λ id. lookup (nat_eq id) w.slots.entries) w.counted w.ends.items w.fresh.items w.done store t id c there watched in_step
