use Rattle.std.proofs.Common.{get_or, false, ◌≡◌, ◌++◌, ◌∷◌, [], ◌∙◌, ℕ, List, length, get_or, arith, ap, sym, subst}
use Rattle.std.specs.Prelude.{nat_eq}
use Rattle.std.specs.Option.{IfNone}
use Rattle.std.specs.Map.{lookup}
use Rattle.std.proofs.lemmas.Option.{slice_get-get_or}
use Rattle.clause_prop.specs.declared.step.Step.{Step}
use Rattle.watch_prop.specs.Counting.{AreKept}
use Rattle.watch_prop.specs.Counted.{AreCounters, IsGoneStep}
use Rattle.watch_prop.proofs.CounterLaws.{counters_extended}
use Rattle.watch_prop.proofs.CounterLooks.{kept_looked}
use Rattle.watch_prop.proofs.counters.Counters.look.Goals as goal

pub count_next-low-requires-clause-in_step : goal.count_next-low-requires-clause-in_step
count_next-low-requires-clause-in_step c = (c.args.store.now, c.requires.in_step)

pub count_next-low-requires-clause-next : goal.count_next-low-requires-clause-next
unfolding AreCounters
count_next-low-requires-clause-next c = let looked = c.requires.in_step.looked in omega (arith, looked, c.len-place.ensures)

pub visit_step-requires-clause-in_step : goal.visit_step-requires-clause-in_step
visit_step-requires-clause-in_step c = c.count_next-low.ensures.in_step c.args.store.now c.requires.in_step

pub returns-in-Some-clause-in_step : goal.returns-in-Some-clause-in_step
unfolding AreCounters
returns-in-Some-clause-in_step c =
    counters_extended c.count_next-low.new.self c.args.store.now c.args.store.now c.args.trail.now c.visit_step.new.trail c.visit_step.ensures.extends (c.count_next-low.ensures.in_step c.args.store.now c.requires.in_step)

pub returns-in_err-end-clause-in_step : goal.returns-in_err-end-clause-in_step
unfolding AreCounters
returns-in_err-end-clause-in_step c =
    counters_extended c.count_next-low.new.self c.args.store.now c.args.store.now c.args.trail.now c.visit_step.new.trail c.visit_step.ensures.extends (c.count_next-low.ensures.in_step c.args.store.now c.requires.in_step)

pub returns-in_err-push-clause-in_step : goal.returns-in_err-push-clause-in_step
unfolding AreCounters
returns-in_err-push-clause-in_step c =
    let w = c.count_next-low.new.self in
    let longer = counters_extended w c.args.store.now c.args.store.now c.args.trail.now c.visit_step.new.trail c.visit_step.ensures.extends (c.count_next-low.ensures.in_step c.args.store.now c.requires.in_step) in
    subst (λ (es : List ℕ). AreKept w.lines.items w.lists (λ id. lookup (nat_eq id) w.slots.entries) w.counted es w.fresh.items w.done c.args.store.now c.visit_step.new.trail) (sym c.in_err-push.ensures.items) longer

pub returns-clause-in_step : goal.returns-clause-in_step
unfolding AreCounters
returns-clause-in_step c =
    let w = c.count_next-low.new.self in
    let store = c.args.store.now in
    let new = c.visit_step.new.trail in
    let longer = counters_extended w store store c.args.trail.now new c.visit_step.ensures.extends (c.count_next-low.ensures.in_step store c.requires.in_step) in
    let place : c.len-place.result ≡ length w.ends.items = omega (arith, c.len-place.ensures, ap length c.count_next-low.ensures.others.ends) in
    let counted = c.count_next-low.ensures.counted in
    let counts = longer.counts in
    let d : Step = record { lit = record { var = 1; neg = false }; level = 0; reason = 0 } in
    let went = subst (λ r. IfNone r (IsGoneStep w store new c.len-place.result)) c.in_default.is c.visit_step.ensures.gone in
    let gone = subst (λ (k : ℕ). IsGoneStep w store new k) place went (get_or new.steps (length w.ends.items) d) (slice_get-get_or new.steps (length w.ends.items) d (omega (arith, counted, counts, place))) in
    let put : c.push.new.self.items ≡ w.ends.items ++ length new.steps ∷ [] = c.in_ok-push.ensures.items ∙ ap (λ (n : ℕ). w.ends.items ++ n ∷ []) (c.in_ok-end.ensures ∙ c.len.ensures.value) in
    subst (λ (es : List ℕ). AreKept w.lines.items w.lists (λ id. lookup (nat_eq id) w.slots.entries) w.counted es w.fresh.items w.done store new) (sym put)
    (kept_looked w.lines.items w.lists (λ id. lookup (nat_eq id) w.slots.entries) w.counted w.ends.items w.fresh.items w.done store new d c.len.ensures.steps (omega (arith, counted, place)) gone longer)
