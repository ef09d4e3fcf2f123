use Rattle.std.proofs.Common.{true, ◌≡◌, ◌+◌, ◌∙◌, ℕ, Option, List, take, arith, ap, sym, subst, refl}
use Rattle.std.specs.Prelude.{nat_eq}
use Rattle.std.specs.Map.{lookup}
use Rattle.std.specs.FinMap.{remove}
use Rattle.std.proofs.lemmas.List.{take_all}
use Rattle.clause_prop.specs.declared.step.Step.{Step}
use Rattle.watch_prop.specs.declared.counter_lines.CounterLine.{CounterLine}
use Rattle.watch_prop.specs.Counting.{AreKept, IsCounter, possible}
use Rattle.watch_prop.specs.Counted.{AreCounters}
use Rattle.watch_prop.proofs.CounterStored.{kept_live, update_here, update_other}
use Rattle.watch_prop.proofs.CounterLaws.{on_err}
use Rattle.watch_prop.proofs.counters.Counters.take_up.Goals as goal

pub returns-in_err-slot-clause-err : goal.returns-in_err-slot-clause-err
returns-in_err-slot-clause-err c = on_err _ _ (c.new_slot.ensures.in_step (remove c.args.store.now c.args.id) c.args.trail.now c.requires.in_step)

pub returns-in_err-insert-clause-err : goal.returns-in_err-insert-clause-err
unfolding AreCounters
returns-in_err-insert-clause-err c =
    let w = c.new_slot.new.self in
    let store = remove c.args.store.now c.args.id in
    on_err _ _ (subst (λ (es : List (ℕ × ℕ)). AreKept w.lines.items w.lists (λ id. lookup (nat_eq id) es) w.counted w.ends.items w.fresh.items w.done store c.args.trail.now) (sym c.in_err-insert.ensures.err)
    (c.new_slot.ensures.in_step store c.args.trail.now c.requires.in_step))

pub returns-clause-ok : goal.returns-clause-ok
unfolding AreCounters
returns-clause-ok c =
    let w = c.new_slot.new.self in
    let line = c.args.line.now in
    let t = c.args.trail.now in
    let made = c.in_ok-slot.ensures.slot in
    let old : ℕ → Option ℕ = λ q. lookup (nat_eq q) w.slots.entries in
    let new : ℕ → Option ℕ = λ q. lookup (nat_eq q) c.insert.new.self.entries in
    let kept : CounterLine = record { id = c.args.id; live = true; possible = c.possible.result; limit = c.greatest.result + c.degree.result } in
    let whole : take w.counted t.steps ≡ t.steps = take_all w.counted t.steps (omega (arith, c.new_slot.ensures.counted, c.requires.counted)) in
    let counter : IsCounter w.lists t.vars (take w.counted t.steps) c.in_ok-slot.slot kept line = record {
      normal = c.degree.ensures.normal;
      within = c.requires.within;
      occurs = made.occurs;
      sum = c.possible.ensures.value ∙ ap (λ (ss : List Step). possible t.vars ss line.terms) (sym whole);
      limit = λ k d short. (let one = c.greatest.ensures.all k d short in omega (arith, one, c.degree.ensures.value));
      enough = omega (arith, c.degree.ensures.value);
    } in
    kept_live w.lines.items w.lists old new w.counted w.ends.items w.fresh.items w.done c.args.store.now t c.args.id c.in_ok-slot.slot kept line
    made.short made.dead (update_here old new c.args.id _ c.in_ok-insert.ensures.updates.0) (update_other old new c.args.id _ c.in_ok-insert.ensures.updates.0) refl refl c.requires.there c.requires.kind
    counter made.waits
    (c.new_slot.ensures.in_step (remove c.args.store.now c.args.id) t c.requires.in_step)
