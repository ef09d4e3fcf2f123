use Rattle.std.proofs.Common.{◌≡◌, ◌+◌, ◌++◌, ◌∷◌, [], ◌∙◌, List, length, arith, ap, sym, subst, refl}
use Rattle.std.specs.Prelude.{nat_eq}
use Rattle.std.specs.Map.{lookup}
use Rattle.std.proofs.lemmas.List.{get_or_push, length_push}
use Rattle.watch_prop.specs.declared.counter_lines.CounterLine.{CounterLine}
use Rattle.watch_prop.specs.declared.counter_lines.Fresh.{Fresh}
use Rattle.watch_prop.specs.Counting.{AreKept, IsWaiting, line_at, no_fresh, no_line}
use Rattle.watch_prop.specs.Counted.{AreCounters}
use Rattle.watch_prop.proofs.CounterStored.{kept_dead, kept_fresh, kept_lists}
use Rattle.watch_prop.proofs.counters.Counters.new_slot.Goals as goal

pub returns-in_err-push-clause-in_step : goal.returns-in_err-push-clause-in_step
unfolding AreCounters
returns-in_err-push-clause-in_step c = λ store t in_step.
    let w = c.args.self.now in
    subst (λ (ls : List CounterLine). AreKept ls w.lists (λ id. lookup (nat_eq id) w.slots.entries) w.counted w.ends.items w.fresh.items w.done store t) (sym c.in_err-push.ensures.items) in_step

pub returns-in_err-list_terms-clause-in_step : goal.returns-in_err-list_terms-clause-in_step
unfolding AreCounters
returns-in_err-list_terms-clause-in_step c = λ store t in_step.
    let w = c.args.self.now in
    let is : c.push.new.self.items ≡ w.lines.items ++ no_line ∷ [] = c.in_ok-push.ensures.items ∙ ap (λ (l : CounterLine). w.lines.items ++ l ∷ []) c.dead_line.ensures in
    let dead = subst (λ (ls : List CounterLine). AreKept ls w.lists (λ id. lookup (nat_eq id) w.slots.entries) w.counted w.ends.items w.fresh.items w.done store t) (sym is) (kept_dead w.lines.items w.lists (λ id. lookup (nat_eq id) w.slots.entries) w.counted w.ends.items w.fresh.items w.done store t in_step) in
    kept_lists c.push.new.self.items w.lists c.list_terms.new.lists (λ id. lookup (nat_eq id) w.slots.entries) w.counted w.ends.items w.fresh.items w.done store t c.len-slot.result
    (omega (arith, ap length is, length_push w.lines.items no_line, c.len-slot.ensures))
    (ap (λ (ls : List CounterLine). line_at ls c.len-slot.result) is ∙ get_or_push w.lines.items no_line no_line c.len-slot.result (omega (arith, c.len-slot.ensures)))
    c.list_terms.ensures.slots c.list_terms.ensures.others dead

pub returns-in_err-push-2-clause-in_step : goal.returns-in_err-push-2-clause-in_step
unfolding AreCounters
returns-in_err-push-2-clause-in_step c = λ store t in_step.
    let w = c.args.self.now in
    let is : c.push.new.self.items ≡ w.lines.items ++ no_line ∷ [] = c.in_ok-push.ensures.items ∙ ap (λ (l : CounterLine). w.lines.items ++ l ∷ []) c.dead_line.ensures in
    let dead = subst (λ (ls : List CounterLine). AreKept ls w.lists (λ id. lookup (nat_eq id) w.slots.entries) w.counted w.ends.items w.fresh.items w.done store t) (sym is) (kept_dead w.lines.items w.lists (λ id. lookup (nat_eq id) w.slots.entries) w.counted w.ends.items w.fresh.items w.done store t in_step) in
    let listed = kept_lists c.push.new.self.items w.lists c.list_terms.new.lists (λ id. lookup (nat_eq id) w.slots.entries) w.counted w.ends.items w.fresh.items w.done store t c.len-slot.result
    (omega (arith, ap length is, length_push w.lines.items no_line, c.len-slot.ensures))
    (ap (λ (ls : List CounterLine). line_at ls c.len-slot.result) is ∙ get_or_push w.lines.items no_line no_line c.len-slot.result (omega (arith, c.len-slot.ensures)))
    c.list_terms.ensures.slots c.list_terms.ensures.others dead in
    subst (λ (fs : List Fresh). AreKept c.push.new.self.items c.list_terms.new.lists (λ id. lookup (nat_eq id) w.slots.entries) w.counted w.ends.items fs w.done store t) (sym c.in_err-push-2.ensures.items) listed

pub returns-clause-in_step : goal.returns-clause-in_step
unfolding AreCounters
returns-clause-in_step c = λ store t in_step.
    let w = c.args.self.now in
    let is : c.push.new.self.items ≡ w.lines.items ++ no_line ∷ [] = c.in_ok-push.ensures.items ∙ ap (λ (l : CounterLine). w.lines.items ++ l ∷ []) c.dead_line.ensures in
    let long : length c.push.new.self.items ≡ c.len-slot.result + 1 = omega (arith, ap length is, length_push w.lines.items no_line, c.len-slot.ensures) in
    let dead = subst (λ (ls : List CounterLine). AreKept ls w.lists (λ id. lookup (nat_eq id) w.slots.entries) w.counted w.ends.items w.fresh.items w.done store t) (sym is) (kept_dead w.lines.items w.lists (λ id. lookup (nat_eq id) w.slots.entries) w.counted w.ends.items w.fresh.items w.done store t in_step) in
    let listed = kept_lists c.push.new.self.items w.lists c.list_terms.new.lists (λ id. lookup (nat_eq id) w.slots.entries) w.counted w.ends.items w.fresh.items w.done store t c.len-slot.result
    long
    (ap (λ (ls : List CounterLine). line_at ls c.len-slot.result) is ∙ get_or_push w.lines.items no_line no_line c.len-slot.result (omega (arith, c.len-slot.ensures)))
    c.list_terms.ensures.slots c.list_terms.ensures.others dead in
    subst (λ (fs : List Fresh). AreKept c.push.new.self.items c.list_terms.new.lists (λ id. lookup (nat_eq id) w.slots.entries) w.counted w.ends.items fs w.done store t) (sym c.in_ok-push-2.ensures.items)
    (kept_fresh c.push.new.self.items c.list_terms.new.lists (λ id. lookup (nat_eq id) w.slots.entries) w.counted w.ends.items w.fresh.items w.done store t c.len-slot.result (omega (arith, long)) listed)

pub returns-clause-slot : goal.returns-clause-slot
unfolding AreCounters
returns-clause-slot c =
    let w = c.args.self.now in
    let kept = c.requires.2 in
    let begun = kept.begun in
    let is : c.push.new.self.items ≡ w.lines.items ++ no_line ∷ [] = c.in_ok-push.ensures.items ∙ ap (λ (l : CounterLine). w.lines.items ++ l ∷ []) c.dead_line.ensures in
    let put : Fresh = record { slot = c.len-slot.result; end = 0 } in
    record {
      short = omega (arith, ap length is, length_push w.lines.items no_line, c.len-slot.ensures);
      dead = ap (λ (ls : List CounterLine). line_at ls c.len-slot.result) is ∙ get_or_push w.lines.items no_line no_line c.len-slot.result (omega (arith, c.len-slot.ensures));
      occurs = c.in_ok-list_terms.ensures.listed;
      waits = subst (λ (fs : List Fresh). IsWaiting fs w.done c.len-slot.result) (sym c.in_ok-push-2.ensures.items) (record {
        place = length w.fresh.items;
        short = omega (arith, length_push w.fresh.items put);
        is = ap (λ (f : Fresh). f.slot) (get_or_push w.fresh.items put no_fresh (length w.fresh.items) refl);
        late = begun;
      });
    }
