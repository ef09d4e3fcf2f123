use Rattle.std.specs.Prelude.{◌≡◌, ◌<◌, ◌⊎◌, ℕ, Bool, List, true, false, length, slice_set}
use Rattle.std.proofs.Common.{sym, ◌∙◌, ap, subst, get_or-set_same, arith}
use Rattle.cdcl_state.specs.Walking.{IsMarkedBefore, IsWalk, is_resolved}
use Rattle.cdcl_state.proofs.Marking.{least_stays, walk_listed, walk_marked, marked_open, marked_late, marked_at, marked_true, place_within, mark_read, beq_is}
use Rattle.cdcl_state.proofs.marks.Marks.mark.Goals as goal
use Rattle.cdcl_state.proofs.marks.Marks.mark.Goals.{then-place-end-via-then-place-end, then-place-end-via-else-place-end+then-index}

pub returns-in_default-clause-marked : goal.returns-in_default-clause-marked
returns-in_default-clause-marked c =
    marked_open c.args.trail.now c.args.self.now.on.items c.args.end c.args.lit c.len-steps.ensures.steps c.in_default.ensures

pub index-requires : goal.index-requires
index-requires c =
    let within = place_within c.args.trail.now c.args.lit.var c.in-Some.place c.in-Some.ensures in
    omega (arith, within, c.requires.walk.all.long, c.args.self.now.on.ok.0)

pub returns-then-place-end-clause-marked : goal.returns-then-place-end-clause-marked
returns-then-place-end-clause-marked c =
    let within = place_within c.args.trail.now c.args.lit.var c.in-Some.place c.in-Some.ensures in
    elim c.then-place-end.branch [
      | then-place-end-via-then-place-end w ↦ marked_late c.args.trail.now c.args.self.now.on.items c.args.end c.args.lit c.len-steps.ensures.steps c.in-Some.place c.in-Some.ensures w.if-place-end.true
      | then-place-end-via-else-place-end+then-index w ↦ marked_at c.args.trail.now c.args.self.now.on.items c.args.end c.args.lit c.len-steps.ensures.steps c.in-Some.place c.in-Some.ensures
          (mark_read c.args.self.now.on.items c.in-Some.place w.index.result.now (omega (arith, within, c.requires.walk.all.long)) w.index.ensures ∙ w.if-index.true)
    ]

pub returns-then-is_neg-clause-marked : goal.returns-then-is_neg-clause-marked
returns-then-is_neg-clause-marked c =
    marked_true c.args.trail.now c.args.self.now.on.items c.args.end c.args.lit c.len-steps.ensures.steps c.in-Some.place c.step_at-step.result c.in-Some.ensures c.step_at-step.ensures.value
    (sym c.is_neg.ensures ∙ beq_is c.is_neg.result c.is_neg-2.result c.if-is_neg.true ∙ c.is_neg-2.ensures)

pub list-requires : goal.list-requires
list-requires c =
    let within = place_within c.args.trail.now c.args.lit.var c.in-Some.place c.in-Some.ensures in
    omega (arith, within, c.requires.walk.all.long, c.requires.walk.all.room)

pub returns-in_err-list-clause-walk : goal.returns-in_err-list-clause-walk
returns-in_err-list-clause-walk c =
    let t = c.args.trail.now in
    let walk = c.requires.walk in
    let seen = c.args.self.now.seen.items in
    let within = place_within t c.args.lit.var c.in-Some.place c.in-Some.ensures in
    let done = c.list.ensures in
    subst (λ (ms : List Bool). IsWalk t c.args.reach ms c.list.new.self.seen.items c.list.new.self.places c.list.new.self.least) (sym done.on)
    (subst (λ (n : ℕ). IsWalk t c.args.reach c.args.self.now.on.items c.list.new.self.seen.items c.list.new.self.places n) (sym done.least)
    (walk_listed t c.args.reach c.args.self.now.on.items seen c.list.new.self.seen.items c.args.self.now.places c.list.new.self.places c.args.self.now.least walk
    (done.are (length t.steps) walk.all.are (omega (arith, walk.all.long, walk.all.room)) within) done.more done.room))

pub index_mut-requires : goal.index_mut-requires
index_mut-requires c =
    let within = place_within c.args.trail.now c.args.lit.var c.in-Some.place c.in-Some.ensures in
    let same = ap (λ (ms : List Bool). length ms) (c.list.ensures).on in
    omega (arith, within, c.requires.walk.all.long, same, c.list.new.self.on.ok.0)

pub returns-clause-walk : goal.returns-clause-walk
returns-clause-walk c =
    let t = c.args.trail.now in
    let walk = c.requires.walk in
    let seen = c.args.self.now.seen.items in
    let within = place_within t c.args.lit.var c.in-Some.place c.in-Some.ensures in
    let done = c.list.ensures in
    subst (λ (ms : List Bool). IsWalk t c.args.reach (slice_set ms c.in-Some.place true) c.list.new.self.seen.items c.list.new.self.places c.lowered-self.result) (sym done.on)
    (walk_marked t c.args.reach c.args.self.now.on.items seen c.list.new.self.seen.items c.args.self.now.places c.list.new.self.places c.args.self.now.least walk
    (done.are (length t.steps) walk.all.are (omega (arith, walk.all.long, walk.all.room)) within) done.more done.room
    c.in-Some.place c.step_at-step.result c.lowered-self.result (c.in_ok-list.ensures).seen c.step_at-step.ensures.value
    (omega (arith, c.lowered-self.ensures.falls, done.least))
    c.lowered-self.ensures.reached
    (subst (λ (n : ℕ). (c.lowered-self.result ≡ n) ⊎ ((c.lowered-self.result ≡ c.in-Some.place) × (is_resolved c.args.reach c.step_at-step.result ≡ true))) done.least c.lowered-self.ensures.one_of))

pub returns-clause-stays : goal.returns-clause-stays
returns-clause-stays c free =
    let before : c.in-Some.place < c.args.end = omega (arith, c.if-place-end.false) in
    least_stays c.args.trail.now c.args.reach c.args.end c.in-Some.place c.args.self.now.least c.lowered-self.result c.step_at-step.result before c.step_at-step.ensures.value
    (subst (λ (n : ℕ). (c.lowered-self.result ≡ n) ⊎ ((c.lowered-self.result ≡ c.in-Some.place) × (is_resolved c.args.reach c.step_at-step.result ≡ true))) (c.list.ensures).least c.lowered-self.ensures.one_of) free

pub returns-clause-marked : goal.returns-clause-marked
returns-clause-marked c =
    let marks = c.args.self.now.on.items in
    let within = place_within c.args.trail.now c.args.lit.var c.in-Some.place c.in-Some.ensures in
    subst (λ (ms : List Bool). IsMarkedBefore c.args.trail.now (slice_set ms c.in-Some.place true) c.args.end c.args.lit) (sym (c.list.ensures).on)
    (marked_at c.args.trail.now (slice_set marks c.in-Some.place true) c.args.end c.args.lit c.len-steps.ensures.steps c.in-Some.place c.in-Some.ensures
    (get_or-set_same marks c.in-Some.place true false (omega (arith, within, c.requires.walk.all.long))))
