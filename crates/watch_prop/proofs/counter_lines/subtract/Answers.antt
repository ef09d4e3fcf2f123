use Rattle.std.proofs.Common.{◌≡◌, ◌+◌, ◌∙◌, Bool, true, false, get_or, set, arith, sym}
use Rattle.watch_prop.specs.Counting.{IsQuiet, no_occurrence}
use Rattle.watch_prop.proofs.CounterLists.{AreLowered, lowered_first, lowered_fits, lowered_more}
use Rattle.watch_prop.proofs.counter_lines.subtract.Goals as goal
use Rattle.watch_prop.proofs.counter_lines.subtract.Goals.{then-lower, else-lower}

pub loop-entry-init : goal.loop-entry-init
loop-entry-init c = lowered_first c.args.lines.now.items c.args.list.now

pub lower-requires : goal.lower-requires
lower-requires c = λ live.
    let slot = c.requires.slots c.loop-entry.entry-index no_occurrence c.loop-entry-test.true in
    lowered_fits c.loop-entry.lines.items c.args.lines.now.items c.args.list.now c.loop-entry.low c.loop-entry.entry-index c.index_mut.result.now c.loop-entry.invariant c.requires.enough c.loop-entry-test.true (omega (arith, slot, c.loop-entry.invariant.len)) c.index_mut.ensures.value live

pub loop-entry-preserved : goal.loop-entry-preserved
loop-entry-preserved c =
    let old = c.args.lines.now.items in
    let lines = c.loop-entry.lines.items in
    let list = c.args.list.now in
    let k = c.loop-entry.entry-index in
    let slot = c.requires.slots k no_occurrence c.loop-entry-test.true in
    let more : (next : Bool) → (next ≡ false → (c.loop-entry.low ≡ false) × IsQuiet c.lower.new.line) → AreLowered old (set lines (get_or list k no_occurrence).slot c.lower.new.line) list next (k + 1)
    = λ next quiet. lowered_more lines old list c.loop-entry.low next k c.index_mut.result.now c.lower.new.line c.loop-entry.invariant c.loop-entry-test.true (omega (arith, slot, c.loop-entry.invariant.len)) c.index_mut.ensures.value c.lower.ensures.lowered quiet in
    elim c.if-lower.branch [
      | then-lower w ↦ more c.if-lower.low (λ none. absurd (two_truths c.if-lower.low w.low-is none))
      | else-lower w ↦ more c.if-lower.low (λ none. (sym w.low-is ∙ none, c.lower.ensures.quiet w.if-lower.false))
    ]
  where
    two_truths : (b : Bool) → b ≡ true → b ≡ false → ⊥
    two_truths b e f = cc
