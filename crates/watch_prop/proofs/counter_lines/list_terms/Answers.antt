use Rattle.watch_prop.proofs.CounterLists.{AreListed, listed_first, listed_more}
use Rattle.watch_prop.proofs.counter_lines.list_terms.Goals as goal

pub loop-at-init : goal.loop-at-init
loop-at-init c =
    let first = listed_first c.args.lists.now c.args.line.now.terms c.args.slot c.requires in
    record { slots = first.slots; others = first.others; listed = first.listed }

pub loop-at-preserved : goal.loop-at-preserved
loop-at-preserved c =
    let terms = c.args.line.now.terms in
    let old = c.args.lists.now in
    let mid = c.loop-at.lists in
    let at = c.loop-at.at in
    let before : AreListed old mid terms c.args.slot at = record { slots = c.loop-at.invariant.slots; others = c.loop-at.invariant.others; listed = c.loop-at.invariant.listed } in
    let all = listed_more old mid c.push.new.self terms c.args.slot at c.literal_code-code.result c.term-term.result before c.in_ok-push.ensures.others c.in_ok-push.ensures.ok c.term-term.ensures c.literal_code-code.ensures in
    record { slots = all.slots; others = all.others; listed = all.listed }
