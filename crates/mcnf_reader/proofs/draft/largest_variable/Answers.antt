use Rattle.std.proofs.Common.{◌<◌, length}
use Rattle.mcnf_reader.proofs.Drafts.{largest_more}
use Rattle.mcnf_reader.proofs.draft.largest_variable.Goals as goal

pub loop-lit-preserved : goal.loop-lit-preserved
loop-lit-preserved c =
    let lits = c.args.lits.now in
    let within : c.loop-lit.lit-index < length lits = rw (← c.as_slice-lit-items.ensures) c.loop-lit-test.true in
    largest_more lits c.loop-lit.lit-index c.lit-item.result c.loop-lit.largest c.max-largest.result within (rw (← c.as_slice-lit-items.ensures) c.lit-item.is) c.loop-lit.invariant (rw (← c.var.ensures.value) c.max-largest.ensures)
