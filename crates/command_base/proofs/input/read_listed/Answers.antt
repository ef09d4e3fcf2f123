use Rattle.command_base.proofs.InputStops.{list_is, list_stop}
use Rattle.command_base.proofs.Answered.{reads_then}
use Rattle.command_base.proofs.input.read_listed.Goals as goal

pub returns-in-Ok-clause-read : goal.returns-in-Ok-clause-read
returns-in-Ok-clause-read g c =
    let w = g.H.Shelf.world in
    list_is (w c.args.shelf.now) (w c.read_input.new.shelf) c.args.format c.args.input.now c.args.list.now c.in-Ok.input c.in-Ok.ensures.only_reads c.in-Ok.ensures.read
    c.with_list.result c.with_list.ensures.input c.with_list.ensures.listed c.with_list.ensures.right c.with_list.ensures.vectors

pub returns-in-Ok-clause-stop : goal.returns-in-Ok-clause-stop
returns-in-Ok-clause-stop g c =
    let w = g.H.Shelf.world in
    list_stop (w c.args.shelf.now) (w c.read_input.new.shelf) c.args.format c.args.input.now c.args.list.now c.in-Ok.input c.in-Ok.ensures.only_reads c.in-Ok.ensures.read
    (w c.with_list.new.shelf).faults c.with_list.result c.with_list.ensures.stop

pub returns-in-Ok-clause-only_reads : goal.returns-in-Ok-clause-only_reads
returns-in-Ok-clause-only_reads g c =
    let w = g.H.Shelf.world in
    reads_then (w c.args.shelf.now) (w c.read_input.new.shelf) (w c.with_list.new.shelf) c.in-Ok.ensures.only_reads c.with_list.ensures.only_reads
