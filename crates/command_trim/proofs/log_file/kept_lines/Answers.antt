use Rattle.std.proofs.Common.{List, [], subst, sym}
use Rattle.proof_laws.specs.declared.line.Line.{Line}
use Rattle.command_base.specs.Judging.{JudgedBy}
use Rattle.command_trim.specs.Keeping.{HoldsProof, kept_by}
use Rattle.command_trim.proofs.Keeps.{holds_proof}
use Rattle.command_trim.proofs.log_file.kept_lines.Goals as goal

pub take_log-requires-clause-unfinished : goal.take_log-requires-clause-unfinished
take_log-requires-clause-unfinished g c = ([], c.in_ok-keeper.ensures.stands.0)

pub into_lines-requires : goal.into_lines-requires
into_lines-requires g c = let taken = c.in_ok-take_log.ensures.stands in (taken.bytes, taken.stands.0)

pub returns-clause-proof : goal.returns-clause-proof
returns-clause-proof g c =
    let files = (g.H.Shelf.world c.args.shelf.now).files in
    let log = c.args.log.now in
    let e = c.in_ok-take_log.ensures in
    let keeper = c.in_ok-keeper.keeper in
    subst (λ (by : JudgedBy). HoldsProof files log by c.into_lines.result) c.in_ok-keeper.ensures.by
    (subst (λ (lines : List Line). HoldsProof files log (kept_by keeper) lines) (sym c.into_lines.ensures.lines)
    (holds_proof files log c.take_log.new.taker (kept_by keeper) e.stands e.passes))
