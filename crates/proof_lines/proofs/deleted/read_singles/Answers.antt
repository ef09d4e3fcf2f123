use Rattle.std.proofs.Common.{refl, sym, ◌∙◌}
use Rattle.std.proofs.lemmas.Bool.{false≢true}
use Rattle.std.proofs.lemmas.Result.{err_from_is_err_and}
use Rattle.proof_lines.proofs.Bodies.{ids_read, ids_undeleted, ids_wrong, ids_unended}
use Rattle.proof_lines.proofs.deleted.read_singles.Goals as goal

pub returns-in_err-ids : goal.returns-in_err-ids
returns-in_err-ids c =
    let p = err_from_is_err_and c.from_residual.result c.from_residual.ensures.1 in
    rw (p.1, p.2) (ids_wrong _ c.args.words.now c.read_ids.new.words c.in_err-ids.ensures)

pub returns-then-not-is_at_end : goal.returns-then-not-is_at_end
returns-then-not-is_at_end c = ids_unended c.args.words.now c.read_ids.new.words c.in_ok-ids.ids c.in_ok-ids.ensures (λ none. absurd (false≢true (c.if-not-is_at_end.ensures.1 none)))

pub returns-then-not-are_deleted : goal.returns-then-not-are_deleted
returns-then-not-are_deleted c = ids_undeleted c.args.words.now c.read_ids.new.words c.in_ok-ids.ids _ c.in_ok-ids.ensures (sym c.as_slice.ensures) (λ are. absurd (false≢true (c.if-not-are_deleted.ensures.1 are)))

pub returns : goal.returns
returns c = ids_read c.args.words.now c.read_ids.new.words c.in_ok-ids.ids _ c.in_ok-ids.ensures (c.if-not-is_at_end.ensures.0 refl) (sym c.as_slice.ensures) (c.if-not-are_deleted.ensures.0 refl)
