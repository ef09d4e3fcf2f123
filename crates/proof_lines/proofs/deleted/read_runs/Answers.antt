use Rattle.std.proofs.Common.{ap, refl, sym, ◌∙◌}
use Rattle.std.specs.List.{flat_map}
use Rattle.std.proofs.lemmas.Bool.{false≢true}
use Rattle.std.proofs.lemmas.Result.{err_from_is_err_and}
use Rattle.proof_lines.specs.Ids.{piece_ids, spelled_pieces}
use Rattle.proof_lines.proofs.RunWords.{pieces_unended, pieces_wrong, runs_read, runs_uncut, runs_undeleted}
use Rattle.proof_lines.proofs.deleted.read_runs.Goals as goal

pub returns-in_err-pieces : goal.returns-in_err-pieces
returns-in_err-pieces c =
    let p = err_from_is_err_and c.from_residual.result c.from_residual.ensures.1 in
    rw (p.1, p.2) (pieces_wrong c.args.spelling c.requires _ c.args.words.now c.read_pieces.new.words c.in_err-pieces.ensures)

pub returns-then-not-is_at_end : goal.returns-then-not-is_at_end
returns-then-not-is_at_end c = pieces_unended c.args.spelling c.requires c.args.words.now c.read_pieces.new.words c.in_ok-pieces.pieces c.in_ok-pieces.ensures (λ none. absurd (false≢true (c.if-not-is_at_end.ensures.1 none)))

pub returns-then-not-are_deleted : goal.returns-then-not-are_deleted
returns-then-not-are_deleted c =
    let are = c.in_ok-ids.ensures ∙ ap (flat_map piece_ids) c.as_slice.ensures in
    runs_undeleted c.args.spelling c.requires c.args.words.now c.read_pieces.new.words c.in_ok-pieces.pieces c.in_ok-ids.ids c.as_slice-2.result.now c.in_ok-pieces.ensures are (sym c.as_slice-2.ensures) (λ rise. absurd (false≢true (c.if-not-are_deleted.ensures.1 rise)))

pub returns-then-not-are_same : goal.returns-then-not-are_same
returns-then-not-are_same c =
    let are = c.in_ok-ids.ensures ∙ ap (flat_map piece_ids) c.as_slice.ensures in
    let cut = sym (c.as_slice-4.ensures ∙ c.in_ok-cut.ensures ∙ ap spelled_pieces c.as_slice-3.ensures) in
    runs_uncut c.args.spelling c.requires c.args.words.now c.read_pieces.new.words c.in_ok-pieces.pieces c.in_ok-ids.ids c.in_ok-pieces.ensures are
    (λ same. absurd (false≢true (c.if-not-are_same.ensures.1 (sym cut ∙ same ∙ sym c.as_slice-5.ensures))))

pub returns : goal.returns
returns c =
    let are = c.in_ok-ids.ensures ∙ ap (flat_map piece_ids) c.as_slice.ensures in
    let cut = sym (c.as_slice-4.ensures ∙ c.in_ok-cut.ensures ∙ ap spelled_pieces c.as_slice-3.ensures) in
    runs_read c.args.spelling c.requires c.args.words.now c.read_pieces.new.words c.in_ok-pieces.pieces c.in_ok-ids.ids c.as_slice-2.result.now c.in_ok-pieces.ensures (c.if-not-is_at_end.ensures.0 refl) are (sym c.as_slice-2.ensures)
    (c.if-not-are_deleted.ensures.0 refl) (cut ∙ c.if-not-are_same.ensures.0 refl ∙ c.as_slice-5.ensures)
