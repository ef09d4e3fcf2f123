use Rattle.std.proofs.lemmas.Bool.{false≢true}
use Rattle.std.proofs.lemmas.Result.{err_from_is_err_and}
use Rattle.proof_lines.proofs.Bodies.{no_cut, cut_wrong, no_rows, rows_wrong, sol_unended}
use Rattle.proof_lines.proofs.body.read_sol.Goals as goal

pub returns-then-not-skip : goal.returns-then-not-skip
returns-then-not-skip c = no_cut c.args.spelling c.requires c.args.words.now c.read_literals.new.words c.in_ok-model.model c.in_ok-model.ensures c.if-not-skip.ensures.1

pub returns-in_err-cut : goal.returns-in_err-cut
returns-in_err-cut c =
    let p = err_from_is_err_and c.from_residual-in_err-cut.result c.from_residual-in_err-cut.ensures.1 in
    rw (p.1, p.2) (cut_wrong c.args.spelling c.requires _ c.args.words.now c.read_literals.new.words c.skip.new.self c.read_rising_literals.new.words c.in_ok-model.model c.in_ok-model.ensures c.if-not-skip.ensures c.in_err-cut.ensures)

pub returns-then-not-skip-2 : goal.returns-then-not-skip-2
returns-then-not-skip-2 c = no_rows c.args.spelling c.requires c.args.words.now c.read_literals.new.words c.skip.new.self c.read_rising_literals.new.words c.in_ok-model.model c.in_ok-cut.cut c.in_ok-model.ensures c.if-not-skip.ensures c.in_ok-cut.ensures c.if-not-skip-2.ensures.1

pub returns-in_err-rows : goal.returns-in_err-rows
returns-in_err-rows c =
    let p = err_from_is_err_and c.from_residual-in_err-rows.result c.from_residual-in_err-rows.ensures.1 in
    rw (p.1, p.2) (rows_wrong c.args.spelling c.requires _ c.args.words.now c.read_literals.new.words c.skip.new.self c.read_rising_literals.new.words c.skip-2.new.self c.read_ids.new.words c.in_ok-model.model c.in_ok-cut.cut c.in_ok-model.ensures c.if-not-skip.ensures c.in_ok-cut.ensures c.if-not-skip-2.ensures c.in_err-rows.ensures)

pub returns-then-not-is_at_end : goal.returns-then-not-is_at_end
returns-then-not-is_at_end c = sol_unended c.args.spelling c.requires c.args.words.now c.read_literals.new.words c.skip.new.self c.read_rising_literals.new.words c.skip-2.new.self c.read_ids.new.words c.in_ok-model.model c.in_ok-cut.cut c.in_ok-rows.rows c.in_ok-model.ensures c.if-not-skip.ensures c.in_ok-cut.ensures c.if-not-skip-2.ensures c.in_ok-rows.ensures (λ none. absurd (false≢true (c.if-not-is_at_end.ensures.1 none)))
