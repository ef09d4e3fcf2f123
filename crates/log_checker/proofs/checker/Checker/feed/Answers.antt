use Rattle.std.proofs.Common.{◌≡◌, ◌++◌, ◌∙◌, ℕ, List, None, Err, Result, ap, sym, subst}
use Rattle.std.proofs.lemmas.Result.{err_from_is_err_and}
use Rattle.log_checker.specs.Checking.{CheckerValue, StandsFor}
use Rattle.log_checker.specs.Judging.{JudgesLines, earlier}
use Rattle.log_checker.specs.LogFaults.{HasNoWholeFault, IsWholeFault}
use Rattle.log_checker.specs.declared.fault.CheckFault.{CheckFault}
use Rattle.log_checker.specs.declared.fault.CheckFault.TheVariants.{Refused}
use Rattle.log_checker.proofs.Faults.{whole_fault_more}
use Rattle.log_checker.proofs.Answering.{on_ok, nothing_earlier, again_stands, again_whole, noted_stands, judged_fed, lines_have_no_fault}
use Rattle.log_checker.proofs.checker.Checker.feed.Goals as goal

pub returns-in_err-earlier-clause-fed : goal.returns-in_err-earlier-clause-fed
returns-in_err-earlier-clause-fed c = λ kept bytes stands.
    let p = err_from_is_err_and c.from_residual.result c.from_residual.ensures.1 in
    let now : CheckerValue = c.args.self.now in
    again_stands now.refused now.failed now bytes c.args.piece.now c.in_err-earlier.field-0.0 (sym c.in_err-earlier.ensures) (λ e. kept (cc (p.1, p.2, e))) c.requires.unfinished stands

pub returns-in_err-earlier-clause-refused : goal.returns-in_err-earlier-clause-refused
returns-in_err-earlier-clause-refused c = λ k why is bytes stands.
    let p = err_from_is_err_and c.from_residual.result c.from_residual.ensures.1 in
    let now : CheckerValue = c.args.self.now in
    let same : c.in_err-earlier.field-0.0 ≡ Refused k why = cc (p.1, p.2, is) in
    let fault : earlier now.refused now.failed ≡ Err (Refused k why) = sym c.in_err-earlier.ensures ∙ ap (λ (e : CheckFault). Err e) same in
    whole_fault_more now.problem now.vectors bytes c.args.piece.now k why (again_whole now.refused now.failed now bytes k why fault c.requires.unfinished stands)

-- the checker before the piece, field by field
mine : goal.After-note → CheckerValue
mine c = record { problem = c.self.inside.problem; vectors = c.self.inside.vectors; reader = c.self.inside.reader; state = c.self.inside.state; refused = c.self.inside.refused; failed = c.self.inside.failed; finished = c.self.inside.finished }

none_refused : (c : goal.After-note) → c.self.inside.refused ≡ None
none_refused c = ap (λ (d : CheckerValue). d.refused) c.self.view_is ∙ (nothing_earlier c.args.self.now.refused c.args.self.now.failed (sym c.in_ok-earlier.ensures)).0

judged : (c : goal.After-note) (bytes : List ℕ) → StandsFor c.args.self.now bytes → JudgesLines c.self.inside.problem c.self.inside.vectors c.judge_piece-answer.new.reader c.judge_piece-answer.new.state (bytes ++ c.args.piece.now) c.judge_piece-answer.result
unfolding mine
judged c bytes stands = judged_fed (mine c) c.as_slice.result.now c.judge_piece-answer.new.reader c.judge_piece-answer.new.state bytes (bytes ++ c.args.piece.now) c.judge_piece-answer.result c.as_slice.ensures (none_refused c)
    (c.judge_piece-answer.ensures.judged bytes) (subst (λ (d : CheckerValue). StandsFor d bytes) (sym c.self.view_is) stands)

pub returns-clause-fed : goal.returns-clause-fed
returns-clause-fed c = λ kept bytes stands.
    let mid : CheckerValue = record { problem = c.self.inside.problem; vectors = c.self.inside.vectors; reader = c.judge_piece-answer.new.reader; state = c.judge_piece-answer.new.state; refused = c.self.inside.refused; failed = c.self.inside.failed; finished = c.self.inside.finished } in
    noted_stands mid c.note.new.self c.judge_piece-answer.result (bytes ++ c.args.piece.now) c.note.ensures (none_refused c) (ap (λ (d : CheckerValue). d.finished) c.self.view_is ∙ c.requires.unfinished) kept (judged c bytes stands)

pub returns-clause-passed : goal.returns-clause-passed
returns-clause-passed c = on_ok c.judge_piece-answer.result ((bytes : List ℕ) → StandsFor c.args.self.now bytes → HasNoWholeFault c.args.self.now.problem c.args.self.now.vectors (bytes ++ c.args.piece.now)) (λ ok bytes stands.
    let fed : List ℕ = bytes ++ c.args.piece.now in
    let reader = c.judge_piece-answer.new.reader in
    let state = c.judge_piece-answer.new.state in
    subst (λ (d : CheckerValue). HasNoWholeFault d.problem d.vectors fed) c.self.view_is
    (lines_have_no_fault c.self.inside.problem c.self.inside.vectors reader state fed
    (subst (λ (a : Result (Unit {0}) CheckFault). JudgesLines c.self.inside.problem c.self.inside.vectors reader state fed a) ok (judged c bytes stands))))

pub returns-clause-refused : goal.returns-clause-refused
returns-clause-refused c = λ k why is bytes stands.
    let fed : List ℕ = bytes ++ c.args.piece.now in
    subst (λ (d : CheckerValue). IsWholeFault d.problem d.vectors fed k why) c.self.view_is
    (subst (λ (a : Result (Unit {0}) CheckFault). JudgesLines c.self.inside.problem c.self.inside.vectors c.judge_piece-answer.new.reader c.judge_piece-answer.new.state fed a) is (judged c bytes stands))
