use Rattle.std.proofs.Common.{ℕ, List, [], Bor, get_or, ap, ◌∙◌}
use Rattle.clap.specs.Words.{App, app_of, with_rule}
use Rattle.command_base.specs.CommandWords.{file_rule}
use Rattle.command_base.proofs.FileWords.{files_more}
use Rattle.command_base.proofs.file_words.files_command.Goals as goal

pub loop-place-preserved : goal.loop-place-preserved
loop-place-preserved c =
    let other : Bor (List ℕ) = record { ref_ptr = (0, 0); now = [] } in
    c.in_ok-command.ensures ∙ ap (with_rule (app_of c.loop-place.command)) c.file.ensures.rule
    ∙ ap (λ (app : App). with_rule app (file_rule (get_or c.args.places.now c.loop-place.place-index other).now)) c.loop-place.invariant
    ∙ files_more c.args.name.now c.args.places.now c.loop-place.place-index other c.loop-place-test.true
