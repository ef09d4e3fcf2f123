use Rattle.std.proofs.Common.{◌≡◌, take, true}
use Rattle.std.specs.List.{list_all}
use Rattle.command_solve.specs.TurnDigits.{is_turn}
use Rattle.command_solve.proofs.options.all_turns.Given as goal

abbrev pub invariant-loop-digit : goal.invariant-loop-digit
invariant-loop-digit l = list_all is_turn (take l.digit-index l.digits) ≡ true
