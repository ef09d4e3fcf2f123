use Rattle.std.proofs.Common.{◌≡◌, length}
use Rattle.command_front.specs.Enumeration.{StandsForModels}
use Rattle.command_front.proofs.enumeration.minimal_models.Given as goal

abbrev pub invariant-loop-number : goal.invariant-loop-number
invariant-loop-number l = record {
  variables : length l.a ≡ l.inst.vars;
  stands : StandsForModels l.inst l.front l.number;
}
