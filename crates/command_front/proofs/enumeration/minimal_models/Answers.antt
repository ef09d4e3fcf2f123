use Rattle.std.proofs.Common.{◌∙◌, ap, length}
use Rattle.command_front.specs.Enumeration.{assignment_of}
use Rattle.command_front.proofs.Numbered.{length-assignment_of}
use Rattle.command_front.proofs.enumeration.minimal_models.Goals as goal

pub take_model-requires : goal.take_model-requires
take_model-requires c = ap length c.write_number.ensures ∙ length-assignment_of _ _ ∙ c.loop-number.invariant.variables

pub loop-number-preserved : goal.loop-number-preserved
loop-number-preserved c = record {
  variables = ap length c.write_number.ensures ∙ length-assignment_of _ _ ∙ c.loop-number.invariant.variables;
  stands = c.in_ok-take_model.ensures c.loop-number.number (c.write_number.ensures ∙ ap (λ n. assignment_of n c.loop-number.number) c.loop-number.invariant.variables) c.loop-number.invariant.stands;
}
