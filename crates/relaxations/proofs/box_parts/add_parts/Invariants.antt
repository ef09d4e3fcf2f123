use Rattle.relaxations.specs.Parts.{AddsParts}
use Rattle.relaxations.proofs.box_parts.add_parts.Given as goal

abbrev pub invariant-loop-objective : goal.invariant-loop-objective
invariant-loop-objective l = AddsParts l.fn.boxes.items l.boxes.items l.limits l.costs l.objective
