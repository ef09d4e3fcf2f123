-- Where the output at the place has another sum, none has it.
use Rattle.std.proofs.Common.{sym, ◌∙◌}
use Rattle.std.proofs.lemmas.Bool.{eq-eqb}
use Rattle.sum_outputs.proofs.AskedLists.{absent_at_place}
use Rattle.sum_outputs.proofs.root.has_sum.Goals as goal

pub returns-then-place-outputs-clause-absent : goal.returns-then-place-outputs-clause-absent
returns-then-place-outputs-clause-absent c = λ test. absent_at_place c.args.outputs.now c.args.sum c.args.place c.index-outputs-place.result c.requires.rising c.requires.place c.if-place-outputs.true (λ same. let tested = eq-eqb _ _ same in let never = sym test ∙ tested in cc)
