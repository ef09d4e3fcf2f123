use Rattle.std.proofs.Common.{◌≡◌, ◌≢◌, ◌∙◌, sym, ap, [], length, pos, to_z, IsTrue, false, arith, rules}
use Rattle.std.specs.Int.{w64}
use Rattle.std.proofs.lemmas.Int.{ints}
use Rattle.scut_base.specs.Literal.{Literal}
use Rattle.pb_lin.specs.Constraint.{opposite}
use Rattle.instance_normal.specs.NormalForm.{Where}
use Rattle.instance_normal.proofs.Distinct.{payment_of_clause, empty_payment, unit_payment, relaxed_payment, literal}
use Rattle.instance_normal.proofs.Relaxations.{offset_added, literal_added}
use Rattle.instance_normal.proofs.soft.relaxation_of.Goals as goal

pub returns-then-is_empty : goal.returns-then-is_empty
returns-then-is_empty c = offset_added c.args.soft.now c.args.var (payment_of_clause c.args.soft.now c.requires.some_weight c.requires.plain ∙ empty_payment c.args.soft.now.lits c.args.distinct c.requires.distinct (c.if-is_empty.ensures.0 (search rules)))

pub returns-then-len-eq1 : goal.returns-then-len-eq1
returns-then-len-eq1 c =
    let one : length c.args.distinct ≡ 1 = omega (arith, c.len.ensures) in
    let lit : c.not-lit.result ≡ opposite c.at.result.now = literal c.not-lit.result (opposite c.at.result.now) c.not-lit.ensures.var c.not-lit.ensures.neg in
    let unit = payment_of_clause c.args.soft.now c.requires.some_weight c.requires.plain ∙ unit_payment c.args.soft.now.lits c.args.distinct c.at.result.now c.requires.distinct one c.at.ensures in
    let coefficient : to_z w64 c.args.soft.now.weight ≡ pos c.args.soft.now.weight = omega (arith, ints) in
    literal_added c.args.soft.now c.args.var _ c.not-lit.result (unit ∙ ap (λ (l : Literal). Where l) (sym lit)) coefficient

pub relaxed-requires-clause-payment : goal.relaxed-requires-clause-payment
relaxed-requires-clause-payment c =
    let some : c.args.distinct ≢ [] = λ none. (let no : IsTrue false = c.if-is_empty.ensures.1 none in search rules) in
    let more : length c.args.distinct ≢ 1 = λ one. omega (arith, c.len.ensures, one) in
    payment_of_clause c.args.soft.now c.requires.some_weight c.requires.plain ∙ relaxed_payment c.args.soft.now.lits c.args.distinct c.requires.distinct some more
