use Rattle.std.proofs.Common.{[], ◌∷◌, rules, sym, subst, ℤ}
use Rattle.std.proofs.lemmas.Int.{to_z-of_z}
use mir.Syntax.{w128}
use mir.Val.{SFits}
use Rattle.pb_lin.specs.Given.{Given, given_of}
use Rattle.cutting_planes.specs.Applied.{IsApplied}
use Rattle.cutting_planes.specs.declared.token.PolToken.{PolToken}
use Rattle.cutting_planes.specs.declared.token.PolToken.TheVariants.{Mul, Div, Weaken}
use Rattle.cutting_planes.specs.Runs.{IsRunApplied}
use Rattle.cutting_planes.proofs.Runs.{run_of_one}
use Rattle.cutting_planes.proofs.steps.apply.Goals as goal

pub returns-in-Axiom : goal.returns-in-Axiom
returns-in-Axiom c =
    let given : Given = given_of c.args.lines.now c.args.negated c.args.denied in
    subst (λ (t : PolToken). IsApplied given t c.args.stack.now c.push_axiom.new.stack c.push_axiom.result) (sym c.in-Axiom.is) (c.push_axiom.ensures given)

pub returns-in-Add : goal.returns-in-Add
returns-in-Add c =
    let given : Given = given_of c.args.lines.now c.args.negated c.args.denied in
    subst (λ (t : PolToken). IsApplied given t c.args.stack.now c.add.new.stack c.add.result) (sym c.in-Add.is) (c.add.ensures given)

pub returns-in-Mul : goal.returns-in-Mul
returns-in-Mul c =
    let given : Given = given_of c.args.lines.now c.args.negated c.args.denied in
    let fits : SFits w128 c.in-Mul.factor = search rules in
    subst (λ (t : PolToken). IsApplied given t c.args.stack.now c.multiply.new.stack c.multiply.result) (sym c.in-Mul.is)
    (subst (λ (k : ℤ). IsApplied given (Mul k) c.args.stack.now c.multiply.new.stack c.multiply.result) (to_z-of_z w128 c.in-Mul.factor fits) (c.multiply.ensures given))

pub returns-in-Div : goal.returns-in-Div
returns-in-Div c =
    let given : Given = given_of c.args.lines.now c.args.negated c.args.denied in
    let fits : SFits w128 c.in-Div.divisor = search rules in
    subst (λ (t : PolToken). IsApplied given t c.args.stack.now c.divide.new.stack c.divide.result) (sym c.in-Div.is)
    (subst (λ (k : ℤ). IsApplied given (Div k) c.args.stack.now c.divide.new.stack c.divide.result) (to_z-of_z w128 c.in-Div.divisor fits) (c.divide.ensures given))

pub returns-in-Saturate : goal.returns-in-Saturate
returns-in-Saturate c =
    let given : Given = given_of c.args.lines.now c.args.negated c.args.denied in
    subst (λ (t : PolToken). IsApplied given t c.args.stack.now c.saturate.new.stack c.saturate.result) (sym c.in-Saturate.is) (c.saturate.ensures given)

pub returns-in-Weaken : goal.returns-in-Weaken
returns-in-Weaken c =
    let given : Given = given_of c.args.lines.now c.args.negated c.args.denied in
    let run : IsRunApplied (Weaken c.in-Weaken.field-0 ∷ []) c.args.stack.now c.weaken.new.stack c.weaken.result = subst (λ (t : PolToken). IsRunApplied (t ∷ []) c.args.stack.now c.weaken.new.stack c.weaken.result) c.in-Weaken.is c.weaken.ensures in
    subst (λ (t : PolToken). IsApplied given t c.args.stack.now c.weaken.new.stack c.weaken.result) (sym c.in-Weaken.is)
    (run_of_one given c.in-Weaken.field-0 c.args.stack.now c.weaken.new.stack c.weaken.result run)
