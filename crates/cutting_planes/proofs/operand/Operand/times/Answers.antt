use Rattle.std.proofs.Common.{◌≡◌, ℕ, unsigned_abs, rules, sym, subst}
use Rattle.cutting_planes.specs.Rules.{multiplied}
use Rattle.cutting_planes.proofs.Terms.{multiplied-one}
use Rattle.cutting_planes.proofs.operand.Operand.times.Goals as goal

pub returns-then-factor-eq1-clause-value : goal.returns-then-factor-eq1-clause-value
returns-then-factor-eq1-clause-value c =
    let one : 1 ≡ unsigned_abs c.args.factor = search rules in
    subst (λ (k : ℕ). c.args.self ≡ multiplied k c.args.self) one (sym (multiplied-one c.args.self))
