use Rattle.std.proofs.Common.{◌≡◌, ℤ, List, subst, sym, rules}
use Rattle.instance.specs.ParetoFront.{problem_vector, IsProblemVector}
use Rattle.instance.proofs.Dominance.{bounds_kept}
use Rattle.instance.proofs.instance.Instance.problem_vector.Goals as goal

pub returns-clause-bounds : goal.returns-clause-bounds
returns-clause-bounds c =
    let vector : c.from_items.result ≡ problem_vector c.args.self.now c.args.u.now = search rules in
    subst (λ (v : List ℤ). IsProblemVector c.args.self.now v) (sym vector) (bounds_kept c.args.self.now c.args.u.now c.requires)
