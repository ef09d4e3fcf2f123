use Rattle.std.proofs.Common.{ℕ, List, sym, subst}
use Rattle.scut_base.specs.Literal.{Literal}
use Rattle.pb_lin.specs.Constraint.{IsNormal, value}
use Rattle.proof_rules.proofs.Cuts.{bound_normal}
use Rattle.proof_rules.proofs.solution.bound_of.Goals as goal

pub from_terms-requires : goal.from_terms-requires
from_terms-requires c =
    subst (λ (n : ℕ). IsNormal c.deref.result.now n) (sym c.value_of.ensures.value)
    (subst (λ (ts : List (Literal × ℕ)). IsNormal ts (value c.args.a.now c.args.row.now.terms)) (sym c.deref.ensures.value) (bound_normal c.args.a.now c.args.row.now c.in_ok-terms.terms.items c.value_of.ensures.row c.in_ok-terms.ensures.same c.in_ok-terms.ensures.rising))
