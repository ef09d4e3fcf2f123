use Rattle.std.proofs.Common.{ℕ, List, sym, subst}
use Rattle.scut_base.specs.Literal.{Literal}
use Rattle.pb_lin.specs.Constraint.{IsNormal, AreOnes}
use Rattle.pb_lin.proofs.constraint.Constraint.from_terms.Goals as goal

pub invariant_of-result : goal.invariant_of-result
invariant_of-result c = rw (c.in_ok-parts.ensures, c.in_ok-lits.ensures) (record {
  normal = subst (λ (ts : List (Literal × ℕ)). IsNormal ts c.args.degree) (sym c.in_ok-coefs.ensures.value) c.requires;
  short = λ all. c.in_ok-coefs.ensures.short (subst AreOnes c.in_ok-coefs.ensures.value all);
})
