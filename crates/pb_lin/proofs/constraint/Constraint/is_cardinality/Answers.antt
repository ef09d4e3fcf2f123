use Rattle.pb_lin.proofs.Terms.{ones_where_none}
use Rattle.pb_lin.proofs.constraint.Constraint.is_cardinality.Goals as goal

pub returns : goal.returns
returns c = rw (← c.self.view_is) (
  (λ e. ones_where_none c.self.inside.parts.lits c.self.inside.parts.coefs (c.is_ones.ensures.0 e)),
  (λ all. c.is_ones.ensures.1 (c.self.invariant.short all)),
)
