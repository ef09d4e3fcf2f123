use Rattle.std.proofs.Common.{◌<◌, List, sym, ap, ◌∙◌, subst}
use Rattle.std.specs.Prelude.{AllPairs}
use Rattle.scut_base.specs.Literal.{Literal}
use Rattle.representatives.specs.Bounded.{false_literals}
use Rattle.representatives.proofs.Blocking.{literals_rising}
use Rattle.representatives.proofs.bounded.blocking.Goals as goal

pub clause-requires : goal.clause-requires
clause-requires c = subst (λ (ls : List Literal). AllPairs (λ l m. l.var < m.var) ls) (sym (c.in_ok-false_literals.ensures ∙ ap (false_literals 1) c.as_slice.ensures)) (literals_rising 1 c.args.model.now)
