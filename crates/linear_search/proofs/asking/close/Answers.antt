use Rattle.std.proofs.Common.{◌≡◌, List, Ok, ap, map, subst, ◌∙◌}
use Rattle.std.specs.Prelude.{IfOk, IfSome}
use Rattle.scut_base.specs.Literal.{Literal}
use Rattle.pb_lin.specs.Constraint.{opposite}
use Rattle.linear_search.proofs.Closings.{closed_now}
use Rattle.linear_search.proofs.asking.close.Goals as goal

pub returns-in-Some-2-clause-reply : goal.returns-in-Some-2-clause-reply
returns-in-Some-2-clause-reply g c =
    let b = let R = g.R.Recorder in R.seen c.write_tree.new.rec in
    closed_now b c.args.assumed.now c.in_ok-line.field-0 c.in-Some.line c.in-Some.is c.in_ok-line.ensures.line
    c.core_of.result c.in-Some-2.core (c.in_ok-core.ensures.ok ∙ ap (λ o. Ok o) c.in-Some-2.is)
    c.core_of.ensures.id (subst (λ (ls : List Literal). IfOk c.core_of.result (λ q. IfSome q (λ k. k.lits ≡ map opposite ls))) c.literals.ensures.value c.core_of.ensures.opposites)
    c.core_of.ensures.among
