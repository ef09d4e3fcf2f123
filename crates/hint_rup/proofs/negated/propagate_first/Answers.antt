use Rattle.std.proofs.Common.{length, sym, subst, false, arith, rules}
use Rattle.std.proofs.lemmas.Int.{ints}
use Rattle.pb_lin.specs.Constraint.{UpTo}
use Rattle.hint_rup.specs.Negation.{IsNegation, negation_in}
use Rattle.hint_rup.specs.Propagation.{Propagates}
use Rattle.hint_rup.specs.declared.negated.Negated.{Negated}
use Rattle.hint_rup.proofs.Negations.{clause_upto, open_slack}
use Rattle.hint_rup.proofs.negated.propagate_first.Goals as goal

pub deny-requires-clause-within : goal.deny-requires-clause-within
deny-requires-clause-within c =
    clause_upto (length c.args.scratch.now) c.in-OfClause.clause.now (subst (λ (n : Negated). UpTo (length c.args.scratch.now) (negation_in n)) c.in-OfClause.is c.requires.within)

pub deny-requires-clause-slack : goal.deny-requires-clause-slack
deny-requires-clause-slack c =
    let line = c.in-OfClause.clause.now in
    let clause = subst IsNegation c.in-OfClause.is c.requires.negation in
    open_slack c.args.scratch.now line clause.0 clause.1 c.requires.cleared

pub returns-in-OfClause-clause-propagates : goal.returns-in-OfClause-clause-propagates
returns-in-OfClause-clause-propagates c =
    let p = c.args.scratch.now in
    let line = c.in-OfClause.clause.now in
    let clause = subst IsNegation c.in-OfClause.is c.requires.negation in
    let tight = open_slack p line clause.0 clause.1 c.requires.cleared in
    subst (λ (n : Negated). Propagates p c.deny.new.scratch (negation_in n) false) (sym c.in-OfClause.is)
    ((λ no. absurd (search rules), λ below. absurd (omega (arith, ints))), λ same. c.deny.ensures.forced)
