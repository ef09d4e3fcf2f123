use Rattle.std.proofs.Common.{◌<◌, ◌≤◌, List, All, length, sym, subst, true, false, arith, rules}
use Rattle.std.proofs.lemmas.List.Elements.{All-map}
use Rattle.std.proofs.lemmas.Int.{ints}
use Rattle.scut_base.specs.Literal.{Literal}
use Rattle.pb_lin.specs.Constraint.{UpTo}
use Rattle.hint_rup.specs.Negation.{IsNegation, negation_in, true_count}
use Rattle.hint_rup.specs.Propagation.{Propagates}
use Rattle.hint_rup.specs.declared.negated.Negated.{Negated}
use Rattle.hint_rup.proofs.Conflict.{fails}
use Rattle.hint_rup.proofs.Negations.{clause_upto, slack_where_none, slack_where_some}
use Rattle.hint_rup.proofs.negated.propagate_negated.Goals as goal

pub has_true-requires : goal.has_true-requires
has_true-requires c =
    let Within : Literal → Type 0 = λ l. l.var ≤ length c.args.scratch.now in
    let line = c.in-OfClause.clause.now in
    subst (All Within) (sym c.literals.ensures.value) (All-map Within (λ t. t.0) line.terms
    (clause_upto (length c.args.scratch.now) line (subst (λ (n : Negated). UpTo (length c.args.scratch.now) (negation_in n)) c.in-OfClause.is c.requires.within)))

pub returns-then-has_true-clause-propagates : goal.returns-then-has_true-clause-propagates
returns-then-has_true-clause-propagates c =
    let p = c.args.scratch.now in
    let line = c.in-OfClause.clause.now in
    let clause = subst IsNegation c.in-OfClause.is c.requires.negation in
    let some = c.has_true.ensures.0 c.if-has_true.true in
    let conflict = slack_where_some p line clause.0 clause.1 (subst (λ (ls : List Literal). 0 < true_count p ls) c.literals.ensures.value some) in
    subst (λ (n : Negated). Propagates p p (negation_in n) true) (sym c.in-OfClause.is)
    ((λ yes. conflict, λ below. search rules), λ no. absurd (search rules))

pub deny-requires-clause-within : goal.deny-requires-clause-within
deny-requires-clause-within c =
    clause_upto (length c.args.scratch.now) c.in-OfClause.clause.now (subst (λ (n : Negated). UpTo (length c.args.scratch.now) (negation_in n)) c.in-OfClause.is c.requires.within)

pub deny-requires-clause-slack : goal.deny-requires-clause-slack
deny-requires-clause-slack c =
    let p = c.args.scratch.now in
    let line = c.in-OfClause.clause.now in
    let clause = subst IsNegation c.in-OfClause.is c.requires.negation in
    slack_where_none p line clause.0 clause.1
    (λ some. fails c.has_true.result c.has_true.ensures.1 c.if-has_true.false (subst (λ (ls : List Literal). 0 < true_count p ls) (sym c.literals.ensures.value) some))

pub returns-else-has_true-clause-propagates : goal.returns-else-has_true-clause-propagates
returns-else-has_true-clause-propagates c =
    let p = c.args.scratch.now in
    let line = c.in-OfClause.clause.now in
    let clause = subst IsNegation c.in-OfClause.is c.requires.negation in
    let tight = slack_where_none p line clause.0 clause.1
    (λ some. fails c.has_true.result c.has_true.ensures.1 c.if-has_true.false (subst (λ (ls : List Literal). 0 < true_count p ls) (sym c.literals.ensures.value) some)) in
    subst (λ (n : Negated). Propagates p c.deny.new.scratch (negation_in n) false) (sym c.in-OfClause.is)
    ((λ no. absurd (search rules), λ below. absurd (omega (arith, ints))), λ same. c.deny.ensures.forced)
