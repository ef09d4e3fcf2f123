use Rattle.std.proofs.Common.{◌≡◌, ◌<◌, ◌≤◌, List, [], ◌∷◌, length, All, arith, sym, subst, ◌∙◌, rules}
use Rattle.std.proofs.lemmas.List.Elements.{All-map}
use Rattle.scut_base.specs.Literal.{Literal}
use Rattle.hint_rup.specs.ClauseFate.{IsFate, possible_count, open_literals}
use Rattle.hint_rup.specs.declared.propagation.Fate.TheVariants.{Quiet}
use Rattle.hint_rup.proofs.ClauseFates.{falsified_conflicts, possible_agrees, unit_forces, quiet_forces_none, sole_is_open, sole_is_within}
use Rattle.hint_rup.proofs.propagation.propagate_clause.Goals as goal

pub clause_fate-requires : goal.clause_fate-requires
clause_fate-requires c =
    let Within : Literal → Type 0 = λ l. l.var ≤ length c.args.scratch.now in
    subst (All Within) (sym c.literals.ensures.value) (All-map Within (λ t. t.0) c.args.line.now.terms c.requires.within)

pub set-requires-clause-within : goal.set-requires-clause-within
set-requires-clause-within c =
    let Within : Literal → Type 0 = λ l. l.var ≤ length c.args.scratch.now in
    let within = subst (All Within) (sym c.literals.ensures.value) (All-map Within (λ t. t.0) c.args.line.now.terms c.requires.within) in
    sole_is_within c.args.scratch.now c.literals.result.now c.in-Unit.lit within c.in-Unit.ensures.1

pub set-requires-clause-open : goal.set-requires-clause-open
set-requires-clause-open c = sole_is_open c.args.scratch.now c.literals.result.now c.in-Unit.lit c.in-Unit.ensures.1

pub returns-in-Falsified-clause-conflict : goal.returns-in-Falsified-clause-conflict
returns-in-Falsified-clause-conflict c =
    let p = c.args.scratch.now in
    let none = subst (λ (ls : List Literal). possible_count p ls ≡ 0) c.literals.ensures.value c.in-Falsified.ensures in
    ((λ yes. falsified_conflicts p c.args.line.now c.requires.ones c.requires.degree none), (λ below. search rules))

pub returns-in-Unit-clause-conflict : goal.returns-in-Unit-clause-conflict
returns-in-Unit-clause-conflict c =
    let p = c.args.scratch.now in
    let one = subst (λ (ls : List Literal). possible_count p ls ≡ 1) c.literals.ensures.value c.in-Unit.ensures.0 in
    ((λ no. search rules), (λ below. absurd (possible_agrees p c.args.line.now c.requires.ones c.requires.degree (omega (arith, one)) below)))

pub returns-in-Unit-clause-forced : goal.returns-in-Unit-clause-forced
returns-in-Unit-clause-forced c = λ same.
    let p = c.args.scratch.now in
    let one = subst (λ (ls : List Literal). possible_count p ls ≡ 1) c.literals.ensures.value c.in-Unit.ensures.0 in
    let sole = subst (λ (ls : List Literal). open_literals p ls ≡ c.in-Unit.lit ∷ []) c.literals.ensures.value c.in-Unit.ensures.1 in
    c.set.ensures ∙ unit_forces p c.args.line.now c.in-Unit.lit c.requires.ones c.requires.degree one sole

pub returns-in-Quiet-clause-conflict : goal.returns-in-Quiet-clause-conflict
returns-in-Quiet-clause-conflict c =
    let p = c.args.scratch.now in
    let some = subst (λ (ls : List Literal). 0 < possible_count p ls) c.literals.ensures.value c.in-Quiet.ensures.0 in
    ((λ no. search rules), (λ below. absurd (possible_agrees p c.args.line.now c.requires.ones c.requires.degree some below)))

pub returns-in-Quiet-clause-forced : goal.returns-in-Quiet-clause-forced
returns-in-Quiet-clause-forced c = λ same.
    quiet_forces_none c.args.scratch.now c.args.line.now c.requires.ones c.requires.degree
    (subst (λ (ls : List Literal). IsFate c.args.scratch.now ls Quiet) c.literals.ensures.value c.in-Quiet.ensures)
