use Rattle.std.proofs.Common.{◌+◌, nat_lt, length, sym, subst, ◌∙◌}
use Rattle.pb_lin.specs.Constraint.{ConstraintValue, UpTo, value}
use Rattle.proof_rules.proofs.Searches.{place_here, place_later, place_nowhere}
use Rattle.proof_rules.proofs.Models.{row_broken, row_holds}
use Rattle.proof_rules.proofs.solution.broken_row.Goals as goal

pub holds-requires : goal.holds-requires
holds-requires c = subst (UpTo (length c.args.a.now)) (sym c.index-rows-at.is) (c.requires c.loop-at.at c.index-rows-at.result c.loop-at-test.true)

pub loop-at-preserved : goal.loop-at-preserved
loop-at-preserved c =
    c.loop-at.invariant
    ∙ place_later (λ (d : ConstraintValue). nat_lt (value c.args.a.now d.terms) d.degree) (c.loop-at.at + 1) c.args.rows.now c.loop-at.at c.index-rows-at.result c.index-rows-at.result c.loop-at-test.true c.index-rows-at.is (row_holds c.args.a.now c.index-rows-at.result c.holds.result c.holds.ensures c.if-not-holds.false)

pub returns-then-not-holds : goal.returns-then-not-holds
returns-then-not-holds c =
    sym
    (c.loop-at.invariant
    ∙ place_here (λ (d : ConstraintValue). nat_lt (value c.args.a.now d.terms) d.degree) (c.loop-at.at + 1) c.args.rows.now c.loop-at.at c.index-rows-at.result c.index-rows-at.result c.loop-at-test.true c.index-rows-at.is (row_broken c.args.a.now c.index-rows-at.result c.holds.result c.holds.ensures c.if-not-holds.true))

pub returns : goal.returns
returns c = sym (c.loop-at.invariant ∙ place_nowhere (λ (d : ConstraintValue). nat_lt (value c.args.a.now d.terms) d.degree) (c.loop-at.at + 1) c.args.rows.now c.loop-at.at c.loop-at-test.false)
