use Rattle.std.proofs.Common.{◌≤◌, count_by, length, arith, ap, sym, ◌∙◌, subst, if◌then◌else◌}
use Rattle.std.specs.List.{All}
use Rattle.std.proofs.lemmas.List.Elements.{All-map}
use Rattle.scut_base.specs.Literal.{Literal}
use Rattle.scut_base.specs.Assignment.{lit_true}
use Rattle.pb_lin.specs.Constraint.{term_value}
use Rattle.pb_lin.proofs.AtPlace.{sum_place, sum_place-le, All_place}
use Rattle.pb_lin.proofs.Ones.{sum_ones}
use Rattle.pb_lin.proofs.constraint.Constraint.value.Goals as goal

pub true_count-requires : goal.true_count-requires
true_count-requires c = subst (All {X = Literal} (λ l. l.var ≤ length c.args.a.now)) (sym c.literals.ensures.value) (All-map (λ l. l.var ≤ length c.args.a.now) (λ t. t.0) c.args.self.now.terms c.requires)

pub returns-then-is_cardinality : goal.returns-then-is_cardinality
returns-then-is_cardinality c =
    c.true_count.ensures ∙ ap (count_by (lit_true c.args.a.now)) c.literals.ensures.value
    ∙ sum_ones (λ l n. if lit_true c.args.a.now l then n else 0) c.args.self.now.terms (c.is_cardinality.ensures.0 c.if-is_cardinality.true)

pub term_value-sum-requires : goal.term_value-sum-requires
term_value-sum-requires c = All_place (λ t. t.0.var ≤ length c.args.a.now) c.args.self.now.terms c.loop-at.at c.term.result c.requires c.term.ensures

pub overflow_add-sum : goal.overflow_add-sum
overflow_add-sum c =
    let less = sum_place-le (λ t. t.1) c.args.self.now.terms c.loop-at.at c.term.result c.term.ensures in
    let small = c.len-at-end.ensures.normal.small in
    let bound = c.loop-at.invariant.bound in
    omega (arith, c.term_value-sum.ensures.bound)

pub loop-at-preserved : goal.loop-at-preserved
loop-at-preserved c = record {
  value = let more = sum_place (term_value c.args.a.now) c.args.self.now.terms c.loop-at.at c.term.result c.term.ensures in omega (arith, c.term_value-sum.ensures.value);
  bound = let more = sum_place (λ t. t.1) c.args.self.now.terms c.loop-at.at c.term.result c.term.ensures in omega (arith, c.term_value-sum.ensures.bound);
}
