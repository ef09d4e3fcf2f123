use Rattle.std.proofs.Common.{◌≤◌, List, sum_by, arith, ap, sym, ◌∙◌, subst}
use Rattle.std.specs.List.{All}
use Rattle.std.proofs.lemmas.List.Elements.{All-map}
use Rattle.scut_base.specs.Literal.{Literal}
use Rattle.scut_base.specs.Assignment.{partial_truth}
use Rattle.pb_lin.specs.Constraint.{possible_value, unless_false}
use Rattle.pb_lin.proofs.AtPlace.{sum_place, sum_place-le, All_place}
use Rattle.pb_lin.proofs.Ones.{sum_ones}
use Rattle.clause_prop.specs.Steps.{partial}
use Rattle.clause_prop.proofs.line.possible.Goals as goal

pub possible_count-requires : goal.possible_count-requires
possible_count-requires c =
    let vars = c.args.trail.now.vars in
    subst (λ (ls : List Literal). All (λ l. l.var ≤ vars) ls) (sym c.literals.ensures.value) (All-map (λ l. l.var ≤ vars) (λ t. t.0) c.args.line.now.terms c.requires)

pub returns-then-is_cardinality-clause-value : goal.returns-then-is_cardinality-clause-value
returns-then-is_cardinality-clause-value c =
    let p = partial c.args.trail.now in
    c.possible_count.ensures.value ∙ ap (λ (ls : List Literal). sum_by (λ l. unless_false (partial_truth p l) 1) ls) c.literals.ensures.value
    ∙ sum_ones (λ l n. unless_false (partial_truth p l) n) c.args.line.now.terms (c.is_cardinality.ensures.0 c.if-is_cardinality.true)

pub possible_value-sum-requires : goal.possible_value-sum-requires
possible_value-sum-requires c = All_place (λ t. t.0.var ≤ c.args.trail.now.vars) c.args.line.now.terms c.loop-at.at c.term.result c.requires c.term.ensures

pub overflow_add-sum : goal.overflow_add-sum
overflow_add-sum c =
    let less = sum_place-le (λ t. t.1) c.args.line.now.terms c.loop-at.at c.term.result c.term.ensures in
    let small = c.len-at-end.ensures.normal.small in
    let bound = c.loop-at.invariant.bound in
    omega (arith, c.possible_value-sum.ensures.bound)

pub loop-at-preserved : goal.loop-at-preserved
loop-at-preserved c = record {
  value = let more = sum_place (possible_value (partial c.args.trail.now)) c.args.line.now.terms c.loop-at.at c.term.result c.term.ensures in omega (arith, c.possible_value-sum.ensures.value);
  bound = let more = sum_place (λ t. t.1) c.args.line.now.terms c.loop-at.at c.term.result c.term.ensures in omega (arith, c.possible_value-sum.ensures.bound);
}
