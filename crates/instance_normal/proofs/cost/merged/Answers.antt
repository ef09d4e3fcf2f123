use Rattle.std.proofs.Common.{◌≡◌, ◌≤◌, ℕ, ◌+◌, List, [], ◌∷◌, ◌++◌, take, if◌then◌else◌, sym, ap, ap₂, ◌∙◌, subst, ℤ, pos, ◌+ℤ◌, to_z, of_z, unsigned_abs, arith}
use Rattle.std.specs.Int.{w64}
use Rattle.std.proofs.lemmas.Int.{ints}
use Rattle.std.proofs.lemmas.List.{take_all, take_more}
use Rattle.std.proofs.lemmas.List.Sums.{sum_by_more_le, sum_by_more}
use Rattle.scut_base.specs.Literal.{Literal}
use Rattle.scut_base.specs.Assignment.{value_of}
use Rattle.instance.specs.Shape.{terms_magnitude}
use Rattle.pb_lin.specs.NormalForm.{signed_value, sum_value}
use Rattle.pb_lin.proofs.Sums.{sum_value_more}
use Rattle.instance_normal.specs.NormalForm.{first_seen, with_variable}
use Rattle.instance_normal.specs.Merging.{AreVariables, sums_magnitude, sums_value, variables}
use Rattle.instance_normal.proofs.Merging.{first_seen-push, variables_with}
use Rattle.instance_normal.proofs.cost.merged.Goals as goal

no_variables : AreVariables []
no_variables = record { from_one = λ k d short. absurd (omega arith); below = λ k d short. absurd (omega arith); distinct = λ i j d less short. absurd (omega arith) }

pub loop-term-init : goal.loop-term-init
loop-term-init c =
    let none : c.new-seen.result.keys ≡ [] = c.new-seen.ensures.empty in
    let sums = c.new-sums.ensures.items in
    record {
      keys = ap variables sums ∙ sym none;
      order = none;
      vars = subst AreVariables (sym none) no_variables;
      value = λ a. ap (λ (ss : List (ℕ × ℤ)). sums_value a ss +ℤ pos 0) sums;
      magnitude = subst (λ (ss : List (ℕ × ℤ)). sums_magnitude ss ≤ 0) (sym sums) (omega arith);
      constant = omega arith;
    }

pub on_variable-by-requires : goal.on_variable-by-requires
on_variable-by-requires c =
    let more = sum_by_more_le (λ (t : ℤ × Literal). unsigned_abs t.0) c.args.terms.now c.loop-term.term-index c.term-item.result c.loop-term-test.true in
    let is = ap (λ (t : ℤ × Literal). unsigned_abs t.0) c.term-item.is in
    omega (arith, c.requires)

pub add_term-requires-clause-keys : goal.add_term-requires-clause-keys
add_term-requires-clause-keys c = c.loop-term.invariant.keys

pub add_term-requires-clause-small : goal.add_term-requires-clause-small
add_term-requires-clause-small c =
    let more = sum_by_more_le (λ (t : ℤ × Literal). unsigned_abs t.0) c.args.terms.now c.loop-term.term-index c.term-item.result c.loop-term-test.true in
    let is = ap (λ (t : ℤ × Literal). unsigned_abs t.0) c.term-item.is in
    omega (arith, ints, c.loop-term.invariant.magnitude, c.on_variable-by.ensures.magnitude, c.requires)

pub overflow_add-constant : goal.overflow_add-constant
overflow_add-constant c =
    let more = sum_by_more_le (λ (t : ℤ × Literal). unsigned_abs t.0) c.args.terms.now c.loop-term.term-index c.term-item.result c.loop-term-test.true in
    let is = ap (λ (t : ℤ × Literal). unsigned_abs t.0) c.term-item.is in
    omega (arith, ints, c.loop-term.invariant.constant, c.on_variable-by.ensures.constant, c.requires)

pub loop-term-preserved : goal.loop-term-preserved
loop-term-preserved c =
    let t : ℤ × Literal = c.term-item.result in
    let more = sum_by_more_le (λ (u : ℤ × Literal). unsigned_abs u.0) c.args.terms.now c.loop-term.term-index t c.loop-term-test.true in
    let exact = sum_by_more (λ (u : ℤ × Literal). unsigned_abs u.0) c.args.terms.now c.loop-term.term-index t c.loop-term-test.true in
    let is = ap (λ (u : ℤ × Literal). unsigned_abs u.0) c.term-item.is in
    let longer : take (c.loop-term.term-index + 1) c.args.terms.now ≡ take c.loop-term.term-index c.args.terms.now ++ t ∷ [] = take_more c.args.terms.now c.loop-term.term-index t c.loop-term-test.true ∙ ap (λ (u : ℤ × Literal). take c.loop-term.term-index c.args.terms.now ++ u ∷ []) (sym c.term-item.is) in
    let plain_by : to_z w64 (of_z w64 c.on_variable-by.result.0) ≡ c.on_variable-by.result.0 = omega (arith, ints, c.on_variable-by.ensures.magnitude, c.requires, c.loop-term.invariant.magnitude) in
    let moved : to_z w64 (of_z w64 (to_z w64 c.loop-term.constant-bits +ℤ to_z w64 (of_z w64 c.on_variable-by.result.1))) ≡ to_z w64 c.loop-term.constant-bits +ℤ c.on_variable-by.result.1 = omega (arith, ints, c.loop-term.invariant.constant, c.on_variable-by.ensures.constant, c.requires) in
    record {
      keys = c.in_ok-add_term.ensures.keys;
      order = c.in_ok-add_term.ensures.seen ∙ ap₂ with_variable c.loop-term.invariant.order c.var.ensures.value ∙ sym (first_seen-push (take c.loop-term.term-index c.args.terms.now) t) ∙ ap first_seen (sym longer);
      vars = subst AreVariables (sym c.in_ok-add_term.ensures.seen) (variables_with c.loop-term.seen.keys c.var.result c.loop-term.invariant.vars c.var.ensures.from_one c.var.ensures.below);
      value = λ a.
          let step = c.in_ok-add_term.ensures.value a in
          let choice = ap (λ (z : ℤ). if value_of a c.var.result then z else pos 0) plain_by in
          let at = ap (λ (v : ℕ). if value_of a v then c.on_variable-by.result.0 else pos 0) c.var.ensures.value in
          let before = c.loop-term.invariant.value a in
          let here = c.on_variable-by.ensures.value a in
          let sum = sum_value_more a c.args.terms.now c.loop-term.term-index t c.loop-term-test.true in
          let same = ap (signed_value a) c.term-item.is in
          omega (arith, ints);
      magnitude = omega (arith, ints, c.in_ok-add_term.ensures.magnitude, c.on_variable-by.ensures.magnitude, c.loop-term.invariant.magnitude);
      constant = omega (arith, ints, c.on_variable-by.ensures.constant, c.loop-term.invariant.constant);
    }

pub returns-clause-order : goal.returns-clause-order
returns-clause-order c = c.loop-term.invariant.keys ∙ c.loop-term.invariant.order ∙ ap first_seen (take_all c.loop-term.term-index c.args.terms.now c.loop-term-test.false)

pub returns-clause-variables : goal.returns-clause-variables
returns-clause-variables c = subst AreVariables (sym c.loop-term.invariant.keys) c.loop-term.invariant.vars

pub returns-clause-value : goal.returns-clause-value
returns-clause-value c = λ a. c.loop-term.invariant.value a ∙ ap (sum_value a) (take_all c.loop-term.term-index c.args.terms.now c.loop-term-test.false)

pub returns-clause-magnitude : goal.returns-clause-magnitude
returns-clause-magnitude c = subst (λ (ts : List (ℤ × Literal)). sums_magnitude c.loop-term.sums.items ≤ terms_magnitude ts) (take_all c.loop-term.term-index c.args.terms.now c.loop-term-test.false) c.loop-term.invariant.magnitude

pub returns-clause-constant : goal.returns-clause-constant
returns-clause-constant c = subst (λ (ts : List (ℤ × Literal)). unsigned_abs (to_z w64 c.loop-term.constant-bits) ≤ terms_magnitude ts) (take_all c.loop-term.term-index c.args.terms.now c.loop-term-test.false) c.loop-term.invariant.constant
