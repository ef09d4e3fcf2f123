use Rattle.std.proofs.Common.{◌≡◌, ℕ, ◌+◌, ◌<◌, List, if◌then◌else◌, arith, ap, subst, sym, ◌∙◌, take, pos, ◌+ℤ◌, ◌-ℤ◌}
use Rattle.std.specs.List.{All}
use Rattle.std.proofs.lemmas.Int.{ints}
use Rattle.std.proofs.lemmas.List.{take_all}
use Rattle.std.proofs.lemmas.List.Sums.{sum_by_more, sum_by-take-le}
use Rattle.scut_base.specs.Literal.{Literal}
use Rattle.pb_lin.specs.Constraint.{TermsUpTo, term_value, total, value}
use Rattle.pb_lin.specs.NormalForm.{sum_value}
use Rattle.pb_lin.specs.Substitution.{true_under, value_under}
use Rattle.proof_rules.proofs.goals.push_fall.Goals as goal

pub overflow_add-met : goal.overflow_add-met
overflow_add-met c =
    let given = c.terms-given.result.now in
    let more = sum_by_more (λ (t : Literal × ℕ). t.1) given c.loop-term.term-index c.term-item.result c.loop-term-test.true in
    let here = ap (λ (t : Literal × ℕ). t.1) c.term-item.is in
    let most = sum_by-take-le (λ (t : Literal × ℕ). t.1) given (c.loop-term.term-index + 1) in
    let whole = ap total c.terms-given.ensures.value in
    let small = c.terms-given.ensures.row.small in
    let old = c.loop-term.invariant.met in
    let new = c.in_ok-met.ensures.met in
    omega arith

pub loop-term-preserved : goal.loop-term-preserved
loop-term-preserved c =
    let given = c.terms-given.result.now in
    let i = c.loop-term.term-index in
    let term = c.term-item.result in
    let short = c.loop-term-test.true in
    let more = sum_by_more (λ (t : Literal × ℕ). t.1) given i term short in
    let here = ap (λ (t : Literal × ℕ). t.1) c.term-item.is in
    record {
      value = λ a.
          let values = sum_by_more (term_value a) given i term short in
          let value_here = ap (term_value a) c.term-item.is in
          let under = sum_by_more (λ (t : Literal × ℕ). if true_under c.args.w.now a t.0 then t.1 else 0) given i term short in
          let under_here = ap (λ (t : Literal × ℕ). if true_under c.args.w.now a t.0 then t.1 else 0) c.term-item.is in
          let old = c.loop-term.invariant.value a in
          let new = c.in_ok-met.ensures.value a in
          omega (arith, ints);
      met = let old = c.loop-term.invariant.met in let new = c.in_ok-met.ensures.met in omega arith;
      small = let old = c.loop-term.invariant.small in let new = c.in_ok-met.ensures.small in omega arith;
      variables = λ n upto images old.
          let variable_here = ap (λ (t : Literal × ℕ). t.0.var) c.term-item.is in
          let from_one = subst (All (λ (t : Literal × ℕ). 0 < t.0.var)) (sym c.terms-given.ensures.value) c.terms-given.ensures.row.from_one i term short in
          let below = upto i term short in
          c.in_ok-met.ensures.variables n (omega arith, omega arith) images (c.loop-term.invariant.variables n upto images old);
    }

pub returns-clause-variables : goal.returns-clause-variables
returns-clause-variables c = λ n upto images old. c.loop-term.invariant.variables n (subst (TermsUpTo n) (sym c.terms-given.ensures.value) upto) images old

pub returns-clause-value : goal.returns-clause-value
returns-clause-value c = λ a.
    let all : take c.loop-term.term-index c.terms-given.result.now ≡ c.args.row.now.terms = take_all c.loop-term.term-index c.terms-given.result.now (omega arith) ∙ c.terms-given.ensures.value in
    subst (λ (ts : List (Literal × ℕ)). sum_value a c.loop-term.terms.items -ℤ pos c.loop-term.met ≡ sum_value a c.args.terms.now.items +ℤ (pos (value a ts) -ℤ pos (value_under c.args.w.now a ts))) all (c.loop-term.invariant.value a)

pub returns-clause-met : goal.returns-clause-met
returns-clause-met c =
    let all : take c.loop-term.term-index c.terms-given.result.now ≡ c.args.row.now.terms = take_all c.loop-term.term-index c.terms-given.result.now (omega arith) ∙ c.terms-given.ensures.value in
    let whole = ap total all in
    let small = c.terms-given.ensures.row.small in
    let met = c.loop-term.invariant.met in
    omega arith

pub returns-clause-small : goal.returns-clause-small
returns-clause-small c =
    let all : take c.loop-term.term-index c.terms-given.result.now ≡ c.args.row.now.terms = take_all c.loop-term.term-index c.terms-given.result.now (omega arith) ∙ c.terms-given.ensures.value in
    let whole = ap total all in
    let small = c.terms-given.ensures.row.small in
    let old = c.loop-term.invariant.small in
    omega arith
