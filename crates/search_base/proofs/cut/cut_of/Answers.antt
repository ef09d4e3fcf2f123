use Rattle.std.proofs.Common.{List, sym, subst, map, rules}
use Rattle.std.specs.List.Sorted.{IsPermutation, IsNonDecreasingBy}
use Rattle.std.proofs.lemmas.Result.{IfOk-weaker}
use Rattle.std.proofs.lemmas.List.Sorted.{IsNonDecreasingBy-from_sort_by_key}
use Rattle.scut_base.specs.Literal.{Literal}
use Rattle.pb_lin.specs.Constraint.{opposite}
use Rattle.instance_normal.specs.NormalForm.{AreDistinct}
use Rattle.instance_normal.proofs.Distinct.{distinct_permuted}
use Rattle.search_base.specs.Cutting.{answered_literals}
use Rattle.search_base.proofs.Cuts.{alike_opposites, alike_permuted}
use Rattle.search_base.proofs.cut.cut_of.Goals as goal

pub each_once-requires-clause-sorted : goal.each_once-requires-clause-sorted
each_once-requires-clause-sorted c =
    subst (IsNonDecreasingBy {X = Literal} (λ l. l.var)) (sym c.as_slice.ensures.value)
    (IsNonDecreasingBy-from_sort_by_key (λ l. l.var) _ c.sort_unstable_by_key.ensures.sorted
    (λ a r q k. search rules))

pub each_once-requires-clause-alike : goal.each_once-requires-clause-alike
each_once-requires-clause-alike c =
    let lits = map opposite (answered_literals c.args.answers.now) in
    let moved : IsPermutation lits c.as_slice.result.now =
    subst (λ (xs : List Literal). IsPermutation xs c.as_slice.result.now) c.in_ok-opposites.ensures
    (subst (IsPermutation c.in_ok-opposites.opposites.items) (sym c.as_slice.ensures.value)
    c.sort_unstable_by_key.ensures.permutation) in
    alike_permuted lits c.as_slice.result.now moved (alike_opposites (answered_literals c.args.answers.now) c.requires)

pub returns : goal.returns
returns c =
    let lits = map opposite (answered_literals c.args.answers.now) in
    let moved : IsPermutation lits c.as_slice.result.now =
    subst (λ (xs : List Literal). IsPermutation xs c.as_slice.result.now) c.in_ok-opposites.ensures
    (subst (IsPermutation c.in_ok-opposites.opposites.items) (sym c.as_slice.ensures.value)
    c.sort_unstable_by_key.ensures.permutation) in
    IfOk-weaker c.each_once.result (AreDistinct c.as_slice.result.now) (AreDistinct lits)
    (λ cut are. distinct_permuted lits c.as_slice.result.now cut moved are) c.each_once.ensures
