use Rattle.std.proofs.Common.{◌≡◌, true, false, List, sym, subst, Result, Ok, Err, Option, None, Some, rules}
use Rattle.std.specs.Prelude.{IfOk, MatchOption}
use Rattle.std.specs.List.Sorted.{IsPermutation, IsNonDecreasingBy}
use Rattle.std.proofs.lemmas.List.Sorted.{IsNonDecreasingBy-from_sort_by_key}
use Rattle.scut_base.specs.Literal.{Literal}
use Rattle.instance_normal.specs.NormalForm.{AreDistinct, is_tautology}
use Rattle.instance_normal.proofs.Distinct.{distinct_permuted, tautology_permuted, plain_from_distinct}
use Rattle.instance_normal.proofs.clause.distinct_literals.Goals as goal

pub distinct_of_sorted-requires : goal.distinct_of_sorted-requires
distinct_of_sorted-requires c = subst (IsNonDecreasingBy {X = Literal} (λ l. l.var)) (sym c.as_slice.ensures.value) (IsNonDecreasingBy-from_sort_by_key (λ l. l.var) _ c.sort_unstable_by_key.ensures.sorted (λ a r q k. search rules))

finish : {E : Type 0} (lits sorted : List Literal) (r : Result (Option (List Literal)) E) → IsPermutation lits sorted → IfOk r (λ found. MatchOption found (is_tautology sorted ≡ true) (λ distinct. AreDistinct sorted distinct)) → IfOk r (λ found. MatchOption found (is_tautology lits ≡ true) (λ distinct. (is_tautology lits ≡ false) × AreDistinct lits distinct))
finish lits sorted (Ok None) moved is = tautology_permuted lits sorted moved is
finish lits sorted (Ok (Some distinct)) moved is = (let are = distinct_permuted lits sorted distinct moved is in (plain_from_distinct lits distinct are, are))
finish lits sorted (Err e) moved is = is

pub returns : goal.returns
returns c =
    let moved : IsPermutation c.args.lits.now c.as_slice.result.now = subst (λ (xs : List Literal). IsPermutation xs c.as_slice.result.now) c.in_ok-sorted.ensures.items (subst (IsPermutation c.in_ok-sorted.sorted.items) (sym c.as_slice.ensures.value) c.sort_unstable_by_key.ensures.permutation) in
    finish c.args.lits.now c.as_slice.result.now c.distinct_of_sorted.result moved c.distinct_of_sorted.ensures
