-- An output that stands for the number has the least sum of at least that.
use Rattle.std.proofs.Common.{◌<◌, ◌≤◌, Option, None, Some, List, length, ap, subst, ◌∙◌, arith, MatchOption, Bor}
use Rattle.std.specs.List.{All}
use Rattle.sum_outputs.specs.declared.sum_output.SumOutput.{SumOutput}
use Rattle.totalizer.specs.Totalizing.{TotalizerValue}
use Rattle.totalizer.specs.Knowing.{IsMadeFor, IsUnmade}
use Rattle.totalizer.proofs.RootOutputs.{found_last, last_are, last_rising, last_apart, last_stands}
use Rattle.totalizer.proofs.totalizer.Totalizer.made_for.Goals as goal

-- what follows from each outcome
match_weaker : {A : Type 0} (found : Option A) (P Q : Type 0) (S T : A → Type 0) → (P → Q) → ((x : A) → S x → T x) →
    MatchOption found P S → MatchOption found Q T
match_weaker None P Q S T none some is = none is
match_weaker (Some x) P Q S T none some is = some x is

pub standing_for-requires-clause-rising : goal.standing_for-requires-clause-rising
standing_for-requires-clause-rising c =
    let t = c.args.self.now in
    let lists = c.as_slice.ensures ∙ ap (λ (u : TotalizerValue). u.made) c.self.view_is in
    let item = c.in_ok-last.ensures.item.3 in
    let long = ap length lists in
    let some = item.0 in
    last_rising t c.requires c.as_slice-2.result.now (omega arith)
    (found_last t c.as_slice.result.now c.as_slice-2.result.now c.in_ok-last.field-0.now lists c.as_slice-2.ensures item.1)

pub standing_for-requires-clause-apart : goal.standing_for-requires-clause-apart
standing_for-requires-clause-apart c =
    let t = c.args.self.now in
    let lists = c.as_slice.ensures ∙ ap (λ (u : TotalizerValue). u.made) c.self.view_is in
    let item = c.in_ok-last.ensures.item.3 in
    let long = ap length lists in
    let some = item.0 in
    last_apart t c.requires c.as_slice-2.result.now (omega arith)
    (found_last t c.as_slice.result.now c.as_slice-2.result.now c.in_ok-last.field-0.now lists c.as_slice-2.ensures item.1)

pub returns : goal.returns
returns c =
    let t = c.args.self.now in
    let k = c.args.k in
    let os = c.as_slice-2.result.now in
    let lists = c.as_slice.ensures ∙ ap (λ (u : TotalizerValue). u.made) c.self.view_is in
    let item = c.in_ok-last.ensures.item.3 in
    let long = ap length lists in
    let some : 0 < length t.made = let found = item.0 in omega arith in
    let last = found_last t c.as_slice.result.now os c.in_ok-last.field-0.now lists c.as_slice-2.ensures item.1 in
    let none : All (λ (o : SumOutput). o.from ≤ k → o.sum < k) os → IsUnmade t k =
    λ all. subst (λ (ps : List SumOutput). All (λ o. o.from ≤ k → o.sum < k) ps) (last_are t c.requires os some last) all in
    match_weaker c.standing_for.result _ (IsUnmade t k) _ (λ (o : Bor SumOutput). IsMadeFor t k o.now) none
    (λ o is. last_stands t c.requires os some last k o.now is.0 is.1 is.2) c.standing_for.ensures
