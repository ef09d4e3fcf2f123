-- The outputs of the root that are there.
use Rattle.std.proofs.Common.{◌≡◌, ⊎_elim, ℕ, ◌-◌, ◌<◌, ◌≤◌, List, [], length, get_or, ap, sym, subst, ◌∙◌, arith}
use Rattle.std.specs.List.{AllPairs, Contains}
use Rattle.std.proofs.lemmas.Bool.{cases_lt}
use Rattle.std.proofs.lemmas.List.{get_or_default}
use Rattle.std.proofs.lemmas.List.Elements.{All-contains}
use Rattle.cutting_planes.proofs.Terms.{Terms}
use Rattle.proof_laws.specs.State.{StateValue}
use Rattle.proof_rules.specs.Recording.{Snapshot}
use Rattle.sum_outputs.specs.Totals.{IsLeastSum}
use Rattle.sum_outputs.specs.Adding.{IsReached}
use Rattle.sum_outputs.specs.Joining.{IsOutputAt, AreOutputsAt}
use Rattle.sum_outputs.specs.declared.sum_output.SumOutput.{SumOutput}
use Rattle.sum_outputs.proofs.MadeLists.{any_node}
use Rattle.totalizer.specs.Totalizing.{TotalizerValue, terms_of, Fits, FitsSome}
use Rattle.totalizer.specs.Knowing.{root_outputs, IsMadeFor}
use Rattle.totalizer.proofs.Roots.{root_is}

-- no output stands for the sum of another, or of less
pub outputs_apart : (a : Snapshot) (s : StateValue) (terms : Terms) (os : List SumOutput) → AreOutputsAt a s terms os →
    AllPairs (λ o q. o.sum < q.from) os
outputs_apart a s terms os are i j d less short =
    let o = get_or os i d in
    let q = get_or os j d in
    let rise = are.rising.rising i j d less short in
    ⊎_elim
    (λ (apart : o.sum < q.from). apart)
    (λ (within : q.from ≤ o.sum).
    let above = (are.each j d short).gap o.sum (are.each i d (omega arith)).attainable within in
    absurd (omega arith))
    (cases_lt o.sum q.from)

module _ (a : Snapshot) (t : TotalizerValue) (fits : Fits a t) (some : 0 < length t.nodes) where
  pub root_are : (s : StateValue) → IsReached a s → AreOutputsAt a s (terms_of t) (root_outputs t)
  root_are s reached = subst (λ (ts : Terms). AreOutputsAt a s ts (root_outputs t)) (sym (root_is t.nodes any_node some))
      ((fits.made s reached).outputs (length t.nodes - 1) any_node [] (omega arith))

  pub output_at : (o : SumOutput) → Contains (root_outputs t) o → (s : StateValue) → IsReached a s →
      IsOutputAt a s (terms_of t) o
  output_at o has s reached = All-contains (IsOutputAt a s (terms_of t)) (root_outputs t) o (root_are s reached).each has

  -- one that stands for a sum of at least k has the least
  pub stands_for : (s : StateValue) → IsReached a s → (k : ℕ) (o : SumOutput) → Contains (root_outputs t) o →
      o.from ≤ k → k ≤ o.sum → IsLeastSum (terms_of t) k o.sum
  stands_for s reached k o has from to =
      let is = output_at o has s reached in
      record { attainable = is.attainable; reaches = to; least = λ m can reach. is.gap m can (omega arith) }

-- ---- of a totalizer that some lines made

module _ (t : TotalizerValue) (fits : FitsSome t) (os : List SumOutput) (some : 0 < length t.made)
    (last : os ≡ get_or t.made (length t.made - 1) os) where
  size : length t.made ≡ length t.nodes
  size = (fits.3.made fits.1 fits.2).size

  pub last_are : os ≡ root_outputs t
  last_are =
      let place : length t.made - 1 ≡ length t.nodes - 1 = let e = size in omega arith in
      last ∙ ap (λ (i : ℕ). get_or t.made i os) place
      ∙ get_or_default t.made (length t.nodes - 1) os [] (let e = size in omega arith)

  are : AreOutputsAt fits.0 fits.1 (terms_of t) os
  are = subst (λ (ps : List SumOutput). AreOutputsAt fits.0 fits.1 (terms_of t) ps) (sym last_are)
      (root_are fits.0 t fits.3 (let e = size in omega arith) fits.1 fits.2)

  pub last_rising : AllPairs (λ o q. o.sum < q.sum) os
  last_rising = are.rising.rising

  pub last_apart : AllPairs (λ o q. o.sum < q.from) os
  last_apart = outputs_apart fits.0 fits.1 (terms_of t) os are

  pub last_stands : (k : ℕ) (o : SumOutput) → Contains os o → o.from ≤ k → k ≤ o.sum → IsMadeFor t k o
  last_stands k o has from to =
      let there = subst (λ (ps : List SumOutput). Contains ps o) last_are has in
      (there, stands_for fits.0 t fits.3 (let e = size in omega arith) fits.1 fits.2 k o there from to)

-- what was found at the end of the lists is the root's
pub found_last : (t : TotalizerValue) (ms : List (List SumOutput)) (os found : List SumOutput) → ms ≡ t.made →
    os ≡ found → ((d : List SumOutput) → found ≡ get_or ms (length ms - 1) d) →
    os ≡ get_or t.made (length t.made - 1) os
found_last t ms os found same is there =
    subst (λ (ls : List (List SumOutput)). os ≡ get_or ls (length ls - 1) os) same (is ∙ there os)
