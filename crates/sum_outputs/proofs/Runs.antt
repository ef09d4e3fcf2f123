-- Sums in a row, one longer or one shorter at the end.
use Rattle.std.proofs.Common.{◌≡◌, ℕ, suc, ◌+◌, ◌-◌, ◌<◌, ◌≤◌, List, [], ◌∷◌, ◌++◌, get_or, length, refl, ap, ◌∙◌, arith}
use Rattle.sum_outputs.specs.Sums.{IsLeastOf, IsRun, last_sum}
use Rattle.pb_lin.specs.Constraint.{total}
use Rattle.sum_outputs.specs.declared.sum_output.SumOutput.{SumOutput}
use Rattle.sum_outputs.specs.declared.inner.Inner.{Inner}

module _ (node : Inner) (k : ℕ) where
  pub run_push : (last : ℕ) (sums : List (ℕ × ℕ)) (end : ℕ) (s : ℕ × ℕ) → IsRun node k last sums end → s.0 ≡ end + 1 → s.0 ≤ k → IsLeastOf node.first.outputs.now node.second.outputs.now s.0 (total node.terms.now) s.1 → IsRun node k last (sums ++ s ∷ []) s.1
  run_push last [] end s run from le least = (from ∙ ap (λ (n : ℕ). n + 1) run, le, least, refl)
  run_push last (t ∷ sums) end s run from le least = (run.0, run.1, run.2, run_push t.1 sums end s run.3 from le least)

  -- what is known of the last
  pub record IsLastOf (last : ℕ) (sums : List (ℕ × ℕ)) (s : ℕ × ℕ) (end : ℕ) : Type 0 where
    pub middle : ℕ
    pub run : IsRun node k last sums middle
    pub from : s.0 ≡ middle + 1
    pub most : s.0 ≤ k
    pub least : IsLeastOf node.first.outputs.now node.second.outputs.now s.0 (total node.terms.now) s.1
    pub is : end ≡ s.1

  pub run_pop : (last : ℕ) (sums : List (ℕ × ℕ)) (end : ℕ) (s : ℕ × ℕ) → IsRun node k last (sums ++ s ∷ []) end → IsLastOf last sums s end
  run_pop last [] end s run = record { middle = last; run = refl; from = run.0; most = run.1; least = run.2; is = run.3 }
  run_pop last (t ∷ sums) end s run =
      let rest = run_pop t.1 sums end s run.3 in
      record { middle = rest.middle; run = (run.0, run.1, run.2, rest.run); from = rest.from; most = rest.most; least = rest.least; is = rest.is }

pub last_sum_is : (os : List SumOutput) (d : SumOutput) → 0 < length os → (get_or os (length os - 1) d).sum ≡ last_sum os
last_sum_is [] d some = absurd (omega arith)
last_sum_is (o ∷ []) d some = refl
last_sum_is (o ∷ p ∷ os) d some =
    ap (λ (i : ℕ). (get_or (o ∷ p ∷ os) i d).sum) (let e : suc (suc (length os)) - 1 ≡ suc (suc (length os) - 1) = omega arith in e)
    ∙ last_sum_is (p ∷ os) d (omega arith)
