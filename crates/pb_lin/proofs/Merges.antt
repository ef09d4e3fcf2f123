-- Terms that are merged variable by variable: one more or one less at an end.
use Rattle.std.proofs.Common.{ℕ, suc, ◌<◌, List, [], ◌∷◌, ◌++◌, arith}
use Rattle.std.specs.List.{All, AllPairs}
use Rattle.std.proofs.lemmas.List.Elements.{All-push, All-weaker}
use Rattle.std.proofs.lemmas.List.Quantifiers.{all_pairs_push}
use Rattle.scut_base.proofs.Lists.{All-prefix, AllPairs-prefix, AllPairs-last}
use Rattle.scut_base.specs.Literal.{Literal}
use Rattle.pb_lin.specs.Constraint.{IsMerged}

pub rising_head : (t : Literal × ℕ) (terms : List (Literal × ℕ)) → AllPairs (λ x y. x.0.var < y.0.var) (t ∷ terms) → All (λ r. t.0.var < r.0.var) terms
rising_head t terms up k d short = up 0 (suc k) d (omega arith) (omega arith)

pub rising_tail : (t : Literal × ℕ) (terms : List (Literal × ℕ)) → AllPairs (λ x y. x.0.var < y.0.var) (t ∷ terms) → AllPairs (λ x y. x.0.var < y.0.var) terms
rising_tail t terms up i j d less short = up (suc i) (suc j) d (omega arith) (omega arith)

pub merged_prefix : (rest : List (Literal × ℕ)) (x : Literal × ℕ) → IsMerged (rest ++ x ∷ []) → IsMerged rest
merged_prefix rest x m = record {
  positive = All-prefix (λ t. 0 < t.1) rest x m.positive;
  from_one = All-prefix (λ t. 0 < t.0.var) rest x m.from_one;
  rising = AllPairs-prefix (λ s t. s.0.var < t.0.var) rest x m.rising;
}

pub merged_push : (terms : List (Literal × ℕ)) (y : Literal × ℕ) → IsMerged terms → All (λ t. t.0.var < y.0.var) terms → 0 < y.1 → 0 < y.0.var → IsMerged (terms ++ y ∷ [])
merged_push terms y m below positive from_one = record {
  positive = All-push (λ t. 0 < t.1) terms y m.positive positive;
  from_one = All-push (λ t. 0 < t.0.var) terms y m.from_one from_one;
  rising = all_pairs_push (λ s t. s.0.var < t.0.var) terms y m.rising below;
}

-- the last is below a variable
pub below_from_last : (rest : List (Literal × ℕ)) (x : Literal × ℕ) (n : ℕ) → IsMerged (rest ++ x ∷ []) → x.0.var < n → All (λ t. t.0.var < n) (rest ++ x ∷ [])
below_from_last rest x n m less = All-push (λ t. t.0.var < n) rest x (All-weaker (λ t. t.0.var < x.0.var) (λ t. t.0.var < n) (λ t h. omega arith) rest (AllPairs-last (λ s t. s.0.var < t.0.var) rest x m.rising)) less
