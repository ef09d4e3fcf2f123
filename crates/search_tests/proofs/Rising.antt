-- Assumptions of rising variables, one after another.
use Rattle.std.proofs.Common.{◌≢◌, ℕ, ◌<◌, ◌≤◌, List, [], ◌∷◌, ◌++◌, arith}
use Rattle.std.specs.List.{All}
use Rattle.std.proofs.lemmas.List.Elements.{All-push, All-weaker}
use Rattle.std.proofs.lemmas.List.Quantifiers.{all_pairs_push}
use Rattle.scut_base.specs.Literal.{Literal}
use Rattle.pb_lin.specs.Constraint.{IsVariable}
use Rattle.oracle.specs.Solving.{AreAssumptions}

-- literals of distinct variables up to n, none of which is above `last`
pub record AreUpTo (n last : ℕ) (lits : List Literal) : Type 0 where
  pub assumptions : AreAssumptions n lits
  pub below : All (λ l. l.var ≤ last) lits

pub none_up_to : (n last : ℕ) → AreUpTo n last []
none_up_to n last = record {
  assumptions = record { variables = λ k d short. absurd (omega arith); apart = λ i j d less short. absurd (omega arith) };
  below = λ k d short. absurd (omega arith);
}

pub one_more : (n last : ℕ) (lits : List Literal) (l : Literal) → AreUpTo n last lits → last < l.var → l.var ≤ n
    → AreUpTo n l.var (lits ++ l ∷ [])
one_more n last lits l are above within = record {
  assumptions = record {
    variables = All-push (λ m. IsVariable n m.var) lits l are.assumptions.variables (let some : 0 < l.var = omega arith in (some, within));
    apart = all_pairs_push (λ (m o : Literal). m.var ≢ o.var) lits l are.assumptions.apart
        (λ k d short e. let most = are.below k d short in omega arith);
  };
  below = All-push (λ m. m.var ≤ l.var) lits l
      (All-weaker (λ (m : Literal). m.var ≤ last) (λ (m : Literal). m.var ≤ l.var) (λ m most. omega arith) lits are.below) (omega arith);
}
