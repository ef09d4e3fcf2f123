-- Literals that may be assumed.
use Rattle.std.proofs.Common.{◌≢◌, ℕ, ◌<◌, ◌≤◌, List, [], ◌∷◌, ◌++◌, arith}
use Rattle.std.specs.List.{All, AllPairs}
use Rattle.std.proofs.lemmas.List.Elements.{All-push}
use Rattle.std.proofs.lemmas.List.Quantifiers.{all_pairs_push}
use Rattle.scut_base.specs.Literal.{Literal}
use Rattle.pb_lin.specs.Constraint.{IsVariable}
use Rattle.oracle.specs.Solving.{AreAssumptions}

-- the variables rise so far, up to this one
pub record AreRising (vars last : ℕ) (lits : List Literal) : Type 0 where
  pub low : All (λ m. m.var ≤ last) lits
  pub variables : All (λ m. IsVariable vars m.var) lits
  pub rising : AllPairs (λ m n. m.var ≢ n.var) lits

pub one_more : (vars last : ℕ) (lits : List Literal) (x : Literal) → AreRising vars last lits → last < x.var → x.var ≤ vars
    → AreRising vars x.var (lits ++ x ∷ [])
one_more vars last lits x are above within = record {
  low = All-push (λ m. m.var ≤ x.var) lits x (λ k d short. let low = are.low k d short in omega arith) (omega arith);
  variables = All-push (λ m. IsVariable vars m.var) lits x are.variables (omega arith, within);
  rising = all_pairs_push (λ m n. m.var ≢ n.var) lits x are.rising (λ k d short same. let low = are.low k d short in omega arith);
}

pub assumptions : (vars last : ℕ) (lits : List Literal) → AreRising vars last lits → AreAssumptions vars lits
assumptions vars last lits are = record { variables = are.variables; apart = are.rising }
