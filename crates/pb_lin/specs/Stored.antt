-- How constraints are stored: without coefficients where all are 1; nothing of it has to be believed.
use Rattle.std.specs.Prelude.{◌≡◌, ℕ, List, [], ◌∷◌}
use Rattle.scut_base.specs.Literal.{Literal}
use Rattle.pb_lin.specs.Constraint.{IsNormal, AreOnes}

-- each literal with its coefficient, which is 1 past the end of the coefficients
abbrev pub terms_of : List Literal → List ℕ → List (Literal × ℕ)
terms_of [] coefs = []
terms_of (l ∷ lits) [] = (l, 1) ∷ terms_of lits []
terms_of (l ∷ lits) (n ∷ coefs) = (l, n) ∷ terms_of lits coefs

-- terms in normal form, of which no coefficient is stored where all are 1
pub record IsStored (lits : List Literal) (coefs : List ℕ) (degree : ℕ) : Type 0 where
  pub normal : IsNormal (terms_of lits coefs) degree
  pub short : AreOnes (terms_of lits coefs) → coefs ≡ []
