-- Lines that are kept as literals alone.
use Rattle.std.proofs.Common.{◌≡◌, ℕ, List, [], sym, ◌∙◌, ap}
use Rattle.scut_base.specs.Literal.{Literal}
use Rattle.pb_lin.specs.Constraint.{ConstraintValue, AreOnes, literals, ones}
use Rattle.pb_lin.proofs.Terms.{terms_of-none, terms_of-ones, literals-terms_of}

-- the literals of a clause
pub literals-ones : (lits : List Literal) → literals (ones lits) ≡ lits
literals-ones lits = ap (λ (ts : List (Literal × ℕ)). literals ts) (sym (terms_of-none lits)) ∙ literals-terms_of lits []

-- a clause is that of its literals
pub clause_of_literals : (c : ConstraintValue) → AreOnes c.terms → c.degree ≡ 1 → record { terms = ones (literals c.terms); degree = 1 } ≡ c
clause_of_literals c all one =
    ap (λ (ts : List (Literal × ℕ)). record { terms = ts; degree = 1 }) (sym (terms_of-none (literals c.terms)) ∙ terms_of-ones c.terms all)
    ∙ ap (λ (n : ℕ). record { terms = c.terms; degree = n }) (sym one)
