-- What is kept in short gives back what it was made of.
use Rattle.std.proofs.Common.{◌≡◌, ℕ, List, [], ◌∷◌, refl, ap, ap₂, sym, ◌∙◌}
use Rattle.std.specs.Prelude.{map}
use Rattle.scut_base.specs.Literal.{Literal}
use Rattle.scut_base.specs.LiteralCode.{literal_of}
use Rattle.pb_lin.specs.Constraint.{ConstraintValue, AreOnes, literals, ones}
use Rattle.std.proofs.lemmas.List.Elements.{All-head, All-tail}
use Rattle.proof_text.specs.KeptLines.{clause_of}

ones_literals : (terms : List (Literal × ℕ)) → AreOnes terms → ones (literals terms) ≡ terms
ones_literals [] all = refl
ones_literals (t ∷ terms) all =
    ap (λ (n : ℕ). (t.0, n) ∷ ones (literals terms)) (sym (All-head (λ u. u.1 ≡ 1) t terms all))
    ∙ ap (λ (ts : List (Literal × ℕ)). t ∷ ts) (ones_literals terms (All-tail (λ u. u.1 ≡ 1) t terms all))

-- a clause of the codes of its literals
pub clause_back : (c : ConstraintValue) (codes : List ℕ) → AreOnes c.terms → c.degree ≡ 1 → map literal_of codes ≡ literals c.terms → clause_of codes ≡ c
clause_back c codes are one same =
    ap₂ (λ (ts : List (Literal × ℕ)) (d : ℕ). record { terms = ts; degree = d }) (ap ones same ∙ ones_literals c.terms are) (sym one)
