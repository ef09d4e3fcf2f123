-- Tokens that make clauses.
use Rattle.std.proofs.Common.{◌≡◌, ◌≢◌, ◌==◌, ◌&&◌, ℕ, Bool, true, None, Ok, List, [], ◌∷◌, refl, ap, ◌∙◌, subst}
use Rattle.std.specs.List.{All, list_all}
use Rattle.std.proofs.lemmas.Bool.{eq-eqb}
use Rattle.std.proofs.lemmas.List.Elements.{All-head, All-tail}
use Rattle.scut_base.specs.Literal.{Literal}
use Rattle.pb_lin.specs.Constraint.{ConstraintValue, AreOnes}
use Rattle.pb_lin.specs.Given.{given_of}
use Rattle.pb_lin.specs.LineMap.{LineMap}
use Rattle.cutting_planes.specs.Stack.{IsValueOn}
use Rattle.cutting_planes.specs.declared.token.PolToken.{PolToken}
use Rattle.proof_laws.specs.State.{StateValue}
use Rattle.proof_laws.specs.Refusal.{is_clause}
use Rattle.sum_outputs.specs.Laws.{AreTokensOf}
use Rattle.linear_lines.specs.Stating.{IsSpelledUpTo}

ones_tested : (terms : List (Literal × ℕ)) → AreOnes terms → list_all (λ t. t.1 == 1) terms ≡ true
ones_tested [] ones = refl
ones_tested (t ∷ terms) ones =
    ap (λ (b : Bool). b && list_all (λ u. u.1 == 1) terms) (eq-eqb t.1 1 (All-head (λ u. u.1 ≡ 1) t terms ones))
    ∙ ones_tested terms (All-tail (λ u. u.1 ≡ 1) t terms ones)

pub clause_tested : (c : ConstraintValue) → AreOnes c.terms × (c.degree ≡ 1) → is_clause c ≡ true
clause_tested c is = ap (λ (b : Bool). b && (c.degree == 1)) (ones_tested c.terms is.0) ∙ eq-eqb c.degree 1 is.1

-- tokens that a text can spell make what their value is
pub tokens_of : (s : StateValue) (n : ℕ) (lines : LineMap) (tokens : List PolToken) (c : ConstraintValue)
    → n ≡ s.vars → lines ≡ s.live → tokens ≢ [] → All (IsSpelledUpTo n) tokens
    → IsValueOn (given_of lines None None) [] tokens (Ok c) → AreTokensOf s tokens c
tokens_of s n lines tokens c vars live some spelled value =
    let all : All (IsSpelledUpTo s.vars) tokens = subst (λ (m : ℕ). All (IsSpelledUpTo m) tokens) vars spelled in
    record {
      formed = (some, λ i d short. (all i d short).0);
      variables = λ i d short. (all i d short).1;
      value = subst (λ (m : LineMap). IsValueOn (given_of m None None) [] tokens (Ok c)) live value;
    }
