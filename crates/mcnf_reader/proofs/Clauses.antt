-- What a clause's words spell, from left to right.
use Rattle.std.proofs.Common.{◌≡◌, ℕ, false, List, [], ◌∷◌, ◌++◌, refl, sym, ap, ◌∙◌, subst, append_assoc, append-nil, arith}
use Rattle.std.specs.Str.Parse.{starts_with_minus}
use Rattle.std.specs.Int.{IsInRange}
use Rattle.std.proofs.lemmas.Str.Parse.{digit_at}
use Rattle.std.proofs.lemmas.Bool.Decides.{nat_tests}
use Rattle.scut_base.specs.Literal.{Literal}
use Rattle.scut_base.specs.Number.{IsNatural, natural_value, magnitude_text}
use Rattle.mcnf_reader.specs.Grammar.{SpellsLiteral, SpellsZero, SpellsClause}

-- what the words left spell makes, after these literals, what all words spell
abbrev pub GoesOn : List (List ℕ) → List (List ℕ) → List Literal → Type 0
GoesOn all words lits = (more : List Literal) → SpellsClause words more → SpellsClause all (lits ++ more)

-- digits begin with no minus
pub natural_sign : (word : List ℕ) → IsNatural word → starts_with_minus word ≡ false
natural_sign [] natural = refl
natural_sign (x ∷ word) natural =
    let digit : IsInRange 48 57 x = digit_at (x ∷ word) 0 natural.1 natural.0 in
    grind (arith, nat_tests, digit)

-- no word is both a literal and the terminator
pub not_both : (word : List ℕ) (l : Literal) → SpellsLiteral word l → SpellsZero word → ⊥
not_both word l literal zero =
    let plain : magnitude_text word ≡ word = rw (natural_sign word zero.0) refl in
    let value : natural_value (magnitude_text word) ≡ 0 = rw plain zero.1 in
    omega (arith, literal.variable, literal.positive, value)

-- one literal more
pub goes_on : (all words rest : List (List ℕ)) (word : List ℕ) (l : Literal) (lits : List Literal) → words ≡ word ∷ rest → SpellsLiteral word l → GoesOn all words lits → GoesOn all rest (lits ++ l ∷ [])
goes_on all words rest word l lits cut literal so_far more spelled =
    rw append_assoc (so_far (l ∷ more) (rw cut (literal, spelled)))

-- the terminator ends the clause where no word is left
pub ends_clause : (all words rest : List (List ℕ)) (word : List ℕ) (lits : List Literal) → words ≡ word ∷ rest → rest ≡ [] → SpellsZero word → GoesOn all words lits → SpellsClause all lits
ends_clause all words rest word lits cut none zero so_far =
    let one : words ≡ word ∷ [] = cut ∙ ap (λ (ws : List (List ℕ)). word ∷ ws) none in
    let spelled : SpellsClause words [] = subst (λ (ws : List (List ℕ)). SpellsClause ws []) (sym one) zero in
    rw append-nil at (so_far [] spelled)
