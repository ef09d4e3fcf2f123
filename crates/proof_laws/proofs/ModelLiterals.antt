-- The literals of a model, in order of variables.
use Rattle.std.proofs.Common.{◌≡◌, ℕ, ◌+◌, ◌<◌, ◌^◌, Bool, not, cond, List, [], ◌∷◌, ◌++◌, length, refl, ap, ap₂, ◌∙◌, arith, None, Some}
use Rattle.std.specs.Prelude.{All, nat_lt, ◌==◌}
use Rattle.std.proofs.Math.Bool.{not-not}
use Rattle.std.proofs.lemmas.Bool.{cond-true, cond-false, eq-eqb, le-ltb, lt-ltb}
use Rattle.std.proofs.lemmas.List.Elements.{All-nil, All-cons}
use Rattle.scut_base.specs.Literal.{Literal}
use Rattle.proof_laws.specs.Refusal.{assignment_of, literals_at, misplaced}
use Rattle.proof_laws.specs.WellFormed.{IsVariable}

-- one value more
pub literals_push : (var : ℕ) (bs : List Bool) (b : Bool) →
    literals_at var (bs ++ b ∷ []) ≡ literals_at var bs ++ record { var = var + length bs; neg = not b } ∷ []
literals_push var [] b = ap (λ (v : ℕ). record { var = v; neg = not b } ∷ []) (omega arith)
literals_push var (x ∷ bs) b =
    ap (λ (ls : List Literal). record { var = var; neg = not x } ∷ ls)
    (literals_push (var + 1) bs b ∙ ap (λ (v : ℕ). literals_at (var + 1) bs ++ record { var = v; neg = not b } ∷ [])
    (omega arith))

-- they make these values
pub assignment_again : (var : ℕ) (bs : List Bool) → assignment_of (literals_at var bs) ≡ bs
assignment_again var [] = refl
assignment_again var (b ∷ bs) =
    ap₂ (λ (x : Bool) (xs : List Bool). x ∷ xs) (not-not b) (assignment_again (var + 1) bs)

-- they stand in their places
pub in_place : (n var : ℕ) (bs : List Bool) → var + length bs ≡ n + 1 → misplaced var n (literals_at var bs) ≡ None
in_place n var [] all = cond-true (nat_lt n var) None (Some var) (lt-ltb n var (omega arith))
in_place n var (b ∷ bs) all =
    cond-false (nat_lt n var) (Some var)
    (cond (var == var) (misplaced (var + 1) n (literals_at (var + 1) bs)) (Some var)) (le-ltb n var (omega arith))
    ∙ cond-true (var == var) (misplaced (var + 1) n (literals_at (var + 1) bs)) (Some var) (eq-eqb var var refl)
    ∙ in_place n (var + 1) bs (omega arith)

pub model_variables : (var : ℕ) (bs : List Bool) → 0 < var → var + length bs < 2 ^ 63 →
    All (λ l. IsVariable l.var) (literals_at var bs)
model_variables var [] some small = All-nil (λ l. IsVariable l.var)
model_variables var (b ∷ bs) some small =
    All-cons (λ l. IsVariable l.var) (record { var = var; neg = not b }) (literals_at (var + 1) bs)
    (omega arith, omega arith) (model_variables (var + 1) bs (omega arith) (omega arith))

-- a literal is its variable and its sign
pub literal_is : (l : Literal) (var : ℕ) (b : Bool) → l.var ≡ var → l.neg ≡ b → l ≡ record { var = var; neg = b }
literal_is l var b at sign = ap₂ (λ (v : ℕ) (n : Bool). let r : Literal = record { var = v; neg = n } in r) at sign
