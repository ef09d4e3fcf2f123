-- Literals in one number, and the two laws of it that members of the type's impls cite.
use Rattle.std.proofs.Common.{◌≡◌, ◌≢◌, ℕ, ◌+◌, ◌*◌, ◌/◌, ◌%◌, ◌==◌, ◌&&◌, Bool, true, false, if◌then◌else◌, refl, arith, ap, sym, ◌∙◌, ⊎_elim}
use Rattle.std.proofs.Math.Bool.{beq}
use Rattle.std.proofs.lemmas.Bool.{eq-eqb, eqb-true, ne_eqb, cases_eq, cond-true, cond-false, and_parts}
use Rattle.std.specs.Hash as fed
use Rattle.scut_base.specs.Literal.{Literal}

-- twice the variable, plus 1 for a negation
abbrev pub code_of : Literal → ℕ
code_of l = 2 * l.var + (if l.neg then 1 else 0)

-- the literal of a number
abbrev pub literal_of : ℕ → Literal
literal_of n = record { var = n / 2; neg = n % 2 == 1 }

-- the last bit, as a number
bit_of : (n : ℕ) → (if n % 2 == 1 then 1 else 0) ≡ n % 2
bit_of n = ⊎_elim
    (λ (one : n % 2 ≡ 1). cond-true (n % 2 == 1) 1 0 (eq-eqb (n % 2) 1 one) ∙ sym one)
    (λ (other : n % 2 ≢ 1). let none : n % 2 ≡ 0 = omega arith in cond-false (n % 2 == 1) 1 0 (ne_eqb (n % 2) 1 other) ∙ sym none)
    (cases_eq (n % 2) 1)

-- a number is that of its literal
pub code_of-literal_of : (n : ℕ) → code_of (literal_of n) ≡ n
code_of-literal_of n = let bit = bit_of n in omega arith

beq_parts : (s t : Bool) → beq s t ≡ true → s ≡ t
beq_parts true true e = refl
beq_parts true false e = cc
beq_parts false true e = cc
beq_parts false false e = refl

-- equal literals have one number, and so are hashed alike
pub one_code : (l m : Literal) → (l.var == m.var && beq l.neg m.neg) ≡ true → fed.u64 (code_of l) ≡ fed.u64 (code_of m)
one_code l m e =
    let parts = and_parts (l.var == m.var) (beq l.neg m.neg) e in
    let var : l.var ≡ m.var = eqb-true l.var m.var parts.0 in
    let neg : l.neg ≡ m.neg = beq_parts l.neg m.neg parts.1 in
    ap fed.u64 (ap (λ (v : ℕ). 2 * v + (if l.neg then 1 else 0)) var ∙ ap (λ (s : Bool). 2 * m.var + (if s then 1 else 0)) neg)
