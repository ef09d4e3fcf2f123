-- Conditions of a line that don't fail.
use Rattle.std.proofs.Common.{◌≡◌, ◌⊎◌, inl, inr, ℕ, ◌^◌, ◌≤◌, ◌==◌, Bool, true, false, not, Option, None, Some, List, [], ◌∷◌, All, refl, ap, sym, subst, ◌∙◌}
use Rattle.std.specs.Prelude.{nat_lt, option_map, ◌&&◌}
use Rattle.std.specs.List.{find, list_all}
use Rattle.std.proofs.lemmas.Bool.{cond-false, le-ltb}
use Rattle.std.proofs.lemmas.List.Elements.{All-head, All-tail}
use Rattle.scut_base.specs.Literal.{Literal}
use Rattle.pb_lin.specs.Constraint.{ones}
use Rattle.pb_lin.specs.Problem.{ProblemValue}
use Rattle.proof_laws.specs.State.{StateValue}
use Rattle.proof_laws.specs.Steps.{clause}
use Rattle.proof_laws.specs.Refusal.{FirstOf, fault_unless, is_clause, range_fault, size_fault, written, IsRuleFault}
use Rattle.proof_laws.specs.Legal.{IsLegal, IsRefused}
use Rattle.proof_laws.specs.declared.line.Line.{Line}
use Rattle.proof_laws.specs.declared.why.Why.{Why}
use Rattle.proof_laws.specs.declared.why.Why.TheVariants.{AfterEnd, LogLong, Overflow, VarRange}

pub no_first : (o : Option Why) (Rest : Option Why → Type 0) (f : Option Why) → o ≡ None → Rest f → FirstOf o Rest f
no_first o Rest f none rest = subst (λ (first : Option Why). FirstOf first Rest f) (sym none) rest

pub no_fault : (test : Bool) (why : Why) → test ≡ true → fault_unless test why ≡ None
no_fault test why passes = ap (λ (b : Bool). fault_unless b why) passes

pub no_size_fault : (n : ℕ) → n ≤ 2 ^ 100 → size_fault n ≡ None
no_size_fault n small = no_fault (not (nat_lt (2 ^ 100) n)) Overflow (ap not (le-ltb (2 ^ 100) n small))

none_above : (n : ℕ) (vars : List ℕ) → All (λ v. v ≤ n) vars → find (λ v. nat_lt n v) vars ≡ None
none_above n [] all = refl
none_above n (v ∷ vars) all =
    cond-false (nat_lt n v) (Some v) (find (λ u. nat_lt n u) vars) (le-ltb n v (All-head (λ u. u ≤ n) v vars all))
    ∙ none_above n vars (All-tail (λ u. u ≤ n) v vars all)

pub no_range_fault : (n : ℕ) (vars : List ℕ) → All (λ v. v ≤ n) vars → range_fault n vars ≡ None
no_range_fault n vars all = ap (option_map VarRange) (none_above n vars all)

ones_tested : (lits : List Literal) → list_all (λ t. t.1 == 1) (ones lits) ≡ true
ones_tested [] = refl
ones_tested (l ∷ lits) = ones_tested lits

pub clause_tested : (lits : List Literal) → is_clause (clause lits) ≡ true
clause_tested lits = ap (λ (b : Bool). b && true) (ones_tested lits)

-- a line whose rule has no fault is legal, or refused for the number of lines alone
pub may_follow : (p : ProblemValue) (s : StateValue) (line : Line) → s.ended ≡ false → range_fault s.vars (written line) ≡ None → IsRuleFault p s line None → IsLegal p s line ⊎ IsRefused p s line LogLong
may_follow p s line running range rule = by (nat_lt s.lines (2 ^ 61)) refl
  where
    started : fault_unless (not s.ended) AfterEnd ≡ None
    started = no_fault (not s.ended) AfterEnd (ap not running)

    last : Option Why → Type 0
    last = FirstOf (range_fault s.vars (written line)) (IsRuleFault p s line)

    long : Option Why → Type 0
    long = FirstOf (fault_unless (nat_lt s.lines (2 ^ 61)) LogLong) last

    by : (b : Bool) → nat_lt s.lines (2 ^ 61) ≡ b → IsLegal p s line ⊎ IsRefused p s line LogLong
    by true short = inl (no_first (fault_unless (not s.ended) AfterEnd) long None started
        (no_first (fault_unless (nat_lt s.lines (2 ^ 61)) LogLong) last None (no_fault (nat_lt s.lines (2 ^ 61)) LogLong short)
        (no_first (range_fault s.vars (written line)) (IsRuleFault p s line) None range rule)))
    by false full = inr (no_first (fault_unless (not s.ended) AfterEnd) long (Some LogLong) started
        (subst (λ (b : Bool). FirstOf (fault_unless b LogLong) last (Some LogLong)) (sym full) refl))
