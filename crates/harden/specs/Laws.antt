-- Laws of hardening.
use Rattle.std.specs.Prelude.{◌≡◌, ℕ, ◌+◌, ◌<◌, ◌≤◌, ◌^◌, true, false, Some, List, [], length, sum_by, All, Ok}
use Rattle.std.specs.FinMap.{get}
use Rattle.scut_base.specs.Literal.{Literal}
use Rattle.pb_lin.specs.Constraint.{ConstraintValue, IsNormal, negation, size, total}
use Rattle.pb_lin.specs.Problem.{ProblemValue, IsProblem}
use Rattle.pb_lin.specs.Substitution.{touches}
use Rattle.cutting_planes.specs.Rules.{coefficient_in, weakened}
use Rattle.cutting_planes.specs.Stack.{IsValueOn}
use Rattle.proof_laws.specs.State.{StateValue, Fits, IsState, start}
use Rattle.proof_laws.specs.Steps.{with_line}
use Rattle.proof_laws.specs.WellFormed.{IsWellFormed}
use Rattle.proof_laws.specs.Refusal.{given_in}
use Rattle.proof_laws.specs.Legal.{IsLegal, IsNext}
use Rattle.harden.specs.Hardened.{can_fix, dom_line, falsified, first_fixed, fixing, fixing_line, in_costs, red_line, row_tokens}

-- where a literal's variable is among the terms, it is as this literal
abbrev pub OnlyAs : Literal → List (Literal × ℕ) → Type 0
OnlyAs m terms = All (λ t. t.0.var ≡ m.var → t.0 ≡ m) terms

-- the coefficient of the variable
abbrev pub coefficient : ℕ → List (Literal × ℕ) → ℕ
coefficient var terms = sum_by (coefficient_in var) terms

-- a row with the negation of what is left of it where the one literal m is true
abbrev pub FixedRowsAreRefuted : Type 0
FixedRowsAreRefuted = (s : StateValue) (id : ℕ) (c denied : ConstraintValue) (m : Literal)
    → get s.live id ≡ Some c → 0 < m.var → IsNormal c.terms c.degree → size c ≤ 2 ^ 66 → OnlyAs m c.terms
    → 0 < coefficient m.var c.terms → coefficient m.var c.terms < c.degree
    → (r : ConstraintValue) × IsValueOn (given_in s (Some (negation (weakened m.var c))) (Some denied)) [] (row_tokens id) (Ok r) × (total r.terms < r.degree)

-- a state of a proof over the problem that hasn't ended, with room for a line
abbrev pub DomLinesAreLegal : Type 0
DomLinesAreLegal = (p : ProblemValue) (s : StateValue) (l : Literal)
    → IsProblem p → Fits p s → s.ended ≡ false → s.lines < 2 ^ 61 → 0 < l.var → l.var ≤ p.vars
    → can_fix p l ≡ true → in_costs p l ≡ true → IsLegal p s (dom_line p l)

-- what the substitution touches among the live lines are rows of the problem
abbrev pub TouchesRows : ProblemValue → StateValue → Literal → Type 0
TouchesRows p s l = (id : ℕ) (c : ConstraintValue) → get s.live id ≡ Some c → touches (falsified l) c ≡ true → (0 < id) × (id ≤ length p.rows)

abbrev pub RedLinesAreLegal : Type 0
RedLinesAreLegal = (p : ProblemValue) (s : StateValue) (l : Literal)
    → IsProblem p → Fits p s → s.ended ≡ false → s.lines < 2 ^ 61 → 0 < l.var → l.var ≤ p.vars
    → can_fix p l ≡ true → TouchesRows p s l → IsLegal p s (red_line p l)

-- ---- all lines in order

-- A state of a proof that has added the lines of the variables below this one, and no others.
pub record IsHardenedTo (p : ProblemValue) (s : StateValue) (var : ℕ) : Type 0 where
  pub state : IsState s
  pub fits : Fits p s
  pub unended : s.ended ≡ false
  pub none_learned : s.learned ≡ 0
  pub few : s.lines < var
  pub lines : (id : ℕ) (c : ConstraintValue) → get s.live id ≡ Some c → length p.rows < id → All (λ t. t.0.var < var) c.terms

-- a new proof is such a state for the first variable
abbrev pub HardeningBegins : Type 0
HardeningBegins = (p : ProblemValue) → IsProblem p → IsHardenedTo p (start p) 1

-- the line that makes the literal false is one that a log can spell, is legal, and leads to such a state for the next variable
pub record MayBeFixed (p : ProblemValue) (s : StateValue) (l : Literal) : Type 0 where
  pub formed : IsWellFormed (fixing_line p l)
  pub next : IsNext p s (fixing_line p l) (with_line s (fixing l))
  pub hardened : IsHardenedTo p (with_line s (fixing l)) (l.var + 1)

-- where a literal of the next variable is made false, its line may follow
abbrev pub HardeningGoesOn : Type 0
HardeningGoesOn = (p : ProblemValue) (s : StateValue) (var : ℕ) (l : Literal) → IsProblem p → IsHardenedTo p s var → 0 < var → var ≤ p.vars
    → first_fixed p var ≡ Some l → MayBeFixed p s l
