-- The tokens of the lines that boosting adds: a text can spell them, and they write no variables.
use Rattle.std.proofs.Common.{◌≡◌, ℕ, ◌+◌, ◌<◌, ◌≤◌, ◌==◌, Bool, true, false, if◌then◌else◌, None, [], ◌∷◌, ◌++◌, arith, pos, Ok}
use Rattle.std.specs.Prelude.{◌^◌, nat_lt}
use Rattle.std.specs.List.{All}
use Rattle.std.proofs.lemmas.Int.{ints}
use Rattle.std.proofs.lemmas.List.Elements.{All-nil, All-cons, All-append}
use Rattle.pb_lin.specs.Constraint.{ConstraintValue}
use Rattle.cutting_planes.specs.Stack.{IsValueOn}
use Rattle.cutting_planes.specs.declared.token.PolToken.{PolToken}
use Rattle.cutting_planes.specs.declared.token.PolToken.TheVariants.{Id, Add, Mul, Div}
use Rattle.proof_laws.specs.State.{StateValue}
use Rattle.proof_laws.specs.Refusal.{given_in, token_variables}
use Rattle.proof_laws.specs.WellFormed.{IsToken}
use Rattle.sum_outputs.specs.Laws.{AreTokensOf}
use Rattle.core_boosting.specs.Counting.{raised_tokens, times}
use Rattle.core_boosting.specs.Exchanging.{lower_tokens}

-- ---- their elements

all_times : (P : PolToken → Type 0) (t : ℕ) → P (Mul (pos t)) → All P (times t)
all_times P t mul = by (nat_lt 1 t)
  where
    by : (b : Bool) → All P (if b then Mul (pos t) ∷ [] else [])
    by true = All-cons P (Mul (pos t)) [] mul (All-nil P)
    by false = All-nil P

all_raised : (P : PolToken → Type 0) (line t lower : ℕ) → P (Id line) → P (Mul (pos t)) → P (Id lower) → P Add → P (Div (pos (t + 1))) → All P (raised_tokens line t lower)
all_raised P line t lower first mul second add div =
    All-cons P (Id line) (times t ++ (Id lower ∷ Add ∷ Div (pos (t + 1)) ∷ [])) first
    (All-append P (times t) (Id lower ∷ Add ∷ Div (pos (t + 1)) ∷ []) (all_times P t mul)
    (All-cons P (Id lower) (Add ∷ Div (pos (t + 1)) ∷ []) second (All-cons P Add (Div (pos (t + 1)) ∷ []) add (All-cons P (Div (pos (t + 1))) [] div (All-nil P)))))

all_lower : (P : PolToken → Type 0) (old line w : ℕ) → P (Id old) → P (Id line) → P (Mul (pos w)) → P Add → All P (lower_tokens old line w)
all_lower P old line w first second mul add = by (old == 0)
  where
    by : (b : Bool) → All P (if b then Id line ∷ times w else Id old ∷ Id line ∷ (times w ++ Add ∷ []))
    by true = All-cons P (Id line) (times w) second (all_times P w mul)
    by false = All-cons P (Id old) (Id line ∷ (times w ++ Add ∷ [])) first
        (All-cons P (Id line) (times w ++ Add ∷ []) second (All-append P (times w) (Add ∷ []) (all_times P w mul) (All-cons P Add [] add (All-nil P))))

some_lower : (old line w : ℕ) → lower_tokens old line w ≡ [] → ⊥
some_lower old line w = by (old == 0)
  where
    by : (b : Bool) → (if b then Id line ∷ times w else Id old ∷ Id line ∷ (times w ++ Add ∷ [])) ≡ [] → ⊥
    by true e = cc
    by false e = cc

-- ---- tokens of a state

module _ (s : StateValue) where
  abbrev WritesWithin : PolToken → Type 0
  WritesWithin t = All (λ v. v ≤ s.vars) (token_variables t)

  none : All (λ v. v ≤ s.vars) []
  none = All-nil (λ v. v ≤ s.vars)

  pub raised_are : (line t lower : ℕ) (c : ConstraintValue) → line < 2 ^ 63 → lower < 2 ^ 63 → t < 2 ^ 63 →
      IsValueOn (given_in s None None) [] (raised_tokens line t lower) (Ok c) → AreTokensOf s (raised_tokens line t lower) c
  raised_are line t lower c one other few value = record {
    formed = (λ e. cc, all_raised IsToken line t lower one (omega (arith, ints), omega (arith, ints)) other tt (omega (arith, ints), omega (arith, ints)));
    variables = all_raised WritesWithin line t lower none none none none none;
    value = value;
  }

  pub lower_are : (old line w : ℕ) (c : ConstraintValue) → old < 2 ^ 63 → line < 2 ^ 63 → w < 2 ^ 63 →
      IsValueOn (given_in s None None) [] (lower_tokens old line w) (Ok c) → AreTokensOf s (lower_tokens old line w) c
  lower_are old line w c one other few value = record {
    formed = (some_lower old line w, all_lower IsToken old line w one other (omega (arith, ints), omega (arith, ints)) tt);
    variables = all_lower WritesWithin old line w none none none none;
    value = value;
  }
