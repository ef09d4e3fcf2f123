-- All live clauses, visited one after another.
use Rattle.std.proofs.Common.{◌≡◌, ℕ, ◌<◌, ◌≤◌, Bool, true, List, Option, Some, None, arith, sym, subst, ⊎_elim}
use Rattle.std.specs.FinMap.{get}
use Rattle.std.proofs.lemmas.Bool.{cases_lt, cases_eq}
use Rattle.pb_lin.specs.Constraint.{ConstraintValue, Holds}
use Rattle.pb_lin.specs.LineMap.{LineMap, IsNextAbove, NoneAbove}
use Rattle.proof_laws.specs.Refusal.{is_clause}

-- the line of this id holds, if it is a clause
abbrev pub HoldsAt : LineMap → List Bool → ℕ → Type 0
HoldsAt lines a id = (c : ConstraintValue) → get lines id ≡ Some c → is_clause c ≡ true → Holds a c

-- the same of all ids below this one
abbrev pub HoldBelow : LineMap → List Bool → ℕ → Type 0
HoldBelow lines a id = (k : ℕ) → k < id → HoldsAt lines a k

none_here : {X : Type 0} (o : Option X) (x : X) → o ≡ None → o ≡ Some x → ⊥
none_here o x none some = cc

module _ (lines : LineMap) (a : List Bool) (id : ℕ) (below : HoldBelow lines a id) (here : HoldsAt lines a id) where
  upto : (k : ℕ) → k ≤ id → HoldsAt lines a k
  upto k least = ⊎_elim
      (λ (same : k ≡ id). subst (HoldsAt lines a) (sym same) here)
      (λ other. below k (omega (arith, least, other)))
      (cases_eq k id)

  -- up to the next id
  pub hold_next : (next : ℕ) → IsNextAbove (get lines) id next → HoldBelow lines a next
  hold_next next above k less = ⊎_elim
      (λ (past : id < k). λ c there clause. absurd (none_here (get lines k) c (above.least k past less) there))
      (λ (least : k ≤ id). upto k least)
      (cases_lt id k)

  -- where none is above
  pub hold_all : NoneAbove (get lines) id → (k : ℕ) → HoldsAt lines a k
  hold_all none k = ⊎_elim
      (λ (past : id < k). λ c there clause. absurd (none_here (get lines k) c (none k past) there))
      (λ (least : k ≤ id). upto k least)
      (cases_lt id k)
