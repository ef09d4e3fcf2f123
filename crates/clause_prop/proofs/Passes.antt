-- All lines, visited one after another.
use Rattle.std.proofs.Common.{◌≡◌, ℕ, ◌<◌, ◌≤◌, length, Option, Some, None, arith, sym, subst, ⊎_elim}
use Rattle.std.specs.FinMap.{get}
use Rattle.std.proofs.lemmas.Bool.{cases_lt, cases_eq}
use Rattle.pb_lin.specs.Constraint.{ConstraintValue}
use Rattle.pb_lin.specs.LineMap.{LineMap, IsNextAbove, NoneAbove}
use Rattle.pb_lin.specs.Propagation.{IsClosedUnder}
use Rattle.clause_prop.specs.Steps.{TrailValue, partial}
use Rattle.clause_prop.specs.Propagating.{Extends, IsClosedFor}
use Rattle.clause_prop.proofs.Extensions.{extends_none, extends_twice, extends_same, extends_longer}

-- the line of this id, where there is one, is closed under the trail
abbrev pub IsClosedAt : LineMap → TrailValue → ℕ → Type 0
IsClosedAt store t id = (c : ConstraintValue) → get store id ≡ Some c → IsClosedUnder (partial t) c

-- The lines below an id were visited. Where that added no step, they are closed.
pub record IsPassed (store : LineMap) (old new : TrailValue) (id : ℕ) : Type 0 where
  pub closed : length new.steps ≡ length old.steps → (k : ℕ) → k < id → IsClosedAt store new k
  pub extends : Extends store old new

pub passed_none : (store : LineMap) (t : TrailValue) → IsPassed store t t 0
passed_none store t = record {
  closed = λ same k less. absurd (omega (arith, less));
  extends = extends_none store t;
}

-- the lines up to an id that is visited next
closed_upto : (store : LineMap) (old mid new : TrailValue) (id : ℕ) → IsPassed store old mid id → Extends store mid new → IsClosedAt store new id → length new.steps ≡ length old.steps → (k : ℕ) → k ≤ id → IsClosedAt store new k
closed_upto store old mid new id passed more closed same k upto = ⊎_elim
    (λ (here : k ≡ id). subst (IsClosedAt store new) (sym here) closed)
    (λ other.
    let first : length old.steps ≤ length mid.steps = extends_longer store old mid passed.extends in
    let second : length mid.steps ≤ length new.steps = extends_longer store mid new more in
    let is : new ≡ mid = extends_same store mid new more (omega (arith, first, second, same)) in
    subst (λ (t : TrailValue). IsClosedAt store t k) (sym is) (passed.closed (omega (arith, first, second, same)) k (omega (arith, upto, other))))
    (cases_eq k id)

held_here : {X : Type 0} (o : Option X) (x : X) → o ≡ None → o ≡ Some x → ⊥
held_here o x none some = cc

-- the visit of an id, and the next one
pub passed_more : (store : LineMap) (old mid new : TrailValue) (id next : ℕ) → IsPassed store old mid id → Extends store mid new → IsClosedAt store new id → IsNextAbove (get store) id next → IsPassed store old new next
passed_more store old mid new id next passed more closed above = record {
  closed = λ same k less. ⊎_elim
      (λ (past : id < k). λ c there. absurd (held_here (get store k) c (above.least k past less) there))
      (λ (upto : k ≤ id). closed_upto store old mid new id passed more closed same k upto)
      (cases_lt id k);
  extends = extends_twice store old mid new passed.extends more;
}

-- the visit of the last id
pub passed_whole : (store : LineMap) (old mid new : TrailValue) (id : ℕ) → IsPassed store old mid id → Extends store mid new → IsClosedAt store new id → NoneAbove (get store) id → length new.steps ≡ length old.steps → IsClosedFor store new
passed_whole store old mid new id passed more closed above same = λ k c there. ⊎_elim
    (λ (past : id < k). absurd (held_here (get store k) c (above k past) there))
    (λ (upto : k ≤ id). closed_upto store old mid new id passed more closed same k upto c there)
    (cases_lt id k)
