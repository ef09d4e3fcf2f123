-- A call with a limit of its own.
use Rattle.std.proofs.Common.{◌≡◌, ◌⊎◌, inl, inr, ℕ, ◌<◌, ◌≤◌, Bool, true, false, Option, None, Some, Err, List, arith, refl, sym, ap, ◌∙◌, ⊎_elim}
use Rattle.std.specs.Prelude.{nat_lt, not}
use Rattle.std.proofs.lemmas.Bool.{cases_lt, cond-false, cond-true, le-ltb, lt-ltb, ltb-true}
use Rattle.scut_base.specs.Literal.{Literal}
use Rattle.pb_lin.specs.Problem.{ProblemValue}
use Rattle.proof_laws.specs.State.{StateValue}
use Rattle.proof_laws.specs.Replay.{IsReplay}
use Rattle.proof_laws.specs.declared.line.Line.{Line}
use Rattle.proof_laws.proofs.Replays.{replay_once}
use Rattle.proof_rules.specs.Recording.{Snapshot}
use Rattle.oracle.specs.Solving.{AreAssumptions, HasFault, IsWithin, MayBeAsked, Reaches, lesser}
use Rattle.oracle.specs.declared.fault.OracleFault.{OracleFault}
use Rattle.oracle.specs.declared.fault.OracleFault.TheVariants.{Spent, Failed, Full, NoMemory}
use Rattle.search_base.specs.declared.objective_bound.ObjectiveBound.{ObjectiveBound}
use Rattle.relaxations.proofs.OpeningCalls.{not_ended}
use Rattle.relaxations.specs.Spending.{has_spent}
use Rattle.relaxations.specs.Telling.{IsGoodWithSome}

-- the lesser of two limits
lesser_cases : (n most : ℕ) → ((lesser (Some n) most ≡ n) × (n < most)) ⊎ ((lesser (Some n) most ≡ most) × (most ≤ n))
lesser_cases n most = ⊎_elim
    (λ (less : n < most). inl (cond-true (nat_lt n most) n most (lt-ltb n most less), less))
    (λ (least : most ≤ n). inr (cond-false (nat_lt n most) n most (le-ltb n most least), least))
    (cases_lt n most)

-- where no more than the lesser is learned, no more is than the oracle's limit
pub within_own : (limit : Option ℕ) (most : ℕ) (p : ProblemValue) (lines : List Line)
    → IsWithin (Some (lesser limit most)) p lines → IsWithin limit p lines
within_own None most p lines within = tt
within_own (Some n) most p lines within = λ s reached. let so = within s reached in ⊎_elim
    (λ (own : (lesser (Some n) most ≡ n) × (n < most)). let same = own.0 in omega arith)
    (λ (other : (lesser (Some n) most ≡ most) × (most ≤ n)). let same = other.0 in let least = other.1 in omega arith)
    (lesser_cases n most)

module _ (p : ProblemValue) (lines : List Line) (s : StateValue) (reached : IsReplay p lines s) (most : ℕ) (below : s.learned < most) where
  learned_is : (t : StateValue) → IsReplay p lines t → t.learned ≡ s.learned
  learned_is t other = ap (λ (u : StateValue). u.learned) (replay_once p lines t s other reached)

  -- where less is learned than may be, no more is than the lesser limit
  within_lesser : (limit : Option ℕ) → IsWithin limit p lines → IsWithin (Some (lesser limit most)) p lines
  within_lesser None within t other = let same = learned_is t other in omega arith
  within_lesser (Some n) within t other = let same = learned_is t other in let so = within t other in ⊎_elim
      (λ (own : (lesser (Some n) most ≡ n) × (n < most)). let is = own.0 in omega arith)
      (λ (least : (lesser (Some n) most ≡ most) × (most ≤ n)). let is = least.0 in omega arith)
      (lesser_cases n most)

-- such a call may be made where the state is good
pub may_be_asked : (a : Snapshot) (asked : List ObjectiveBound) (s : StateValue) (most : ℕ) (lits : List Literal) → IsGoodWithSome a asked
    → IsReplay a.problem a.lines s → s.learned < most → Reaches a.problem a.lines (λ t. AreAssumptions t.vars lits)
    → MayBeAsked a (lesser a.limit most) lits
may_be_asked a asked s most lits (front, good) reached below assumptions = record {
  whole = good.ready.whole;
  unended = not_ended a good.ready;
  assumptions = assumptions;
  earned = good.earned;
  within = within_lesser a.problem a.lines s reached most below a.limit good.within;
}

abbrev number_of : Option ℕ → ℕ
number_of None = 0
number_of (Some n) = n

-- where less was learned than might be, the oracle's limit is the one that is reached
own_limit : (limit : Option ℕ) (most learned : ℕ) → learned < most → Some (lesser limit most) ≡ Some learned → limit ≡ Some learned
own_limit None most learned less is = let same : most ≡ learned = ap number_of is in absurd (omega arith)
own_limit (Some n) most learned less is = let same : lesser (Some n) most ≡ learned = ap number_of is in ⊎_elim
    (λ (own : (lesser (Some n) most ≡ n) × (n < most)). ap (λ (k : ℕ). Some k) (sym own.0 ∙ same))
    (λ (other : (lesser (Some n) most ≡ most) × (most ≤ n)). let at = other.0 in absurd (omega arith))
    (lesser_cases n most)

not_false : (b : Bool) → not b ≡ false → b ≡ true
not_false true is = refl
not_false false is = sym is

-- then a fault is the oracle's own
pub own_fault : (limit : Option ℕ) (most : ℕ) (p : ProblemValue) (lines : List Line) (Rose : Type 0) (broken : Bool) (f : OracleFault)
    → has_spent most (Err f) ≡ false → HasFault f (Some (lesser limit most)) p lines Rose broken → HasFault f limit p lines Rose broken
own_fault limit most p lines Rose broken (Spent learned) less (spent, whole) = (
  record {
    limit = own_limit limit most learned (ltb-true learned most (not_false (nat_lt learned most) less)) spent.limit;
    reached = spent.reached;
    more = spent.more;
  },
  whole,
)
own_fault limit most p lines Rose broken Failed less fault = fault
own_fault limit most p lines Rose broken Full less fault = fault
own_fault limit most p lines Rose broken NoMemory less fault = fault
