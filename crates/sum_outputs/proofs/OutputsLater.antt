-- What is known of outputs is known after lines were added.
use Rattle.std.proofs.Common.{◌≡◌, ◌⊎◌, inl, inr, ℕ, ◌<◌, ◌≤◌, false, List, [], ◌∷◌, get_or, length, sym, subst, ⊎_elim, arith}
use Rattle.std.proofs.lemmas.Bool.{cases_order}
use Rattle.pb_lin.specs.Constraint.{ConstraintValue, IsVariable}
use Rattle.pb_lin.specs.Place.{IsPlace}
use Rattle.pb_lin.specs.Problem.{ProblemValue}
use Rattle.cutting_planes.proofs.Terms.{Terms}
use Rattle.proof_laws.specs.State.{StateValue}
use Rattle.proof_laws.specs.Steps.{reached_if, reached_only_if}
use Rattle.proof_laws.proofs.Replays.{replay_once}
use Rattle.proof_rules.specs.Recording.{Snapshot}
use Rattle.sum_outputs.specs.Adding.{IsOwn, IsReached, IsReady, HasLater, Continues}
use Rattle.sum_outputs.specs.Outputs.{IsOfLeaf, IsDefined, IsLiteralOf, AreLiteralsOf, CanImply, CanImplyNow}
use Rattle.sum_outputs.specs.declared.sum_output.SumOutput.{SumOutput}
use Rattle.sum_outputs.proofs.LaterStates.{continues_again, continues_twice, ready_later}

module _ (a b : Snapshot) (on : Continues a b) (s : StateValue) (has : HasLater a b s) where
  own_then : (id : ℕ) (c : ConstraintValue) → IsOwn a.problem a.lines s id c → IsOwn b.problem b.lines has.state id c
  own_then id c own = subst (λ (p : ProblemValue). IsOwn p b.lines has.state id c) (sym on.problem) (has.later.own id c own)

  pub variable_then : (v : ℕ) → IsVariable s.vars v → IsVariable has.state.vars v
  variable_then v is = let more = has.later.vars in (is.0, omega arith)

  pub defined_then : (terms : Terms) (o : SumOutput) → IsDefined a s terms o → IsDefined b has.state terms o
  defined_then terms o is = record {
    sum = is.sum;
    degree = is.degree;
    normal = is.normal;
    order = is.order;
    same = is.same;
    whole = is.whole;
    below = is.below;
    above = subst (λ (p : ProblemValue). p.vars < o.lit.var) (sym on.problem) is.above;
    positive = is.positive;
    named = is.named;
    lower = own_then o.lower (reached_if o.lit.var is.sum) is.lower;
    upper = own_then o.upper (reached_only_if o.lit.var is.sum) is.upper;
  }

  pub literal_then : (terms : Terms) (o : SumOutput) → IsLiteralOf a s terms o → IsLiteralOf b has.state terms o
  literal_then terms o is = record {
    known = ⊎_elim (λ (leaf : IsOfLeaf terms o). inl leaf) (λ (d : IsDefined a s terms o). inr (defined_then terms o d)) is.known;
    some = is.some;
    most = is.most;
    variable = variable_then o.lit.var is.variable;
  }

  literals_then : (lists : List Terms) (os : List SumOutput) → AreLiteralsOf a s lists os → AreLiteralsOf b has.state lists os
  literals_then [] [] are = tt
  literals_then [] (o ∷ os) are = absurd are
  literals_then (ts ∷ lists) [] are = absurd are
  literals_then (ts ∷ lists) (o ∷ os) are = (literal_then ts o are.0, literals_then lists os are.1)

  pub can_then : (parts : List SumOutput) (weak : Terms) (target : SumOutput) → CanImply a s parts weak target → CanImply b has.state parts weak target
  can_then parts weak target can = record {
    node = can.node;
    lists = can.lists;
    defined = defined_then can.node target can.defined;
    some = can.some;
    variable = variable_then target.lit.var can.variable;
    known = literals_then can.lists parts can.known;
    same = can.same;
    whole = can.whole;
    small = can.small;
    reaches = can.reaches;
    apart = can.apart;
    other = can.other;
    variables = λ k d short. variable_then (get_or weak k d).0.var (can.variables k d short);
    outside = can.outside;
    target_outside = can.target_outside;
  }

-- what is so of the state that the lines reach, and of each later one
pub now_later : (a b : Snapshot) (P : Snapshot → StateValue → Type 0) → IsReady a → (on : Continues a b) → ((s : StateValue) → (has : HasLater a b s) → P a s → P b has.state) → ((s : StateValue) → IsReached a s → P a s) → (t : StateValue) → IsReached b t → P b t
now_later a b P ready on goes is t reached =
    let has = on.states ready.state ready.reached in
    let same : has.state ≡ t = replay_once b.problem b.lines has.state t has.reached reached in
    subst (λ (u : StateValue). P b u) same (goes ready.state has (is ready.state ready.reached))

pub can_later : (a b : Snapshot) (parts : List SumOutput) (weak : Terms) (target : SumOutput) → IsReady a → Continues a b → CanImplyNow a parts weak target → CanImplyNow b parts weak target
can_later a b parts weak target ready on can = now_later a b (λ c s. CanImply c s parts weak target) ready on (λ s has is. can_then a b on s has parts weak target is) can

-- ---- calls in a row

-- calls have added lines, and none has failed
pub record IsUnderWay (a b : Snapshot) : Type 0 where
  pub on : Continues a b
  pub whole : b.broken ≡ false

pub way_starts : (a : Snapshot) → IsReady a → IsUnderWay a a
way_starts a ready = record { on = continues_again a; whole = ready.whole }

pub way_ready : (a b : Snapshot) → IsReady a → IsUnderWay a b → IsReady b
way_ready a b ready way = ready_later a b ready way.on way.whole

pub way_on : (a b c : Snapshot) → IsUnderWay a b → Continues b c → c.broken ≡ false → IsUnderWay a c
way_on a b c way on whole = record { on = continues_twice a b c way.on on; whole = whole }

-- ---- lists that are gone through

-- an element whose number isn't below the given one stands at the place or after it
pub from_place : {X : Type 0} (n : X → ℕ) (xs : List X) (number i k : ℕ) (d : X) → IsPlace n xs number i → number ≤ n (get_or xs k d) → i ≤ k
from_place n xs number i k d place most = ⊎_elim
    (λ (same : i ≡ k). omega arith)
    (λ (other : (i < k) ⊎ (k < i)). ⊎_elim (λ (less : i < k). omega arith) (λ (more : k < i). let below = place.below k d more in absurd (omega arith)) other)
    (cases_order i k)

-- and one whose number is below it stands before the place
pub before_place : {X : Type 0} (n : X → ℕ) (xs : List X) (number i k : ℕ) (d : X) → IsPlace n xs number i → k < length xs → n (get_or xs k d) < number → k < i
before_place n xs number i k d place short less = ⊎_elim
    (λ (same : i ≡ k). let above = place.above k d (omega arith) short in absurd (omega arith))
    (λ (other : (i < k) ⊎ (k < i)). ⊎_elim (λ (low : i < k). let above = place.above k d (omega arith) short in absurd (omega arith)) (λ (more : k < i). more) other)
    (cases_order i k)
