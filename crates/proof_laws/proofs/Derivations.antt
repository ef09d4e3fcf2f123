-- What derivations by propagation and by cutting planes show of assignments.
use Rattle.std.proofs.Common.{◌≡◌, Bool, true, false, Option, Some, None, List, [], refl, Ok, Err, Result}
use Rattle.pb_lin.specs.Constraint.{ConstraintValue, Holds, negation, size}
use Rattle.pb_lin.specs.Problem.{ProblemValue}
use Rattle.pb_lin.specs.Given.{Given, HoldsGiven, IsRefuted}
use Rattle.cutting_planes.specs.Stack.{IsValueOn}
use Rattle.cutting_planes.specs.declared.token.PolToken.{PolToken}
use Rattle.cutting_planes.proofs.Truth.{value_implied}
use Rattle.hint_rup.specs.declared.hint.Hint.{Hint}
use Rattle.hint_rup.specs.declared.hint.RupFault.{RupFault}
use Rattle.hint_rup.specs.declared.hint.RupFault.TheVariants.{NoSuchId as RupNoSuchId, Open}
use Rattle.hint_rup.specs.Hints.{IsReplayed}
use Rattle.hint_rup.proofs.HintLines.{refuted}
use Rattle.proof_laws.specs.State.{StateValue, Satisfies}
use Rattle.proof_laws.specs.Refusal.{FirstOf, fault_unless, rup_fault, given_in, IsHintsFault, IsRupFault, size_fault}
use Rattle.proof_laws.specs.declared.why.Why.{Why}
use Rattle.proof_laws.specs.declared.why.Why.TheVariants.{RupOpen}
use Rattle.proof_laws.proofs.WitnessGoals.{conflict_implies}

-- where nothing is wrong, neither the first nor the rest is
pub first_of_none : (first : Option Why) (Rest : Option Why → Type 0) → FirstOf first Rest None → (first ≡ None) × Rest None
first_of_none None Rest h = (refl, h)
first_of_none (Some why) Rest h = cc

-- a test whose failing isn't the fault
pub unless_none : (test : Bool) (why : Why) → fault_unless test why ≡ None → test ≡ true
unless_none true why e = refl
unless_none false why e = cc

-- hints with no fault refute what was given
pub replayed_refutes : (s : StateValue) (negated : ConstraintValue) (denied : Option ConstraintValue) (hints : List Hint) (why : Why) → IsHintsFault s negated denied hints why None → IsRefuted (given_in s (Some negated) denied)
replayed_refutes s negated denied hints why is = by is.0 is.1 is.2
  where
    by : (answer : Result (Unit {0}) RupFault) → IsReplayed s.vars negated (given_in s (Some negated) denied) hints answer → None ≡ rup_fault why answer → IsRefuted (given_in s (Some negated) denied)
    by (Ok done) found e = refuted (given_in s (Some negated) denied) s.vars negated hints refl found
    by (Err (RupNoSuchId id)) found e = cc
    by (Err Open) found e = cc

-- a constraint that follows by propagation
pub rup_implies : (p : ProblemValue) (s : StateValue) (goal : ConstraintValue) (hints : List Hint) → IsRupFault s goal hints None → (x : List Bool) → Satisfies p s x → Holds x goal
rup_implies p s goal hints is =
    let both = first_of_none (size_fault (size (negation goal))) (IsHintsFault s (negation goal) None hints RupOpen) is in
    conflict_implies p s goal (λ x sat negated. replayed_refutes s (negation goal) None hints RupOpen both.1 x (record { lines = sat.live; negated = negated; denied = tt }))

-- what tokens make holds where all that they may name does
pub pol_implies : (given : Given) (tokens : List PolToken) (c : ConstraintValue) → IsValueOn given [] tokens (Ok c) → (a : List Bool) → HoldsGiven a given → Holds a c
pol_implies given tokens c is = value_implied given tokens (Ok c) is
