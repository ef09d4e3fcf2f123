-- Laws of representatives, each as one statement.
use Rattle.std.specs.Prelude.{◌≡◌, ◌≤◌, ◌^◌, ℕ, Bool, List, length, take, ℤ, All, Contains}
use Rattle.front_set.specs.declared.entry.Entry.{Entry}
use Rattle.instance.specs.Meaning.{costs_of}
use Rattle.instance.specs.ParetoFront.{IsFront, IsProblemVector, problem_vector}
use Rattle.instance.specs.Shape.{InstanceValue, IsWithinLimits}
use Rattle.instance_normal.specs.NormalForm.{IsNormalFormOf}
use Rattle.front_text.specs.declared.reps.Reps.{Reps}
use Rattle.pb_lin.specs.Problem.{ProblemValue, IsProblemModel}
use Rattle.representatives.specs.Bounded.{IsBounded, IsListingLog}
use Rattle.representatives.specs.Judged.{IsRepsFault}
use Rattle.representatives.specs.Representatives.{AreServing, Serves}
use Rattle.representatives.specs.declared.fault.RepsWhy.{RepsWhy}

-- What a bounded problem is made of: an instance within its limits, its normal form, a vector of it, and some assignments of its variables.
pub record AreGiven (i : InstanceValue) (p : ProblemValue) (v : List ℤ) (list : List (List Bool)) : Type 0 where
  pub limits : IsWithinLimits i
  pub normal : IsNormalFormOf i p
  pub vector : IsProblemVector i v
  pub few : length list ≤ 2 ^ 20
  pub long : All (λ a. length a ≡ i.vars) list

-- a model of the bounded problem, cut to the instance's variables, serves the vector and isn't listed
abbrev pub BoundedModelServes : Type 0
BoundedModelServes = (i : InstanceValue) (p q : ProblemValue) (v : List ℤ) (list : List (List Bool)) → AreGiven i p v list → IsBounded p (problem_vector i v) list q
    → (b : List Bool) → IsProblemModel q b → Serves i v (take i.vars b) × (Contains list (take i.vars b) → ⊥)

-- where a log shows it, each model that serves the vector is listed
abbrev pub EndedLogListsAll : Type 0
EndedLogListsAll = (i : InstanceValue) (p : ProblemValue) (v : List ℤ) (list : List (List Bool)) (log : List ℕ) → AreGiven i p v list → IsListingLog p (problem_vector i v) list log
    → (a : List Bool) → Serves i v a → Contains list a

-- a problem, a vector and a list of models have one bounded problem at most
abbrev pub OneBoundedProblem : Type 0
OneBoundedProblem = (p : ProblemValue) (us : List ℤ) (list : List (List Bool)) (q r : ProblemValue) → IsBounded p us list q → IsBounded p us list r → q ≡ r

-- a model that serves a vector of the front has exactly these costs
abbrev pub FrontIsServedExactly : Type 0
FrontIsServedExactly = (i : InstanceValue) (entries : List Entry) → IsFront i entries → (e : Entry) → Contains entries e → (a : List Bool) → Serves i e.costs a → costs_of i a ≡ e.costs

-- nothing is wrong with different models that serve the vector, in the right number
abbrev pub NoFaultWhereServing : Type 0
NoFaultWhereServing = (i : InstanceValue) (v : List ℤ) (k : ℕ) (r : Reps) (why : RepsWhy) → AreServing i v k r.all r.models → IsRepsFault i v k r why → ⊥

-- one thing at most is wrong first
abbrev pub OneRepsFault : Type 0
OneRepsFault = (i : InstanceValue) (v : List ℤ) (k : ℕ) (r : Reps) (why other : RepsWhy) → IsRepsFault i v k r why → IsRepsFault i v k r other → why ≡ other
