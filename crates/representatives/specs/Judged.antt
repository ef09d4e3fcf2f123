-- What is wrong first with the models of an entry.
use Rattle.std.specs.Prelude.{◌≡◌, ◌≢◌, ◌≤◌, ℕ, Bool, MatchBool, List, ◌∷◌, ◌++◌, length, ℤ, All, Contains}
use Rattle.instance.specs.Shape.{InstanceValue}
use Rattle.instance.specs.Meaning.{IsModel, costs_of}
use Rattle.instance.specs.ParetoFront.{WeaklyDominates}
use Rattle.front_text.specs.declared.reps.Reps.{Reps}
use Rattle.representatives.specs.Representatives.{AreDifferent, Serves}
use Rattle.representatives.specs.declared.fault.RepsFault.{RepsFault}
use Rattle.representatives.specs.declared.fault.RepsFault.TheVariants.{Refused, NoMemory}
use Rattle.representatives.specs.declared.fault.RepsWhy.{RepsWhy}
use Rattle.representatives.specs.declared.fault.RepsWhy.TheVariants.{Count, NotModel, Costs, Repeated}

-- models that are to be all are k or more, or others aren't k
abbrev pub HasWrongCount : ℕ → Reps → Type 0
HasWrongCount k r = MatchBool r.all (k ≤ length r.models) (length r.models ≢ k)

-- What is wrong first with a model that follows these: it is none of the instance, or doesn't serve the vector, or is one of them.
abbrev pub IsModelFault : InstanceValue → List ℤ → List (List Bool) → List Bool → RepsWhy → Type 0
IsModelFault i v before a NotModel = IsModel i a → ⊥
IsModelFault i v before a Costs = IsModel i a × (WeaklyDominates i (costs_of i a) v → ⊥)
IsModelFault i v before a Repeated = Serves i v a × Contains before a
IsModelFault i v before a why = ⊥

-- The model after different ones that serve the vector is wrong so.
pub record HasWrongModel (i : InstanceValue) (v : List ℤ) (models : List (List Bool)) (why : RepsWhy) : Type 0 where
  pub before : List (List Bool)
  pub model : List Bool
  pub after : List (List Bool)
  pub is : models ≡ before ++ model ∷ after
  pub serve : All (Serves i v) before
  pub different : AreDifferent before
  pub wrong : IsModelFault i v before model why

-- The first that is wrong: their number, or a model.
abbrev pub IsRepsFault : InstanceValue → List ℤ → ℕ → Reps → RepsWhy → Type 0
IsRepsFault i v k r Count = HasWrongCount k r
IsRepsFault i v k r why = (HasWrongCount k r → ⊥) × HasWrongModel i v r.models why

-- why the models aren't taken
abbrev pub IsFaultOf : InstanceValue → List ℤ → ℕ → Reps → RepsFault → Type 0
IsFaultOf i v k r (Refused why) = IsRepsFault i v k r why
IsFaultOf i v k r NoMemory = Unit {0}
