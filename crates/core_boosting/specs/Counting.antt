-- Lines that count: more of a core's literals are true than of the outputs over them.
use Rattle.std.specs.Prelude.{◌≡◌, ℕ, ◌+◌, ◌-◌, ◌<◌, ◌≤◌, ◌^◌, nat_lt, if◌then◌else◌, List, [], ◌∷◌, ◌++◌, length, map, slice_index_or, pos, Some, true, All, AllPairs, Bool}
use Rattle.std.specs.FinMap.{get}
use Rattle.scut_base.specs.Literal.{Literal}
use Rattle.scut_base.specs.Assignment.{lit_true}
use Rattle.pb_lin.specs.Constraint.{ConstraintValue, IsVariable, ones, opposite, value}
use Rattle.pb_lin.specs.Given.{Given}
use Rattle.cutting_planes.specs.declared.token.PolToken.{PolToken}
use Rattle.cutting_planes.specs.declared.token.PolToken.TheVariants.{Id, Add, Mul, Div}
use Rattle.proof_laws.specs.State.{StateValue}
use Rattle.proof_rules.specs.Recording.{Snapshot}
use Rattle.sum_outputs.specs.Adding.{Always, IsReached}
use Rattle.totalizer.specs.declared.bound.Bound.TheVariants.{At}
use Rattle.totalizer.specs.Meaning.{IsBound}
use Rattle.totalizer.specs.Demanding.{IsThere}
use Rattle.totalizer.specs.Totalizing.{TotalizerValue, Fits, terms_of}
use Rattle.core_boosting.specs.declared.counting.Counted.{Counted}

-- ---- the line

-- One more of the literals is true, at least, than are false of the others: these are the opposites of outputs.
abbrev pub counting : List Literal → List Literal → ConstraintValue
counting lits against = record { terms = ones (lits ++ against); degree = length against + 1 }

-- where the output is true, n of the literals are; `against` is its opposite
abbrev pub reaching : List Literal → Literal → ℕ → ConstraintValue
reaching lits against n = record { terms = ones lits ++ (against, n) ∷ []; degree = n }

-- a factor of 1 is left out
abbrev pub times : ℕ → List PolToken
times t = if nat_lt 1 t then Mul (pos t) ∷ [] else []

-- the line t times, the lower line of the next output, and their sum divided by t + 1
abbrev pub raised_tokens : ℕ → ℕ → ℕ → List PolToken
raised_tokens line t lower = Id line ∷ (times t ++ (Id lower ∷ Add ∷ Div (pos (t + 1)) ∷ []))

-- the line that counts so far, and the lower line of the next output
pub record CountsSoFar (given : Given) (lits against : List Literal) (next : Literal) (line lower : ℕ) : Type 0 where
  pub counts : get given.lines line ≡ Some (counting lits against)
  pub reaches : get given.lines lower ≡ Some (reaching lits next (length against + 2))
  pub from_one : All (λ l. 0 < l.var) (lits ++ (against ++ next ∷ []))
  pub rising : AllPairs (λ l m. l.var < m.var) (lits ++ (against ++ next ∷ []))
  pub few : length lits ≤ 2 ^ 40
  pub more : length against + 1 < length lits

-- ---- the core, and the outputs over it

-- where n + 1 of the literals or more are true, so is the n-th output, counting from 1
abbrev pub OutputsFollow : List Literal → List Literal → List Bool → Type 0
OutputsFollow lits outputs x = (i : ℕ) (d : Literal) → i < length outputs → i + 2 ≤ value x (ones lits)
    → lit_true x (slice_index_or outputs i d) ≡ true

-- the constraint is live under this id in the state that is reached
abbrev pub IsLiveNow : Snapshot → ℕ → ConstraintValue → Type 0
IsLiveNow a id c = (s : StateValue) → IsReached a s → get s.live id ≡ Some c

-- the literals' variables are those of the state that is reached
abbrev pub HasVariablesNow : Snapshot → List Literal → Type 0
HasVariablesNow a lits = (s : StateValue) → IsReached a s → All (λ l. IsVariable s.vars l.var) lits

-- some literals, not too many, and the live line of which they are the clause
pub record HasCore (a : Snapshot) (lits : List Literal) (id : ℕ) : Type 0 where
  pub some : 0 < length lits
  pub few : length lits ≤ 2 ^ 40
  pub rising : AllPairs (λ l m. l.var < m.var) lits
  pub variables : HasVariablesNow a lits
  pub line : IsLiveNow a id (counting lits [])

-- The outputs so far stand for "two of the literals are true", "three are" and so on, and the line says that more of
-- the literals are true than of the outputs. The totalizer has no other outputs.
pub record CountsNow (a : Snapshot) (lits : List Literal) (t : TotalizerValue) (c : Counted) : Type 0 where
  pub few : length lits ≤ 2 ^ 40
  pub terms : terms_of t ≡ ones lits
  pub fits : Fits a t
  pub rising : AllPairs (λ l m. l.var < m.var) (lits ++ c.outputs)
  pub variables : HasVariablesNow a (lits ++ c.outputs)
  pub sums : (n : ℕ) (l : Literal) → 1 < length lits → IsThere t.made (length t.nodes - 1) n l → n ≤ length c.outputs + 1
  pub bounds : (i : ℕ) (d : Literal) → i < length c.outputs → (id : ℕ)
      × IsBound a.problem a.lines (ones lits) (pos (i + 2)) (At (slice_index_or c.outputs i d) id)
  pub line : IsLiveNow a c.line (counting lits (map opposite c.outputs))

-- the line that counts so far, and one output more with its lower line, of a variable above those that were there
pub record HasNext (a : Snapshot) (lits : List Literal) (c : Counted) (output : Literal) (lower : ℕ) : Type 0 where
  pub few : length lits ≤ 2 ^ 40
  pub more : length c.outputs + 1 < length lits
  pub rising : AllPairs (λ l m. l.var < m.var) (lits ++ (c.outputs ++ output ∷ []))
  pub from_one : All (λ l. 0 < l.var) (lits ++ (c.outputs ++ output ∷ []))
  pub counts : IsLiveNow a c.line (counting lits (map opposite c.outputs))
  pub reaches : IsLiveNow a lower (reaching lits (opposite output) (length c.outputs + 2))

-- one output more, whose variable is above those that were there
pub record AddsOutput (a : Snapshot) (before now : Counted) : Type 0 where
  pub output : Literal
  pub is : now.outputs ≡ before.outputs ++ output ∷ []
  pub new : (s : StateValue) → IsReached a s → s.vars < output.var

-- one output fewer than literals, all of new variables, and the line that says that more of the literals are true
pub record CountsCore (a b : Snapshot) (lits : List Literal) (c : Counted) : Type 0 where
  pub fewer : length c.outputs + 1 ≡ length lits
  pub rising : AllPairs (λ l m. l.var < m.var) c.outputs
  pub new : (s : StateValue) → IsReached a s → All (λ o. s.vars < o.var) c.outputs
  pub variables : HasVariablesNow b c.outputs
  pub follow : Always b (OutputsFollow lits c.outputs)
  pub line : IsLiveNow b c.line (counting lits (map opposite c.outputs))
