-- What the statements read so far make.
use Rattle.std.specs.Prelude.{◌≡◌, ◌≢◌, ℕ, ◌<◌, ◌≤◌, ◌^◌, max, List, [], ◌∷◌, ◌++◌, length, All, Bool, true, false, Option, Result}
use Rattle.instance.specs.declared.row.Linear.{Linear}
use Rattle.instance.specs.declared.objective.Objective.{Objective}
use Rattle.instance.specs.declared.objective.Sense.{Sense}
use Rattle.instance.specs.declared.fault.PlaceFault.{PlaceFault}
use Rattle.instance.specs.declared.fault.ReadFault.{ReadFault}
use Rattle.instance.specs.Shape.{InstanceValue, objective_magnitude, row_magnitude}
use Rattle.mopb_reader.specs.Tokens.{plain}
use Rattle.mopb_reader.specs.Grammar.{SpellsStatements, largest_in_objectives, largest_in_rows}
use Rattle.mopb_reader.specs.FirstFault.{Progress, Progressed, Start, step, head_begun, moved, after, fault_from}
use Rattle.mopb_reader.specs.Streams.{Stream}
use Rattle.mopb_reader.specs.Steps.{IsReadObjective, IsReadRow, fault_after, Finds, Meets}
use Rattle.mopb_reader.specs.declared.token.Token.{Token}
use Rattle.mopb_reader.specs.declared.draft.Draft.{Draft}

-- the draft is within the limits, and knows its largest variable
pub record IsDraft (d : Draft) : Type 0 where
  pub variables : d.vars ≡ max (largest_in_objectives d.objectives) (largest_in_rows d.linear)
  pub within : d.vars ≤ 2 ^ 24
  pub count : length d.objectives ≤ 64
  pub objectives : All (λ o. objective_magnitude o < 2 ^ 63) d.objectives
  pub rows : All (λ row. row_magnitude row < 2 ^ 63) d.linear

-- What the tokens left spell makes, after the draft, what all tokens spell: no objective stands
-- after a row.
abbrev pub GoesOn : List Token → List Token → Draft → Type 0
GoesOn all left d = (objectives : List Objective) (rows : List Linear)
    → (d.linear ≢ [] → objectives ≡ []) → SpellsStatements objectives rows left
    → SpellsStatements (d.objectives ++ objectives) (d.linear ++ rows) all

-- the tokens are the draft's statements
abbrev pub IsSpelledBy : List Token → Draft → Type 0
IsSpelledBy tokens d = SpellsStatements d.objectives d.linear tokens

-- what an objective of this sense more makes of a draft
pub record AddsObjective (sense : Sense) (old new : Stream) (d e : Draft) : Type 0 where
  pub objective : Objective
  pub vars : ℕ
  pub before : d.linear ≡ []
  pub room : length d.objectives < 64
  pub added : e ≡ record d { objectives = d.objectives ++ objective ∷ []; vars = max d.vars vars }
  pub read : IsReadObjective sense old new objective vars

-- what a row more makes of a draft
pub record AddsRow (first : Token) (old new : Stream) (d e : Draft) : Type 0 where
  pub row : Linear
  pub vars : ℕ
  pub added : e ≡ record d { linear = d.linear ++ row ∷ []; vars = max d.vars vars }
  pub read : IsReadRow first old new row vars

-- what a statement more makes of a draft
pub record AddsStatement (first : Token) (old new : Stream) (d e : Draft) : Type 0 where
  pub draft : IsDraft d → IsDraft e
  pub spelled : (all : List Token) → GoesOn all (first ∷ plain old.left) d
      → GoesOn all (plain new.left) e

-- the list is not empty
abbrev pub has_any : {X : Type 0} → List X → Bool
has_any [] = false
has_any (x ∷ xs) = true

-- how far a draft is, where a statement begins
abbrev pub progress_of : Draft → Progress
progress_of d = record { objectives = length d.objectives; rows = has_any d.linear; place = Start }

-- the first fault of what follows a draft
abbrev pub draft_fault : Stream → Draft → Option ReadFault
draft_fault tokens d = fault_from tokens.last (progress_of d) tokens.left

-- the first fault from the token taken last on is found, up to the end of a statement
abbrev pub FindsOn : {T : Type 0} → Progressed → Stream → Stream → Draft → Result T PlaceFault
    → Type 0
FindsOn begun old new e result = Finds (fault_after old begun) result new (λ _. draft_fault new e)

-- the same from the first token of a statement, of an objective and of a row on
abbrev pub FindsStatement : {T : Type 0} → Token → Stream → Stream → Draft → Draft
    → Result T PlaceFault → Type 0
FindsStatement first old new d e result = FindsOn (step (progress_of d) first) old new e result

abbrev pub FindsObjective : {T : Type 0} → Stream → Stream → Draft → Draft → Result T PlaceFault
    → Type 0
FindsObjective old new d e result = FindsOn (head_begun (progress_of d)) old new e result

abbrev pub FindsRowIn : {T : Type 0} → Token → Stream → Stream → Draft → Draft
    → Result T PlaceFault → Type 0
FindsRowIn first old new d e result =
    FindsOn (moved (progress_of d) true (after Start first)) old new e result

-- the same from a statement's first token on, where the fault has its line
abbrev pub MeetsStatement : {T : Type 0} → Token → Stream → Stream → Draft → Draft
    → Result T ReadFault → Type 0
MeetsStatement first old new d e result =
    Meets (fault_after old (step (progress_of d) first)) result (draft_fault new e)

-- the instance of a draft
abbrev pub instance_of : Draft → InstanceValue
instance_of d = record { vars = d.vars; clauses = []; linear = d.linear; objectives = d.objectives }
