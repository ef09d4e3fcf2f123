-- Why a list isn't accepted: the first entry that is wrong, and what is wrong with it.
use Rattle.std.specs.Prelude.{◌≡◌, ◌≢◌, ℕ, zero, suc, true, false, List, [], ◌∷◌, ◌++◌, length, Contains}
use Rattle.front_set.specs.declared.entry.Entry.{Entry}
use Rattle.front_set.specs.Vector.{AreRising}
use Rattle.front_set.specs.Front.{vectors_of}
use Rattle.front_text.specs.Spelling.{Spells, IsSyntaxAt}
use Rattle.instance.specs.Shape.{InstanceValue}
use Rattle.instance.specs.Meaning.{IsModel, costs_of}
use Rattle.log_checker.specs.Accepted.{IsRightList, IsRightModel, AreIncomparable}
use Rattle.log_checker.specs.declared.fault.ListWhy.{ListWhy}
use Rattle.log_checker.specs.declared.fault.ListWhy.TheVariants.{Syntax, NotModel, Costs, Order, Comparable, NotComplete}

-- the entry comes after these in lexicographic order
abbrev pub ComesAfter : List Entry → Entry → Type 0
ComesAfter before e = AreRising (vectors_of (before ++ e ∷ []))

-- an earlier entry is comparable to this one
abbrev pub HasComparable : InstanceValue → List Entry → Entry → Type 0
HasComparable i before e = (f : Entry) × Contains before f × (AreIncomparable i f.costs e.costs → ⊥)

-- What is wrong first with an entry that follows these: it is no model, or its costs are others, or it doesn't come after
-- the entry before, or an earlier one is comparable.
abbrev pub IsEntryFault : InstanceValue → List Entry → Entry → ListWhy → Type 0
IsEntryFault i before e NotModel = IsModel i e.model → ⊥
IsEntryFault i before e Costs = IsModel i e.model × (costs_of i e.model ≢ e.costs)
IsEntryFault i before e Order = IsRightModel i e × (ComesAfter before e → ⊥)
IsEntryFault i before e Comparable = IsRightModel i e × ComesAfter before e × HasComparable i before e
IsEntryFault i before e why = ⊥

-- The entry after k right ones is wrong so.
pub record IsWrongAfter (i : InstanceValue) (list : List ℕ) (k : ℕ) (why : ListWhy) : Type 0 where
  pub before : List Entry
  pub entry : Entry
  pub after : List Entry
  pub spelled : Spells list true (before ++ entry ∷ after)
  pub right : IsRightList i before
  pub place : length before ≡ k
  pub wrong : IsEntryFault i before entry why

-- by the number of the entry, from 1; it is 0 for the first line
abbrev pub IsWrongAt : InstanceValue → List ℕ → ℕ → ListWhy → Type 0
IsWrongAt i list zero why = ⊥
IsWrongAt i list (suc k) why = IsWrongAfter i list k why

-- The first that is wrong with a list: it is the text of none, or not of a complete one, or an entry is wrong.
abbrev pub IsListFault : InstanceValue → List ℕ → ℕ → ListWhy → Type 0
IsListFault i list entry Syntax = IsSyntaxAt list entry
IsListFault i list entry NotComplete = (entry ≡ 0) × (entries : List Entry) × Spells list false entries
IsListFault i list entry why = IsWrongAt i list entry why
