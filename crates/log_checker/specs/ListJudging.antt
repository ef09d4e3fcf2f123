-- How the entries of a list are judged; nothing of it has to be believed.
use Rattle.std.specs.Prelude.{◌≡◌, ℕ, ◌+◌, ◌-◌, Bool, All, ◌||◌, nat_le, if◌then◌else◌, List, ◌∷◌, ◌++◌, length, ℤ}
use Rattle.std.specs.List.{list_any}
use Rattle.front_set.specs.declared.entry.Entry.{Entry}
use Rattle.instance.specs.declared.objective.Objective.{Objective}
use Rattle.instance.specs.Shape.{InstanceValue}
use Rattle.instance.specs.ParetoFront.{weakly_dominates}
use Rattle.log_checker.specs.Accepted.{IsRightList, AreIncomparable}
use Rattle.log_checker.specs.ListFaults.{IsEntryFault}
use Rattle.log_checker.specs.declared.fault.ListWhy.{ListWhy}

-- The k-th of these entries, counted from 1, is the first that is wrong, and so.
pub record IsFirstWrong (i : InstanceValue) (entries : List Entry) (k : ℕ) (why : ListWhy) : Type 0 where
  pub before : List Entry
  pub entry : Entry
  pub after : List Entry
  pub is : entries ≡ before ++ entry ∷ after
  pub right : IsRightList i before
  pub place : length before + 1 ≡ k
  pub wrong : IsEntryFault i before entry why

-- one of them weakly dominates the other
abbrev pub are_comparable : List Objective → List ℤ → List ℤ → Bool
are_comparable os u v = weakly_dominates os u v || weakly_dominates os v u

-- some entry is comparable to these costs
abbrev pub any_comparable : List Objective → List Entry → List ℤ → Bool
any_comparable os entries costs = list_any (λ e. are_comparable os e.costs costs) entries

-- the first entry with which a further one is compared
abbrev pub compared_from : List Objective → List Entry → ℕ
compared_from os before = if nat_le (length os) 2 then length before - 1 else 0

-- the entry is incomparable to each of these
abbrev pub IsApartFrom : InstanceValue → List Entry → Entry → Type 0
IsApartFrom i before e = All (λ f. AreIncomparable i f.costs e.costs) before
