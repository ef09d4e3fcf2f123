-- What a core makes of an objective in other terms.
use Rattle.std.specs.Prelude.{◌≡◌, ◌^◌, ℕ, ◌+◌, ◌-◌, ◌*◌, ◌<◌, ◌≤◌, ◌==◌, nat_lt, if◌then◌else◌, Bool, true, None, List, [], ◌∷◌, ◌++◌, length, map, Some, Ok, All, AllPairs, Contains, ℤ, pos, ◌+ℤ◌, ◌≤ℤ◌}
use Rattle.std.specs.List.{filter}
use Rattle.std.specs.FinMap.{get}
use Rattle.scut_base.specs.Literal.{Literal}
use Rattle.pb_lin.specs.Constraint.{ConstraintValue, IsNormal, literals, ones, opposite, total, value}
use Rattle.pb_lin.specs.CostRow.{CostRowValue, IsCostRow, row_cost}
use Rattle.pb_lin.specs.Given.{Given}
use Rattle.pb_lin.specs.Restriction.{is_among}
use Rattle.cutting_planes.specs.Stack.{IsValueOn}
use Rattle.cutting_planes.specs.declared.token.PolToken.{PolToken}
use Rattle.cutting_planes.specs.declared.token.PolToken.TheVariants.{Id, Add}
use Rattle.proof_laws.specs.State.{StateValue, IsState}
use Rattle.proof_laws.specs.Refusal.{given_in, line_or_none}
use Rattle.proof_rules.specs.Recording.{Snapshot}
use Rattle.sum_outputs.specs.Adding.{Always, IsOwn, IsReached}
use Rattle.sum_outputs.specs.Laws.{AreTokensOf}
use Rattle.sum_outputs.specs.Totals.{AreWeights}
use Rattle.totalizer.specs.declared.reform.Reform.{Reform}
use Rattle.totalizer.specs.Reforming.{IsLowerLine, IsReformOf}
use Rattle.core_boosting.specs.declared.counting.Counted.{Counted}
use Rattle.core_boosting.specs.Counting.{counting, times, HasVariablesNow, IsLiveNow, OutputsFollow}

-- ---- the terms

-- a term of one of the literals loses w
abbrev pub lowered : List Literal → ℕ → Literal × ℕ → Literal × ℕ
lowered lits w t = (t.0, if is_among lits t.0 then t.1 - w else t.1)

-- the terms that are left
abbrev pub remaining : List Literal → ℕ → List (Literal × ℕ) → List (Literal × ℕ)
remaining lits w terms = filter (λ t. nat_lt 0 t.1) (map (lowered lits w) terms)

-- the terms that are left, and those of the outputs
abbrev pub exchanged : List Literal → ℕ → List Literal → List (Literal × ℕ) → List (Literal × ℕ)
exchanged lits w outputs terms = remaining lits w terms ++ map (λ l. (l, w)) outputs

-- each term of one of the literals weighs at least w
abbrev pub AllWeigh : List Literal → ℕ → List (Literal × ℕ) → Type 0
AllWeigh lits w terms = All (λ t. is_among lits t.0 ≡ true → w ≤ t.1) terms

-- Literals of terms that weigh at least w each, and outputs of variables above all of them, one fewer.
pub record CanExchange (terms : List (Literal × ℕ)) (lits outputs : List Literal) (w : ℕ) : Type 0 where
  pub weights : AreWeights terms
  pub some : 0 < w
  pub among : All (Contains (literals terms)) lits
  pub least : AllWeigh lits w terms
  pub apart : AllPairs (λ l m. l.var < m.var) lits
  pub fewer : length outputs + 1 ≡ length lits
  pub rising : AllPairs (λ l m. l.var < m.var) outputs
  pub above : All (λ o. All (λ t. t.0.var < o.var) terms) outputs
  pub from_one : All (λ o. 0 < o.var) outputs

-- the terms keep their sum but for what is exchanged, and weigh w less
pub record ExchangeSums (terms : List (Literal × ℕ)) (lits outputs : List Literal) (w : ℕ) : Type 0 where
  pub weights : AreWeights (exchanged lits w outputs terms)
  pub same : (x : List Bool) → value x (exchanged lits w outputs terms) + w * value x (ones lits)
      ≡ value x terms + w * value x (ones outputs)
  pub falls : total (exchanged lits w outputs terms) + w ≡ total terms
  pub product : w * length lits ≤ total terms

-- ---- the line

-- the old line plus w times the line that counts; with no old line the latter alone
abbrev pub lower_tokens : ℕ → ℕ → ℕ → List PolToken
lower_tokens old line w = if old == 0 then Id line ∷ times w else Id old ∷ Id line ∷ (times w ++ Add ∷ [])

-- the row and the new sum have the same greatest value
abbrev pub HasGreatest : CostRowValue → ℤ → List (Literal × ℕ) → Type 0
HasGreatest row offset terms = offset +ℤ pos (total terms) ≡ row.offset +ℤ pos (total row.terms)

-- the row costs no more than the offset with the terms' sum
abbrev pub IsAbove : CostRowValue → ℤ → List (Literal × ℕ) → List Bool → Type 0
IsAbove row offset terms x = row_cost x row ≤ℤ (offset +ℤ pos (value x terms))

-- what a core's line and the old one have to be
pub record CanLower (given : Given) (row : CostRowValue) (offset : ℤ) (terms : List (Literal × ℕ))
    (lits outputs : List Literal) (w old line : ℕ) : Type 0 where
  pub exchange : CanExchange terms lits outputs w
  pub small : total row.terms < 2 ^ 63
  pub most : row.offset ≤ℤ offset
  pub greatest : HasGreatest row offset terms
  pub before : ConstraintValue
  pub named : line_or_none given.lines old ≡ Some before
  pub normal : IsNormal before.terms before.degree
  pub lower : IsLowerLine row offset terms before
  pub counts : get given.lines line ≡ Some (counting lits (map opposite outputs))
  pub counts_normal : IsNormal (counting lits (map opposite outputs)).terms (counting lits (map opposite outputs)).degree

-- the line that is made of them, and what it says
pub record LowersOn (given : Given) (row : CostRowValue) (offset : ℤ) (terms : List (Literal × ℕ)) (old line w : ℕ) : Type 0 where
  pub made : ConstraintValue
  pub tokens : IsValueOn given [] (lower_tokens old line w) (Ok made)
  pub lower : IsLowerLine row (offset +ℤ pos w) terms made

-- ---- lines that are derived

-- the tokens make a constraint of the live lines
abbrev pub MakesSome : Snapshot → List PolToken → Type 0
MakesSome a tokens = (s : StateValue) → IsReached a s → IsState s → (c : ConstraintValue) × AreTokensOf s tokens c

-- it is live under the id then, and no line has learned it
abbrev pub DerivesOwn : Snapshot → Snapshot → List PolToken → ℕ → Type 0
DerivesOwn a b tokens id = (s t : StateValue) (c : ConstraintValue) → IsReached a s → IsReached b t
    → IsValueOn (given_in s None None) [] tokens (Ok c) → IsOwn b.problem b.lines t id c

-- ---- the objective

-- it is the row in other terms, with the row's greatest value
pub record IsExactly (a : Snapshot) (row : CostRowValue) (r : Reform) : Type 0 where
  pub is_row : IsCostRow row.terms row.offset
  pub greatest : HasGreatest row r.offset r.terms
  pub reform : (s : StateValue) → IsReached a s → IsReformOf a.problem a.lines s row r

-- it is some row in other terms
abbrev pub IsOfRow : Snapshot → Reform → Type 0
IsOfRow a r = (row : CostRowValue) × IsExactly a row r

-- of which row it was, of that it is
abbrev pub KeepsRow : Snapshot → Snapshot → Reform → Reform → Type 0
KeepsRow a b before now = (row : CostRowValue) → IsExactly a row before → IsExactly b row now

-- a core of the objective's terms, with its outputs and its line
pub record MayExchange (a : Snapshot) (r : Reform) (lits : List Literal) (c : Counted) (w : ℕ) : Type 0 where
  pub row : IsOfRow a r
  pub exchange : CanExchange r.terms lits c.outputs w
  pub variables : HasVariablesNow a c.outputs
  pub follow : Always a (OutputsFollow lits c.outputs)
  pub line : IsLiveNow a c.line (counting lits (map opposite c.outputs))
