-- The fence of a search from below, and what a turn makes of it.
use Rattle.std.specs.Prelude.{◌≡◌, ℕ, ◌+◌, ◌<◌, List, [], ◌∷◌, length, map, ℤ, pos, ◌+ℤ◌, ◌-ℤ◌, ◌<ℤ◌, unsigned_abs}
use Rattle.front_set.specs.Vector.{IsBelow}
use Rattle.pb_lin.specs.Constraint.{total}
use Rattle.pb_lin.specs.CostRow.{CostRowValue}
use Rattle.pb_lin.specs.Problem.{ProblemValue}
use Rattle.proof_rules.specs.Recording.{Snapshot}
use Rattle.search_base.specs.Logged.{Logs}
use Rattle.search_base.specs.declared.turn.Turn.{Turn}
use Rattle.search_base.specs.declared.turn.Turn.TheVariants.{Found, Moved, Finished}
use Rattle.relaxations.specs.Telling.{IsRemainingAt, number_at}

-- upper bounds of the costs, and what each cost is at most
pub record FenceValue : Type 0 where
  pub fence : List ℤ
  pub tops : List ℤ

-- all that a row can cost
abbrev pub greatest_cost : CostRowValue → ℤ
greatest_cost r = pos (total r.terms) +ℤ r.offset

-- how far the one list is from the other, summed
abbrev pub room : List ℤ → List ℤ → ℕ
room [] gs = 0
room (f ∷ fs) [] = 0
room (f ∷ fs) (g ∷ gs) = unsigned_abs (g -ℤ f) + room fs gs

-- how far the fence can rise
abbrev pub own_number : FenceValue → ℕ
own_number s = room s.fence s.tops

-- the tops are those of the problem's objectives, and the fence is below them
pub record Serves (s : FenceValue) (p : ProblemValue) : Type 0 where
  pub tops : s.tops ≡ map greatest_cost p.costs
  pub within : IsBelow s.fence s.tops

-- ---- turns

-- a vector below the fence was logged, and the fence has stayed
pub record FindsInside (a b : Snapshot) (fence now : List ℤ) : Type 0 where
  pub costs : List ℤ
  pub logs : Logs a.problem a.lines b.lines costs
  pub below : IsBelow costs fence
  pub same : now ≡ fence

-- the number at this place has risen
abbrev pub HasRisen : List ℤ → List ℤ → ℕ → Type 0
HasRisen fence now i = number_at fence i <ℤ number_at now i

-- no number of the fence has fallen, and some have risen: nothing that is left keeps to these as they were
pub record Raises (b : Snapshot) (fence now : List ℤ) : Type 0 where
  pub up : IsBelow fence now
  pub some : (i : ℕ) × (i < length fence) × HasRisen fence now i
  pub none : IsRemainingAt b fence (HasRisen fence now) → ⊥

-- what each answer of a turn says of the fence
abbrev pub MovesFence : Snapshot → Snapshot → List ℤ → List ℤ → Turn → Type 0
MovesFence a b fence now Found = FindsInside a b fence now
MovesFence a b fence now Moved = Raises b fence now
MovesFence a b fence now (Finished id) = now ≡ fence
