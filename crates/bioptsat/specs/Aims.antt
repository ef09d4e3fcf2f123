-- What a search for two objectives aims at, and what a turn makes of it.
use Rattle.std.specs.Prelude.{◌≡◌, ℕ, Bool, true, false, List, length, slice_index_or, Option, None, Some, IfSome, ℤ, pos, ◌≤ℤ◌, ◌<ℤ◌}
use Rattle.pb_lin.specs.Problem.{ProblemValue, problem_costs}
use Rattle.proof_laws.specs.State.{StateValue, Satisfies}
use Rattle.proof_laws.specs.Replay.{IsReplay}
use Rattle.proof_rules.specs.Recording.{Snapshot}
use Rattle.search_base.specs.Logged.{Logs}
use Rattle.search_base.specs.declared.turn.Turn.{Turn}
use Rattle.search_base.specs.declared.turn.Turn.TheVariants.{Found, Moved, Finished}
use Rattle.bioptsat.specs.declared.aim.Aim.{Aim}
use Rattle.bioptsat.specs.declared.aim.Aim.TheVariants.{Anything, First, Second}

-- ---- aims

abbrev pub first : List ℤ → ℤ
first v = slice_index_or v 0 (pos 0)

abbrev pub second : List ℤ → ℤ
second v = slice_index_or v 1 (pos 0)

-- the vector that is to be improved
abbrev pub vector_of : Aim → Option (List ℤ)
vector_of Anything = None
vector_of (First v) = Some v
vector_of (Second v) = Some v

-- whether its first cost is known to be least
abbrev pub first_is_least : Aim → Bool
first_is_least Anything = false
first_is_least (First v) = false
first_is_least (Second v) = true

-- 2 while the first cost is lowered, 1 while the second one is
abbrev pub own_number : Aim → ℕ
own_number Anything = 0
own_number (First v) = 2
own_number (Second v) = 1

-- there are two objectives, and an aim has two numbers
pub record Serves (aim : Aim) (p : ProblemValue) : Type 0 where
  pub count : length p.costs ≡ 2
  pub numbers : IfSome (vector_of aim) (λ v. length v ≡ 2)

-- costs that meet the aim: a smaller first one; or no greater first one, and a smaller second one
abbrev pub Meets : Aim → List ℤ → Type 0
Meets Anything u = Unit {0}
Meets (First v) u = first u <ℤ first v
Meets (Second v) u = (first u ≤ℤ first v) × (second u <ℤ second v)

-- some assignment that is left has costs that meet the aim
abbrev pub IsLeft : Snapshot → Aim → Type 0
IsLeft b aim = (s : StateValue) × IsReplay b.problem b.lines s
    × (x : List Bool) × Satisfies b.problem s x × Meets aim (problem_costs b.problem x)

-- ---- turns

-- the same aim at another vector; where there was none, its first cost is to be lowered
abbrev pub aim_at : Aim → List ℤ → Aim
aim_at Anything u = First u
aim_at (First v) u = First u
aim_at (Second v) u = Second u

-- the same where there may be no vector
abbrev pub aim_after : Aim → Option (List ℤ) → Aim
aim_after aim None = Anything
aim_after aim (Some u) = aim_at aim u

-- where the first cost can't be lowered it is least, and where the second can't either, there is no aim
abbrev pub given_up : Aim → Aim
given_up Anything = Anything
given_up (First v) = Second v
given_up (Second v) = Anything

-- a vector was logged that meets the aim, and it is the new aim
pub record Improves (a b : Snapshot) (aim now : Aim) : Type 0 where
  pub costs : List ℤ
  pub logs : Logs a.problem a.lines b.lines costs
  pub meets : Meets aim costs
  pub aims : now ≡ aim_at aim costs

-- nothing that is left meets the aim, and it is given up
pub record GivesUp (b : Snapshot) (aim now : Aim) : Type 0 where
  pub none : IsLeft b aim → ⊥
  pub given : now ≡ given_up aim

-- what each answer of a turn says of the aim
abbrev pub MovesAim : Snapshot → Snapshot → Aim → Aim → Turn → Type 0
MovesAim a b aim now Found = Improves a b aim now
MovesAim a b aim now Moved = GivesUp b aim now
MovesAim a b aim now (Finished id) = now ≡ aim
