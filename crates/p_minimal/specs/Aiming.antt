-- What a search that improves one vector after another aims at.
use Rattle.std.specs.Prelude.{◌≡◌, ℕ, List, ℤ, length, Option, None, Some, IfSome}
use Rattle.front_set.specs.Vector.{IsBelow}
use Rattle.pb_lin.specs.Problem.{ProblemValue}
use Rattle.proof_rules.specs.Recording.{Snapshot}
use Rattle.search_base.specs.Logged.{Logs}
use Rattle.search_base.specs.Turns.{IsRemaining}
use Rattle.search_base.specs.declared.turn.Turn.{Turn}
use Rattle.search_base.specs.declared.turn.Turn.TheVariants.{Found, Moved, Finished}
use Rattle.relaxations.specs.Telling.{Tells, TellsAny}
use Rattle.relaxations.specs.declared.below.Below.{Below}

-- 1 where there is an aim
abbrev pub own_number : Option (List ℤ) → ℕ
own_number None = 0
own_number (Some aim) = 1

-- the aim, where there is one, has a number for each objective
abbrev pub Serves : Option (List ℤ) → ProblemValue → Type 0
Serves aim p = IfSome aim (λ v. length v ≡ length p.costs)

-- a new aim is the vector that was logged, and below the old aim where there was one
pub record AimsLower (a b : Snapshot) (aim now : Option (List ℤ)) : Type 0 where
  pub costs : List ℤ
  pub aims : now ≡ Some costs
  pub logs : Logs a.problem a.lines b.lines costs
  pub below : IfSome aim (λ v. IsBelow costs v)

-- the aim is given up, and nothing that is left has costs below it
pub record GivesUp (b : Snapshot) (aim now : Option (List ℤ)) : Type 0 where
  pub costs : List ℤ
  pub aimed : aim ≡ Some costs
  pub none : now ≡ None
  pub least : IsRemaining b costs → ⊥

-- what an answer tells of the aim, where there is one
abbrev pub TellsOfAim : Snapshot → Option (List ℤ) → Below → Type 0
TellsOfAim b None below = TellsAny b below
TellsOfAim b (Some aim) below = Tells b aim below

-- what each answer of a turn says of the aim
abbrev pub Aims : Snapshot → Snapshot → Option (List ℤ) → Option (List ℤ) → Turn → Type 0
Aims a b aim now Found = AimsLower a b aim now
Aims a b aim now Moved = GivesUp b aim now
Aims a b aim now (Finished id) = now ≡ aim
