-- What answers tell of the aim.
use Rattle.std.specs.Prelude.{◌≡◌, ◌^◌, ℤ, pos, ◌-ℤ◌, ◌<ℤ◌, ◌≤ℤ◌}
use Rattle.pb_lin.specs.Problem.{problem_costs}
use Rattle.proof_rules.specs.Recording.{Snapshot}
use Rattle.search_base.specs.Turns.{IsEndLine, IsTakable}
use Rattle.relaxations.specs.Telling.{TellsAny}
use Rattle.relaxations.specs.declared.below.Below.{Below}
use Rattle.relaxations.specs.declared.below.Below.TheVariants.{Model, End, Above}
use Rattle.bioptsat.specs.declared.aim.Aim.{Aim}
use Rattle.bioptsat.specs.declared.aim.Aim.TheVariants.{Anything, First, Second}
use Rattle.bioptsat.specs.Aims.{IsLeft, Meets}

-- one less than the number; nothing costs as little as the least i64
pub record IsOneLess (number less : ℤ) : Type 0 where
  pub above : (pos 0 -ℤ pos (2 ^ 63)) <ℤ number → less ≡ number -ℤ pos 1
  pub least : number ≤ℤ (pos 0 -ℤ pos (2 ^ 63)) → less ≤ℤ (pos 0 -ℤ pos (2 ^ 63))

-- what an answer tells of an aim at a vector
abbrev pub TellsMeeting : Snapshot → Aim → Below → Type 0
TellsMeeting b aim (Model x) = IsTakable b x × Meets aim (problem_costs b.problem x)
TellsMeeting b aim (End id) = IsEndLine b.problem b.lines id
TellsMeeting b aim (Above stands) = IsLeft b aim → ⊥

-- what it tells of any aim
abbrev pub TellsOfAim : Snapshot → Aim → Below → Type 0
TellsOfAim b Anything below = TellsAny b below
TellsOfAim b (First v) below = TellsMeeting b (First v) below
TellsOfAim b (Second v) below = TellsMeeting b (Second v) below
