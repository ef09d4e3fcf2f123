-- What a search over linear relaxations answers.
use Rattle.std.specs.Prelude.{◌≡◌, ℕ, List}
use Rattle.scut_base.specs.Literal.{Literal}
use Rattle.proof_rules.specs.Recording.{Snapshot}
use Rattle.oracle.specs.Solving.{AreAssumptions, IsCore, Reaches}
use Rattle.linear_search.specs.Relaxations.{Relaxation}
use Rattle.branch_and_bound.specs.declared.exploring.Found.{Found}
use Rattle.branch_and_bound.specs.declared.exploring.Found.TheVariants.{Nothing}
use Rattle.linear_search.specs.declared.reply.Reply.{Reply}
use Rattle.linear_search.specs.declared.reply.Reply.TheVariants.{Closed, Model, Unknown}

-- some of the assumptions with a live clause against them, or literals that may be assumed
abbrev pub IsReply : Snapshot → List Literal → Reply → Type 0
IsReply b assumed (Closed core) = Reaches b.problem b.lines (IsCore assumed core.lits core.id)
IsReply b assumed (Model lits) = Reaches b.problem b.lines (λ s. AreAssumptions s.vars lits)
IsReply b assumed Unknown = Unit {0}

-- nothing is lost where the question was answered
abbrev pub IsKeptWhereAnswered : Relaxation → Relaxation → Reply → Type 0
IsKeptWhereAnswered old new Unknown = Unit {0}
IsKeptWhereAnswered old new reply = new ≡ old

-- nothing is lost where something was found
abbrev pub IsKeptWhereFound : Relaxation → Relaxation → Found → Type 0
IsKeptWhereFound old new Nothing = Unit {0}
IsKeptWhereFound old new found = new ≡ old

-- where nothing was found, nothing is answered
abbrev pub IsReplyTo : Found → Reply → Type 0
IsReplyTo Nothing reply = reply ≡ Unknown
IsReplyTo found reply = Unit {0}
