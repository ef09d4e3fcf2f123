-- What a search for a front answers, from no lines on.
use Rattle.std.specs.Prelude.{◌≡◌, false, Result, IfOk, IfErr, OnOk}
use Rattle.instance.specs.Shape.{InstanceValue}
use Rattle.proof_rules.specs.Recording.{KeepsRecorder, Snapshot}
use Rattle.proof_rules.specs.declared.recorder.RecordFault.{RecordFault}
use Rattle.certified_front.specs.Certified.{CoversLogged, IsEnding}
use Rattle.certified_front.specs.Planning.{FollowsPlan}
use Rattle.certified_front.specs.Stopping.{IsStop}
use Rattle.certified_front.specs.declared.ending.Found.{Found}
use Rattle.certified_front.specs.declared.preparing.Plan.{Plan}

-- What is found covers what the lines log, which follow the plan; or why nothing was found. Nothing else changes.
pub record CertifiesFront (i : InstanceValue) (plan : Plan) (a b : Snapshot) (result : Result Found RecordFault) : Type 0 where
  pub covers : IfOk result (λ found. CoversLogged i a.problem b.lines found.entries.items)
  pub ending : IfOk result (λ found. IsEnding a.limit a.problem b.lines found.ending)
  pub planned : IfOk result (λ found. FollowsPlan plan a.problem b.lines found.ending)
  pub whole : OnOk result (b.broken ≡ false)
  pub stop : IfErr result (IsStop a b)
  pub keeps : KeepsRecorder a b
