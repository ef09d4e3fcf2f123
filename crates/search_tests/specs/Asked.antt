-- Totalizers that may be asked.
use Rattle.proof_rules.specs.Recording.{Snapshot}
use Rattle.sum_outputs.specs.Adding.{IsReady}
use Rattle.totalizer.specs.Totalizing.{TotalizerValue, Fits}

-- lines may be added, and the totalizer may be asked
pub record IsAskable (a : Snapshot) (t : TotalizerValue) : Type 0 where
  pub ready : IsReady a
  pub fits : Fits a t
