use Rattle.search_base.proofs.AdvisedLines.{advised_law}
use Rattle.search_base.proofs.laws.advised_stays_prepared.Goals as goal

pub returns : goal.returns
returns c = advised_law
