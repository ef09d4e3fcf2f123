-- Lines by which no bound changes keep a good state good.
use Rattle.totalizer.specs.Keeping.{FittingStays, KeepsOwn, OwnLinesStay, ReformStays}
use Rattle.search_base.specs.Adding.{AddingStaysGood}
use Rattle.search_base.specs.Logged.{AddsTurnLines}
use Rattle.search_base.proofs.BoundRows.{bounds_later}
use Rattle.search_base.proofs.GoodStates.{bounding_law}
use Rattle.search_base.proofs.TurnLines.{own_law, totalizer_lines}

pub adding_law : OwnLinesStay → FittingStays → ReformStays → AddingStaysGood
adding_law own fitting reforms a b bounds board good on whole =
    let adds : AddsTurnLines a.problem a.lines b.lines = totalizer_lines a b on in
    let keeps : KeepsOwn a.problem a.lines b.lines = own_law a.problem a.lines b.lines adds in
    let reached = good.ready.reached in
    let fit = bounds_later own fitting reforms a b good.ready.state bounds on.problem keeps reached good.bounds in
    bounding_law own a b bounds bounds board good on whole fit
