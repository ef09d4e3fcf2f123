use Rattle.scut_base.proofs.FileLaws.{untold-IsPartlyAppended, on_err_anyway}
use Rattle.scut_base.proofs.host_shelf.HostShelfShelf.append.Goals as goal

pub returns-clause-fault : goal.returns-clause-fault
returns-clause-fault g c = on_err_anyway c.counted.result (untold-IsPartlyAppended c.args.name.now c.args.piece.now)
