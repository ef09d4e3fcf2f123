use Rattle.command_check_models.proofs.CheckModelsCommand.read.Goals as goal

pub returns-in-Some : goal.returns-in-Some
returns-in-Some c = rw c.in-Some.is at c.in_ok-request.ensures

pub returns-in-None : goal.returns-in-None
returns-in-None c = rw c.in-None.is at c.in_ok-request.ensures
