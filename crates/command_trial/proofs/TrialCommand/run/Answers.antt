use Rattle.std.proofs.Common.{inl, refl}
use Rattle.command_base.proofs.Answered.{idle}
use Rattle.command_trial.specs.Table.{TrialTable, trial_calls}
use Rattle.command_trial.specs.Words.{asked}
use Rattle.command_trial.proofs.TrialCommand.run.Goals as goal

pub returns-in-Err : goal.returns-in-Err
returns-in-Err g c =
    let a = asked c.args.self.now in
    rw c.from.ensures (idle (TrialTable a) (trial_calls a) (g.H.Shelf.world c.args.shelf.now) (inl (inl (record { files = inl refl; said = refl }))))
