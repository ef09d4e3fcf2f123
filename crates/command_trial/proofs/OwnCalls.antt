-- The calls of a trial's parts are its own.
use Rattle.std.proofs.Common.{inl, inr}
use Rattle.std.specs.Prelude.{Option}
use Rattle.scut_base.specs.Faults.{Faults}
use Rattle.scut_base.specs.Files.{Files}
use Rattle.command_base.specs.Answering.{AnyRose, OwnRose}
use Rattle.command_gen.specs.Table.{gen_calls}
use Rattle.command_solve.specs.Table.{solve_calls}
use Rattle.command_check.specs.Table.{check_calls}
use Rattle.command_trial.specs.Table.{trial_calls}
use Rattle.command_trial.specs.Words.{TrialAsked, check_part, gen_part, solve_part}

-- each is of one file, so that it doesn't matter which files there were
module _ (a : TrialAsked) (files then : Option Files) (before now : Faults) where
  abbrev rises : Type 0
  rises = AnyRose files before now (trial_calls a)

  of_gen : AnyRose then before now (gen_calls (gen_part a)) → rises
  of_gen (inl begins) = inl begins
  of_gen (inr (inl appends)) = inr (inl appends)
  of_gen (inr (inr (inl says))) = inr (inr (inr (inr (inr (inr (inr (inr (inr (inl says)))))))))
  of_gen (inr (inr (inr none))) = absurd none

  of_solve : AnyRose then before now (solve_calls (solve_part a)) → rises
  of_solve (inl reads) = inr (inr (inl reads))
  of_solve (inr (inl begins)) = inr (inr (inr (inl begins)))
  of_solve (inr (inr (inl appends))) = inr (inr (inr (inr (inl appends))))
  of_solve (inr (inr (inr (inl begins)))) = inr (inr (inr (inr (inr (inr (inl begins))))))
  of_solve (inr (inr (inr (inr (inl appends))))) = inr (inr (inr (inr (inr (inr (inr (inl appends)))))))
  of_solve (inr (inr (inr (inr (inr (inl says)))))) = inr (inr (inr (inr (inr (inr (inr (inr (inr (inl says)))))))))
  of_solve (inr (inr (inr (inr (inr (inr none)))))) = absurd none

  of_check : AnyRose then before now (check_calls (check_part a)) → rises
  of_check (inl reads) = inr (inr (inl reads))
  of_check (inr (inl reads)) = inr (inr (inr (inr (inr (inr (inr (inr (inl reads))))))))
  of_check (inr (inr (inl reads))) = inr (inr (inr (inr (inr (inl reads)))))
  of_check (inr (inr (inr (inl says)))) = inr (inr (inr (inr (inr (inr (inr (inr (inr (inl says)))))))))
  of_check (inr (inr (inr (inr none)))) = absurd none

  pub gen_rose : OwnRose (gen_calls (gen_part a)) then before now → OwnRose (trial_calls a) files before now
  gen_rose rose = record { call = of_gen rose.call }

  pub solve_rose : OwnRose (solve_calls (solve_part a)) then before now → OwnRose (trial_calls a) files before now
  solve_rose rose = record { call = of_solve rose.call }

  pub check_rose : OwnRose (check_calls (check_part a)) then before now → OwnRose (trial_calls a) files before now
  check_rose rose = record { call = of_check rose.call }
