-- A generated instance has nothing but hard and soft clauses.
use Rattle.std.proofs.Common.{ℕ, ◌*◌, refl, arith}
use Rattle.command_gen.specs.Draws.{beginning, state_after}
use Rattle.command_gen.specs.Generated.{generated, nth_objective}
use Rattle.command_gen.specs.Printed.{IsPlain, IsPlainObjective}
use Rattle.command_gen.proofs.Within.{all_drawn}

pub generated_plain : (number vars objectives : ℕ) → IsPlain (generated number vars objectives)
generated_plain number vars objectives = record {
  rows = refl;
  objectives = all_drawn IsPlainObjective (nth_objective vars (state_after (3 * vars) (beginning number))) 0 objectives objectives (omega arith)
      (λ k from below. record { sense = refl; terms = refl; offset = refl });
}
