use Rattle.std.proofs.Common.{◌≡◌, take, length}
use Rattle.proof_laws.specs.Refusal.{literals_at}
use Rattle.proof_text.proofs.kept_lines.values_of.Given as goal

abbrev pub invariant-loop-lit : goal.invariant-loop-lit
invariant-loop-lit l = record {
  at : l.var ≡ l.lit-index;
  long : length l.values ≡ l.lit-index;
  done : literals_at 1 l.values ≡ take l.lit-index l.model;
}
