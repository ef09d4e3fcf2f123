use Rattle.std.proofs.Common.{◌≡◌, take}
use Rattle.proof_laws.specs.Refusal.{literals_at}
use Rattle.search_base.proofs.logging.literals_of.Given as goal

abbrev pub invariant-loop-value : goal.invariant-loop-value
invariant-loop-value l = record {
  at : l.var ≡ l.value-index;
  done : l.lits ≡ literals_at 1 (take l.value-index l.a);
}
