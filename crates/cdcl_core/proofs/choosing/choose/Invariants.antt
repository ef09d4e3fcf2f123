use Rattle.std.proofs.Common.{map, take}
use Rattle.std.specs.Prelude.{All, IsSome}
use Rattle.std.specs.FinMap.{get}
use Rattle.cdcl_core.specs.Ledgers.{IsPart}
use Rattle.cdcl_core.proofs.choosing.choose.Given as goal

abbrev pub invariant-loop-clause : goal.invariant-loop-clause
invariant-loop-clause g l = record {
  named : IsPart l.named (map (λ c. c.id) (take l.clause-index l.clauses));
  live : All (λ id. IsSome (get l.search.store id)) l.named;
  kept : IsPart (map (λ c. c.id) l.kept) (map (λ c. c.id) (take l.clause-index l.clauses));
}
