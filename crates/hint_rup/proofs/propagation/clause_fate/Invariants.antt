use Rattle.std.proofs.Common.{◌≡◌, length, take}
use Rattle.std.specs.Option.{option_to_list}
use Rattle.hint_rup.specs.ClauseFate.{possible_count, open_literals}
use Rattle.hint_rup.proofs.propagation.clause_fate.Given as goal

abbrev pub invariant-loop-lit : goal.invariant-loop-lit
invariant-loop-lit l = record {
  possible : possible_count l.scratch (take l.lit-index l.lits) ≡ length (option_to_list l.unit);
  open_ones : open_literals l.scratch (take l.lit-index l.lits) ≡ option_to_list l.unit;
}
