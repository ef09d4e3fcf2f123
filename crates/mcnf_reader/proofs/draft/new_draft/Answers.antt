use Rattle.std.proofs.Common.{◌<◌, ◌^◌, length, ap, arith}
use Rattle.std.proofs.lemmas.List.Elements.{All-replicate}
use Rattle.mcnf_reader.proofs.draft.new_draft.Goals as goal

pub returns-clause-ready : goal.returns-clause-ready
returns-clause-ready c = record {
  room = ap length c.in_ok-empty_objectives.ensures;
  small = All-replicate (λ sum. sum < 2 ^ 63) 64 0 (omega arith);
}
