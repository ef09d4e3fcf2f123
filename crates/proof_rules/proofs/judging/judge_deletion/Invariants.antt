use Rattle.std.proofs.Common.{◌≡◌, not, drop}
use Rattle.std.specs.List.{find}
use Rattle.proof_laws.specs.Refusal.{is_deletable}
use Rattle.proof_rules.proofs.judging.judge_deletion.Given as goal

abbrev pub invariant-loop-id : goal.invariant-loop-id
invariant-loop-id l = find (λ id. not (is_deletable l.problem l.reached id)) l.ids ≡ find (λ id. not (is_deletable l.problem l.reached id)) (drop l.id-index l.ids)
