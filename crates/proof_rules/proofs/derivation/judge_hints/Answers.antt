use Rattle.std.proofs.Common.{refl, ap, subst, length}
use Rattle.std.specs.Prelude.{Ok, Err, option_copied}
use Rattle.hint_rup.specs.Negation.{negation_in}
use Rattle.hint_rup.specs.declared.hint.RupFault.TheVariants.{NoSuchId, Open}
use Rattle.proof_laws.specs.State.{StateValue, IsState}
use Rattle.proof_rules.proofs.Replays.{replayed_in}
use Rattle.proof_rules.proofs.derivation.judge_hints.Goals as goal

pub returns-in-Ok-clause-verdict : goal.returns-in-Ok-clause-verdict
returns-in-Ok-clause-verdict c = (
  Ok c.in-Ok.field-0,
  replayed_in c.args.reached.now (subst IsState c.reached.view_is c.reached.invariant) c.reached.inside.live (ap (λ (s : StateValue). s.live) c.reached.view_is) (length c.args.scratch.now) c.requires.variables (negation_in c.args.negated) (option_copied c.args.denied) c.args.hints.now
      (record { normal = c.read_negated.ensures; upto = c.requires.negated }) c.read_denied.ensures c.requires.denied (Ok c.in-Ok.field-0) c.in-Ok.ensures.answer,
  refl,
)

pub returns-in-Err-NoSuchId-clause-verdict : goal.returns-in-Err-NoSuchId-clause-verdict
returns-in-Err-NoSuchId-clause-verdict c = (
  Err (NoSuchId c.in-Err-NoSuchId.id),
  replayed_in c.args.reached.now (subst IsState c.reached.view_is c.reached.invariant) c.reached.inside.live (ap (λ (s : StateValue). s.live) c.reached.view_is) (length c.args.scratch.now) c.requires.variables (negation_in c.args.negated) (option_copied c.args.denied) c.args.hints.now
      (record { normal = c.read_negated.ensures; upto = c.requires.negated }) c.read_denied.ensures c.requires.denied (Err (NoSuchId c.in-Err-NoSuchId.id)) (rw c.in-Err-NoSuchId.field-0-is at c.in-Err-NoSuchId.ensures.answer),
  refl,
)

pub returns-in-Err-Open-clause-verdict : goal.returns-in-Err-Open-clause-verdict
returns-in-Err-Open-clause-verdict c = (
  Err Open,
  replayed_in c.args.reached.now (subst IsState c.reached.view_is c.reached.invariant) c.reached.inside.live (ap (λ (s : StateValue). s.live) c.reached.view_is) (length c.args.scratch.now) c.requires.variables (negation_in c.args.negated) (option_copied c.args.denied) c.args.hints.now
      (record { normal = c.read_negated.ensures; upto = c.requires.negated }) c.read_denied.ensures c.requires.denied (Err Open) (rw c.in-Err-Open.field-0-is at c.in-Err-Open.ensures.answer),
  refl,
)
