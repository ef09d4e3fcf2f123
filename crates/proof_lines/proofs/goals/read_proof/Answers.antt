use Rattle.std.proofs.Common.{◌≡◌, ◌∷◌, ap, codes, arith, ◌∙◌}
use Rattle.std.proofs.lemmas.Grind.{common_steps}
use Rattle.proof_lines.proofs.GoalReads.{rup_wrong, pol_wrong}
use Rattle.std.proofs.lemmas.Result.{err_from_is_err_and}
use Rattle.proof_lines.proofs.goals.read_proof.Goals as goal

pub returns-in_err-hints-in-rup : goal.returns-in_err-hints-in-rup
returns-in_err-hints-in-rup c =
    let p = err_from_is_err_and c.from_residual.result c.from_residual.ensures.1 in
    let kind : c.in-Some.kind.now ≡ codes "rup" = grind (arith, common_steps) in
    rw (p.1, p.2) (rup_wrong c.args.spelling c.requires c.args.words.now c.next.new.self c.read_hints.new.words c.read_hints.new.words c.in_err-hints-in-rup.field-0.0 (c.in-Some.ensures ∙ ap (λ w. w ∷ c.next.new.self) kind) c.in_err-hints-in-rup.ensures)

pub returns-in_err-tokens-in-pol : goal.returns-in_err-tokens-in-pol
returns-in_err-tokens-in-pol c =
    let p = err_from_is_err_and c.from_residual-in_err-tokens-in-pol.result c.from_residual-in_err-tokens-in-pol.ensures.1 in
    let kind : c.in-Some.kind.now ≡ codes "pol" = grind (arith, common_steps) in
    rw (p.1, p.2) (pol_wrong c.args.spelling c.requires c.args.words.now c.next.new.self c.read_tokens.new.words c.read_tokens.new.words c.in_err-tokens-in-pol.field-0.0 (c.in-Some.ensures ∙ ap (λ w. w ∷ c.next.new.self) kind) c.in_err-tokens-in-pol.ensures)
