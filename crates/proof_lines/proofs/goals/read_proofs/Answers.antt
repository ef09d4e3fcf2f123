use Rattle.std.proofs.Common.{List, refl, sym, subst, ◌∙◌}
use Rattle.std.specs.List.{AllPairs}
use Rattle.std.proofs.lemmas.Bool.{false≢true}
use Rattle.proof_laws.specs.declared.goal.Goal.{Goal}
use Rattle.proof_laws.specs.declared.goal.GoalProof.{GoalProof}
use Rattle.proof_lines.proofs.GoalReads.{only_goals, proofs_read}
use Rattle.proof_lines.proofs.Ordered.{IsBefore}
use Rattle.proof_lines.proofs.goals.read_proofs.Goals as goal

pub returns-then-not-are_ordered : goal.returns-then-not-are_ordered
returns-then-not-are_ordered c = λ x valid is.
    let same = only_goals c.args.spelling c.requires c.args.words.now c.in_ok-proofs.proofs c.in_ok-proofs.ensures x valid is in
    absurd (false≢true (c.if-not-are_ordered.ensures.1 (subst (λ (qs : List (Goal × GoalProof)). AllPairs IsBefore qs) (same ∙ sym c.as_slice.ensures) valid.order)))

pub returns : goal.returns
returns c =
    let read = c.in_ok-proofs.ensures in
    (proofs_read c.in_ok-proofs.proofs read.0 (subst (λ (qs : List (Goal × GoalProof)). AllPairs IsBefore qs) c.as_slice.ensures (c.if-not-are_ordered.ensures.0 refl)), read.1)
