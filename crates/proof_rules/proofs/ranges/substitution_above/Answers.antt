use Rattle.std.proofs.Common.{◌≡◌, ℕ, Bool, Option, Some, None, List, ◌++◌, nat_lt, sym, ap, ◌∙◌}
use Rattle.std.specs.List.{find, flat_map}
use Rattle.pb_lin.specs.Substitution.{Images}
use Rattle.proof_laws.specs.Refusal.{term_variables, image_variables, proof_variables}
use Rattle.proof_laws.specs.declared.goal.Goal.{Goal}
use Rattle.proof_laws.specs.declared.goal.GoalProof.{GoalProof}
use Rattle.proof_rules.proofs.Searches.{found_first, found_later}
use Rattle.proof_rules.proofs.ranges.substitution_above.Goals as goal

abbrev of_proofs : List (Goal × GoalProof) → List ℕ
of_proofs proofs = flat_map (λ (q : Goal × GoalProof). proof_variables q.1) proofs

-- what is found in the images is found in a witness of them
in_witness : (test : ℕ → Bool) (images witness : Images) (found o : Option ℕ) → images ≡ witness → found ≡ find test (flat_map image_variables images) → found ≡ o → find test (flat_map image_variables witness) ≡ o
in_witness test images witness found o same is at = ap (λ (ws : Images). find test (flat_map image_variables ws)) (sym same) ∙ sym is ∙ at

pub returns-in-Some : goal.returns-in-Some
returns-in-Some c =
    sym (found_first (λ v. nat_lt c.args.n v) (term_variables c.args.goal.now.terms) (flat_map image_variables c.args.witness.now ++ of_proofs c.args.proofs.now) c.in-Some.var (sym c.terms_above.ensures ∙ c.in-Some.is))

pub returns-in-Some-images_above : goal.returns-in-Some-images_above
returns-in-Some-images_above c =
    sym
    (found_later (λ v. nat_lt c.args.n v) (term_variables c.args.goal.now.terms) (flat_map image_variables c.args.witness.now ++ of_proofs c.args.proofs.now) (sym c.terms_above.ensures ∙ c.in_default.is)
    ∙ found_first (λ v. nat_lt c.args.n v) (flat_map image_variables c.args.witness.now) (of_proofs c.args.proofs.now) c.in-Some-images_above.var
    (in_witness (λ v. nat_lt c.args.n v) c.images.result.now c.args.witness.now c.images_above.result (Some c.in-Some-images_above.var) c.images.ensures.value c.images_above.ensures c.in-Some-images_above.is))

pub returns : goal.returns
returns c =
    c.proofs_above.ensures
    ∙ sym
    (found_later (λ v. nat_lt c.args.n v) (term_variables c.args.goal.now.terms) (flat_map image_variables c.args.witness.now ++ of_proofs c.args.proofs.now) (sym c.terms_above.ensures ∙ c.in_default.is)
    ∙ found_later (λ v. nat_lt c.args.n v) (flat_map image_variables c.args.witness.now) (of_proofs c.args.proofs.now)
    (in_witness (λ v. nat_lt c.args.n v) c.images.result.now c.args.witness.now c.images_above.result None c.images.ensures.value c.images_above.ensures c.in_default-images_above.is))
