-- The variables that a line writes under new ids: no others.
use Rattle.std.specs.Prelude.{◌≡◌, ℕ, ◌≤◌, Bool, true, false, cond, ◌&&◌, nat_lt, Some, None, option_map, List, [], ◌∷◌, ◌++◌, map, All, refl}
use Rattle.std.proofs.Common.{sym, ◌∙◌, ap, subst}
use Rattle.std.specs.List.{filter, find, flat_map}
use Rattle.std.proofs.lemmas.Bool.{cond-false, le-ltb}
use Rattle.std.proofs.lemmas.List.Elements.{All-nil, All-cons, All-head, All-tail, All-append}
use Rattle.pb_lin.specs.Constraint.{ConstraintValue}
use Rattle.pb_lin.specs.Substitution.{Images}
use Rattle.cutting_planes.specs.declared.token.PolToken.{PolToken}
use Rattle.cutting_planes.specs.declared.token.PolToken.TheVariants.{Id as IdToken, Axiom, Negated, Denied, Add, Mul, Div, Saturate, Weaken}
use Rattle.proof_laws.specs.Refusal.{token_variables, term_variables, image_variables, proof_variables, substitution_variables, written, range_fault}
use Rattle.proof_laws.specs.declared.goal.Goal.{Goal}
use Rattle.proof_laws.specs.declared.goal.GoalProof.{GoalProof}
use Rattle.proof_laws.specs.declared.goal.GoalProof.TheVariants.{Rup as ByRup, Pol as ByPol}
use Rattle.proof_laws.specs.declared.line.Line.{Line}
use Rattle.proof_laws.specs.declared.line.Line.TheVariants.{Pol, Rup, Learn, Def, Red, Dom, Sol, Del, Reduce, End}
use Rattle.proof_laws.specs.declared.why.Why.TheVariants.{VarRange}
use Rattle.proof_laws.proofs.Ranges.{range_bounds}
use Rattle.command_trim.specs.Trimmed.{Renaming, is_kept_goal, is_kept_proof, new_token, new_goal, new_proof, new_proofs, new_line}

none_above : (n : ℕ) (vars : List ℕ) → All (λ v. v ≤ n) vars → find (λ v. nat_lt n v) vars ≡ None
none_above n [] all = refl
none_above n (v ∷ vars) all =
    cond-false (nat_lt n v) (Some v) (find (λ u. nat_lt n u) vars) (le-ltb n v (All-head (λ u. u ≤ n) v vars all)) ∙ none_above n vars (All-tail (λ u. u ≤ n) v vars all)

pub no_range_fault : (n : ℕ) (vars : List ℕ) → All (λ v. v ≤ n) vars → range_fault n vars ≡ None
no_range_fault n vars all = ap (option_map VarRange) (none_above n vars all)

same_token : (r : Renaming) (token : PolToken) → token_variables (new_token r token) ≡ token_variables token
same_token r (IdToken id) = refl
same_token r (Axiom l) = refl
same_token r Negated = refl
same_token r Denied = refl
same_token r Add = refl
same_token r (Mul k) = refl
same_token r (Div k) = refl
same_token r Saturate = refl
same_token r (Weaken var) = refl

same_tokens : (r : Renaming) (tokens : List PolToken) → flat_map token_variables (map (new_token r) tokens) ≡ flat_map token_variables tokens
same_tokens r [] = refl
same_tokens r (token ∷ tokens) =
    ap (λ (vs : List ℕ). vs ++ flat_map token_variables (map (new_token r) tokens)) (same_token r token) ∙ ap (λ (vs : List ℕ). token_variables token ++ vs) (same_tokens r tokens)

same_proof : (r : Renaming) (proof : GoalProof) → proof_variables (new_proof r proof) ≡ proof_variables proof
same_proof r (ByRup hints) = refl
same_proof r (ByPol tokens) = same_tokens r tokens

module _ (r : Renaming) (P : ℕ → Type 0) where
  prefix : (xs ys : List ℕ) → All P (xs ++ ys) → All P xs
  prefix [] ys all = All-nil P
  prefix (x ∷ xs) ys all = All-cons P x xs (All-head P x (xs ++ ys) all) (prefix xs ys (All-tail P x (xs ++ ys) all))

  suffix : (xs ys : List ℕ) → All P (xs ++ ys) → All P ys
  suffix [] ys all = all
  suffix (x ∷ xs) ys all = suffix xs ys (All-tail P x (xs ++ ys) all)

  abbrev variables : Goal × GoalProof → List ℕ
  variables q = proof_variables q.1

  abbrev keeps : Goal × GoalProof → Bool
  keeps q = is_kept_goal r q.0 && is_kept_proof r q.1

  fewer : (proofs : List (Goal × GoalProof)) → All P (flat_map variables proofs) → All P (flat_map variables (new_proofs r proofs))
  fewer [] all = all
  fewer (q ∷ proofs) all = by_test (keeps q) (fewer proofs (suffix (variables q) (flat_map variables proofs) all))
    where
      by_test : (b : Bool) → All P (flat_map variables (new_proofs r proofs)) → All P (flat_map variables (map (λ (x : Goal × GoalProof). (new_goal r x.0, new_proof r x.1)) (cond b (q ∷ filter keeps proofs) (filter keeps proofs))))
      by_test true rest = All-append P (proof_variables (new_proof r q.1)) (flat_map variables (new_proofs r proofs)) (subst (All P) (sym (same_proof r q.1)) (prefix (variables q) (flat_map variables proofs) all)) rest
      by_test false rest = rest

  substituted : (goal : ConstraintValue) (w : Images) (proofs : List (Goal × GoalProof)) → All P (substitution_variables goal w proofs) → All P (substitution_variables goal w (new_proofs r proofs))
  substituted goal w proofs all =
      let own : List ℕ = term_variables goal.terms in
      let images : List ℕ = flat_map image_variables w in
      let later = suffix own (images ++ flat_map variables proofs) all in
      All-append P own (images ++ flat_map variables (new_proofs r proofs)) (prefix own (images ++ flat_map variables proofs) all)
      (All-append P images (flat_map variables (new_proofs r proofs)) (prefix images (flat_map variables proofs) later) (fewer proofs (suffix images (flat_map variables proofs) later)))

  written_fewer : (line : Line) → All P (written line) → All P (written (new_line r line))
  written_fewer (Pol tokens) all = subst (All P) (sym (same_tokens r tokens)) all
  written_fewer (Rup goal hints) all = all
  written_fewer (Learn goal hints) all = all
  written_fewer (Def var sum) all = all
  written_fewer (Red goal w proofs) all = substituted goal w proofs all
  written_fewer (Dom goal w proofs) all = substituted goal w proofs all
  written_fewer (Sol model cut rows) all = all
  written_fewer (Del ids) all = all
  written_fewer (Reduce ids) all = all
  written_fewer (End id) all = all

pub range_simulated : (r : Renaming) (n : ℕ) (line : Line) → range_fault n (written line) ≡ None → range_fault n (written (new_line r line)) ≡ None
range_simulated r n line none = no_range_fault n (written (new_line r line)) (written_fewer r (λ v. v ≤ n) line (range_bounds n (written line) none))
