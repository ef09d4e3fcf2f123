use Rattle.std.proofs.Common.{◌≡◌, ℕ, ◌+◌, ◌<◌, Bool, cond, Some, List, ◌∷◌, length, get_or, drop, ap, sym, ◌∙◌}
use Rattle.std.specs.Prelude.{option_map}
use Rattle.std.specs.List.{find}
use Rattle.std.proofs.lemmas.Bool.{cond-true, cond-false}
use Rattle.std.proofs.lemmas.List.{at_drop_more}
use Rattle.proof_laws.specs.Refusal.{same_goal}
use Rattle.proof_laws.specs.declared.goal.Goal.{Goal}
use Rattle.proof_laws.specs.declared.goal.GoalProof.{GoalProof}
use Rattle.proof_rules.proofs.substitution.proof_of.Goals as goal

find_more : (p : Goal × GoalProof → Bool) (xs : List (Goal × GoalProof)) (i : ℕ) (x : Goal × GoalProof) → i < length xs → x ≡ get_or xs i x → find p (drop i xs) ≡ cond (p x) (Some x) (find p (drop (i + 1) xs))
find_more p xs i x short is = at_drop_more (find p) xs i x short ∙ ap (λ (y : Goal × GoalProof). find p (y ∷ drop (i + 1) xs)) (sym is)

pub returns-then-is_same : goal.returns-then-is_same
returns-then-is_same c =
    let test : Goal × GoalProof → Bool = λ q. same_goal c.args.name q.0 in
    let item = c.proof-item.result in
    let rest = find test (drop (c.loop-proof.proof-index + 1) c.args.proofs.now) in
    let found : find test c.args.proofs.now ≡ Some item = c.loop-proof.invariant ∙ find_more test c.args.proofs.now c.loop-proof.proof-index item c.loop-proof-test.true c.proof-item.is ∙ cond-true (test item) (Some item) rest (sym c.is_same.ensures ∙ c.if-is_same.true) in
    sym (ap (option_map (λ (q : Goal × GoalProof). q.1)) found)

pub loop-proof-preserved : goal.loop-proof-preserved
loop-proof-preserved c =
    let test : Goal × GoalProof → Bool = λ q. same_goal c.args.name q.0 in
    let item = c.proof-item.result in
    let rest = find test (drop (c.loop-proof.proof-index + 1) c.args.proofs.now) in
    c.loop-proof.invariant ∙ find_more test c.args.proofs.now c.loop-proof.proof-index item c.loop-proof-test.true c.proof-item.is ∙ cond-false (test item) (Some item) rest (sym c.is_same.ensures ∙ c.if-is_same.false)
