-- How goals and their proofs are spelled tells them apart.
use Rattle.std.proofs.Common.{◌≡◌, ℕ, ◌^◌, ◌<◌, List, [], ◌∷◌, ◌++◌, codes, sym, ap, refl, ◌∙◌, arith}
use Rattle.std.specs.Fmt.{decimal}
use Rattle.scut_base.proofs.Lists.{head_same, tail_same}
use Rattle.proof_laws.specs.declared.goal.Goal.{Goal}
use Rattle.proof_laws.specs.declared.goal.Goal.TheVariants.{Row, Itself, Objective, Strict}
use Rattle.proof_laws.specs.declared.goal.GoalProof.{GoalProof}
use Rattle.proof_laws.specs.declared.goal.GoalProof.TheVariants.{Rup, Pol}
use Rattle.proof_laws.specs.WellFormed.{IsGoal, IsGoalProof, IsHint, IsToken}
use Rattle.proof_lines.specs.LineText.{goal_word, goal_words, proof_words, hint_word, token_words}
use Rattle.proof_lines.specs.Reading.{EndsPart, FollowsToken}
use Rattle.proof_lines.specs.Witnessed.{IsProved}
use Rattle.proof_lines.proofs.IdWords.{no_id, one_id}
use Rattle.proof_lines.proofs.Numbers.{one_number}
use Rattle.proof_lines.proofs.Items.{IsCode, Words, one_list}
use Rattle.proof_lines.proofs.Codes.{heads_apart, hint_code}
use Rattle.proof_lines.proofs.WordParts.{one_part}
use Rattle.proof_lines.proofs.TokenCode.{token_code}
use Rattle.proof_lines.specs.declared.spelling.Spelling.{Spelling}
use Rattle.proof_lines.specs.Ids.{IsSpelling, id_word}

-- ---- goals

pub rup_pol : (a b : Words) → codes "rup" ∷ a ≡ codes "pol" ∷ b → ⊥
rup_pol a b e = heads_apart 114 112 _ _ refl (head_same _ _ _ _ e)

-- after a goal's proof its part ends
abbrev pub EndsAfter : Goal × GoalProof → Words → Type 0
EndsAfter q r = EndsPart r

abbrev pub IsEmpty : Words → Type 0
IsEmpty r = r ≡ []

empty_ends : (r : Words) → IsEmpty r → EndsPart r
empty_ends [] empty = tt
empty_ends (w ∷ ws) empty = cc

module _ (spelling : Spelling) (fine : IsSpelling spelling) where
  no_number : (id byte : ℕ) (word : List ℕ) → id < 2 ^ 63 → 57 < byte → id_word spelling id ≡ byte ∷ word → ⊥
  no_number id byte word small letter e = no_id spelling id small (byte ∷ word) (λ range. omega arith) e

  one_goal : (g h : Goal) → IsGoal g → IsGoal h → goal_word spelling g ≡ goal_word spelling h → g ≡ h
  one_goal (Row m) (Row n) left right e = ap Row (one_id spelling fine m n left right e)
  one_goal (Row m) Itself left right e = absurd (no_number m 99 [] left (omega arith) e)
  one_goal (Row m) (Objective j) left right e = absurd (no_number m 111 (decimal j) left (omega arith) e)
  one_goal (Row m) Strict left right e = absurd (no_number m 115 [] left (omega arith) e)
  one_goal Itself (Row n) left right e = absurd (no_number n 99 [] right (omega arith) (sym e))
  one_goal Itself Itself left right e = refl
  one_goal Itself (Objective j) left right e = absurd (heads_apart 99 111 _ _ refl e)
  one_goal Itself Strict left right e = absurd (heads_apart 99 115 _ _ refl e)
  one_goal (Objective i) (Row n) left right e = absurd (no_number n 111 (decimal i) right (omega arith) (sym e))
  one_goal (Objective i) Itself left right e = absurd (heads_apart 111 99 _ _ refl e)
  one_goal (Objective i) (Objective j) left right e = ap Objective (one_number i j (omega arith) (omega arith) (tail_same _ _ _ _ e))
  one_goal (Objective i) Strict left right e = absurd (heads_apart 111 115 _ _ refl e)
  one_goal Strict (Row n) left right e = absurd (no_number n 115 [] right (omega arith) (sym e))
  one_goal Strict Itself left right e = absurd (heads_apart 115 99 _ _ refl e)
  one_goal Strict (Objective j) left right e = absurd (heads_apart 115 111 _ _ refl e)
  one_goal Strict Strict left right e = refl

  -- ---- proofs

  one_proof : (p q : GoalProof) (r s : Words) → IsGoalProof p → IsGoalProof q → EndsPart r → EndsPart s → proof_words spelling p ++ r ≡ proof_words spelling q ++ s → (p ≡ q) × (r ≡ s)
  one_proof (Rup hints) (Rup others) r s left right ends end e =
      let both = one_part (hint_word spelling) IsHint (hint_code spelling fine) hints others r s left right ends end (tail_same _ _ _ _ e) in
      (ap Rup both.0, both.1)
  one_proof (Rup hints) (Pol tokens) r s left right ends end e = absurd (rup_pol _ _ e)
  one_proof (Pol tokens) (Rup hints) r s left right ends end e = absurd (rup_pol _ _ (sym e))
  one_proof (Pol tokens) (Pol others) r s left right ends end e =
      let both = one_list (token_words spelling) IsToken FollowsToken EndsPart (token_code spelling fine) tokens others r s left.1 right.1 ends end (tail_same _ _ _ _ e) in
      (ap Pol both.0, both.1)

  -- ---- goals with their proofs

  one_proved : (p q : Goal × GoalProof) (r s : Words) → IsProved p → IsProved q → EndsPart r → EndsPart s → goal_words spelling p ++ r ≡ goal_words spelling q ++ s → (p ≡ q) × (r ≡ s)
  one_proved p q r s left right ends end e =
      let words : goal_word spelling p.0 ∷ (proof_words spelling p.1 ++ r) ≡ goal_word spelling q.0 ∷ (proof_words spelling q.1 ++ s) = tail_same _ _ _ _ e in
      let goal : p.0 ≡ q.0 = one_goal p.0 q.0 left.0 right.0 (head_same _ _ _ _ words) in
      let both = one_proof p.1 q.1 r s left.1 right.1 ends end (tail_same _ _ _ _ words) in
      (ap (λ (g : Goal). (g, p.1)) goal ∙ ap (λ (x : GoalProof). (q.0, x)) both.0, both.1)

  pub proved_code : IsCode (goal_words spelling) IsProved EndsAfter IsEmpty
  proved_code = record {
    one = one_proved;
    joins = λ p q r left right. refl;
    stops = λ q r valid empty. empty_ends r empty;
    no_end = λ q r valid empty. cc;
  }
