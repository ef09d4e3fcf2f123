-- What the words of goals and of their proofs don't spell.
use Rattle.std.proofs.Common.{◌≡◌, ◌⊎◌, ℕ, ◌-◌, ◌^◌, ◌≤◌, List, [], ◌∷◌, ◌++◌, length, take, drop, get_or, map, codes, Ok, Err, refl, sym, ap, subst, ⊎_elim, ◌∙◌, arith}
use Rattle.std.specs.List.{All, AllPairs, flat_map}
use Rattle.std.specs.Fmt.{decimal}
use Rattle.std.specs.Int.{IsInRange}
use Rattle.std.proofs.lemmas.List.{append-nil, take_rest}
use Rattle.scut_base.proofs.Lists.{tail_same}
use Rattle.cutting_planes.specs.declared.token.PolToken.{PolToken}
use Rattle.hint_rup.specs.declared.hint.Hint.{Hint}
use Rattle.proof_laws.specs.declared.goal.Goal.{Goal}
use Rattle.proof_laws.specs.declared.goal.Goal.TheVariants.{Row, Itself, Objective, Strict}
use Rattle.proof_laws.specs.declared.goal.GoalProof.{GoalProof}
use Rattle.proof_laws.specs.declared.goal.GoalProof.TheVariants.{Rup, Pol}
use Rattle.proof_laws.specs.WellFormed.{IsId, IsGoal, IsGoalProof, IsHint, AreProofs, AreTokens}
use Rattle.proof_lines.specs.declared.reader.LineFault.{LineFault}
use Rattle.proof_lines.specs.declared.reader.LineFault.TheVariants.{Syntax, NoMemory}
use Rattle.proof_lines.specs.LineText.{goal_word, goal_words, proof_words, hint_word, token_words}
use Rattle.proof_lines.specs.Reading.{BeginsWith, EndsPart, ReadsAll, ReadsPart}
use Rattle.proof_lines.specs.Witnessed.{IsObjective, IsProved, proved_words}
use Rattle.proof_lines.proofs.Numbers.{one_number}
use Rattle.proof_lines.proofs.IdWords.{id_first}
use Rattle.proof_lines.proofs.Items.{ItemsSoFar, Words, no_item_here, one_list}
use Rattle.proof_lines.proofs.Ordered.{IsBefore}
use Rattle.proof_lines.proofs.Spaced.{all_proved}
use Rattle.proof_lines.proofs.GoalCode.{EndsAfter, IsEmpty, proved_code, rup_pol}
use Rattle.proof_lines.specs.declared.spelling.Spelling.{Spelling}
use Rattle.proof_lines.specs.Ids.{IsSpelling, id_word}

-- a number that is none of an objective
pub not_objective : (word : List ℕ) (n x : ℕ) → IsId n × (word ≡ decimal n) → (n ≡ 0) ⊎ (2 ^ 32 ≤ n) → IsObjective x → word ≡ decimal x → ⊥
not_objective word n x read other valid is =
    let same : n ≡ x = one_number n x (omega arith) (omega arith) (sym read.1 ∙ is) in
    ⊎_elim (λ (none : n ≡ 0). omega arith) (λ (large : 2 ^ 32 ≤ n). omega arith) other

pub proofs_read : (proofs : List (Goal × GoalProof)) → All IsProved proofs → AllPairs IsBefore proofs → AreProofs proofs
proofs_read proofs valid ordered = record { goals = λ k d lt. (valid k d lt).0; proofs = λ k d lt. (valid k d lt).1; order = ordered }

module _ (spelling : Spelling) (fine : IsSpelling spelling) where
  -- where no objective's number follows `o`
  pub no_objective : (word digits : List ℕ) → digits ≡ take (length word - 1) (drop 1 word) → get_or word 0 0 ≡ 111 → ((i : ℕ) → IsObjective i → digits ≡ decimal i → ⊥) → (g : Goal) → IsGoal g → word ≡ goal_word spelling g → ⊥
  no_objective word digits part first none (Row id) valid is =
      let low : IsInRange 45 57 (get_or (id_word spelling id) 0 0) = id_first spelling id valid in
      let same : get_or word 0 0 ≡ get_or (id_word spelling id) 0 0 = ap (λ w. get_or w 0 0) is in
      omega arith
  no_objective word digits part first none Itself valid is = let same : get_or word 0 0 ≡ 99 = ap (λ w. get_or w 0 0) is in omega arith
  no_objective word digits part first none (Objective i) valid is = none i valid (part ∙ take_rest word 1 ∙ ap (drop 1) is)
  no_objective word digits part first none Strict valid is = let same : get_or word 0 0 ≡ 115 = ap (λ w. get_or w 0 0) is in omega arith

  -- where no hints follow `rup`
  no_rup : (old here : Words) → old ≡ codes "rup" ∷ here → ((hints : List Hint) (rest : Words) → All IsHint hints → EndsPart rest → here ≡ map (hint_word spelling) hints ++ rest → ⊥) → (p : GoalProof) (rest : Words) → IsGoalProof p → EndsPart rest → old ≡ proof_words spelling p ++ rest → ⊥
  no_rup old here is none (Rup hints) rest valid ends spelled = none hints rest valid ends (tail_same _ _ _ _ (sym is ∙ spelled))
  no_rup old here is none (Pol tokens) rest valid ends spelled = rup_pol _ _ (sym is ∙ spelled)

  pub rup_wrong : (old here new after : Words) (fault : LineFault) → old ≡ codes "rup" ∷ here → ReadsPart (map (hint_word spelling)) (All IsHint) here new (Err fault) → ReadsPart (proof_words spelling) IsGoalProof old after (Err fault)
  rup_wrong old here new after NoMemory is wrong = tt
  rup_wrong old here new after Syntax is wrong = no_rup old here is wrong

  -- where no tokens follow `pol`
  no_pol : (old here : Words) → old ≡ codes "pol" ∷ here → ((tokens : List PolToken) (rest : Words) → AreTokens tokens → EndsPart rest → here ≡ flat_map (token_words spelling) tokens ++ rest → ⊥) → (p : GoalProof) (rest : Words) → IsGoalProof p → EndsPart rest → old ≡ proof_words spelling p ++ rest → ⊥
  no_pol old here is none (Rup hints) rest valid ends spelled = rup_pol _ _ (sym spelled ∙ is)
  no_pol old here is none (Pol tokens) rest valid ends spelled = none tokens rest valid ends (tail_same _ _ _ _ (sym is ∙ spelled))

  pub pol_wrong : (old here new after : Words) (fault : LineFault) → old ≡ codes "pol" ∷ here → ReadsPart (flat_map (token_words spelling)) AreTokens here new (Err fault) → ReadsPart (proof_words spelling) IsGoalProof old after (Err fault)
  pol_wrong old here new after NoMemory is wrong = tt
  pol_wrong old here new after Syntax is wrong = no_pol old here is wrong

  -- ---- the loop over goals

  -- where goals are wrong, no list of them is there
  no_goals : (old here : Words) (proofs : List (Goal × GoalProof)) → ItemsSoFar (goal_words spelling) IsProved EndsAfter old here proofs → (here ≡ [] → ⊥) → ((q : Goal × GoalProof) (r : Words) → IsProved q → EndsPart r → here ≡ goal_words spelling q ++ r → ⊥) → (all : List (Goal × GoalProof)) → All IsProved all → old ≡ flat_map (goal_words spelling) all → ⊥
  no_goals old here proofs so_far more none all valid is =
      no_item_here (goal_words spelling) IsProved EndsAfter IsEmpty (proved_code spelling fine) old here proofs so_far more none all [] valid refl (is ∙ sym (append-nil (flat_map (goal_words spelling) all)))

  -- where no goal follows `:`
  pub goal_wrong : (old here after new : Words) (proofs : List (Goal × GoalProof)) (fault : LineFault) → ItemsSoFar (goal_words spelling) IsProved EndsAfter old here proofs → here ≡ (58 ∷ []) ∷ after → ReadsPart (proved_words spelling) IsProved after new (Err fault) → ReadsAll (flat_map (goal_words spelling)) (All IsProved) old (Err fault)
  goal_wrong old here after new proofs NoMemory so_far follows wrong = tt
  goal_wrong old here after new proofs Syntax so_far follows wrong =
      no_goals old here proofs so_far (λ empty. let none : (58 ∷ []) ∷ after ≡ [] = sym follows ∙ empty in cc) (λ q r valid ends is. wrong q r valid ends (tail_same _ _ _ _ (sym follows ∙ is)))

  -- where another word follows
  pub more_words : (old here new : Words) (proofs : List (Goal × GoalProof)) → ItemsSoFar (goal_words spelling) IsProved EndsAfter old here proofs → (new ≡ here) × (BeginsWith (58 ∷ []) here → ⊥) → (new ≡ [] → ⊥) → (all : List (Goal × GoalProof)) → All IsProved all → old ≡ flat_map (goal_words spelling) all → ⊥
  more_words old here new proofs so_far other more =
      no_goals old here proofs so_far (λ empty. more (other.0 ∙ empty)) (λ q r valid ends is. other.1 (subst (BeginsWith (58 ∷ [])) (sym is) refl))

  -- ---- their order

  -- the goals that were read are those of any list that is there
  pub only_goals : (old : Words) (proofs : List (Goal × GoalProof)) → ReadsAll (flat_map (goal_words spelling)) (All IsProved) old (Ok proofs) → (all : List (Goal × GoalProof)) → AreProofs all → old ≡ flat_map (goal_words spelling) all → all ≡ proofs
  only_goals old proofs read all valid is =
      (one_list (goal_words spelling) IsProved EndsAfter IsEmpty (proved_code spelling fine) all proofs [] [] (all_proved all valid) read.0 refl refl (ap (λ ws. ws ++ []) (sym is ∙ read.1))).0
