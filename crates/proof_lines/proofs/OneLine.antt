-- A text is that of one line at most.
use Rattle.std.proofs.Common.{◌≡◌, ◌≢◌, ℕ, List, [], ◌∷◌, ◌++◌, map, codes, get_or, sum, refl, sym, ap, ◌∙◌, arith}
use Rattle.std.specs.List.{All, flat_map}
use Rattle.std.proofs.lemmas.List.{append_assoc}
use Rattle.scut_base.proofs.Lists.{head_same, tail_same}
use Rattle.scut_base.specs.Literal.{Literal}
use Rattle.pb_lin.specs.Constraint.{ConstraintValue}
use Rattle.pb_lin.specs.Substitution.{Images}
use Rattle.cutting_planes.specs.declared.token.PolToken.{PolToken}
use Rattle.hint_rup.specs.declared.hint.Hint.{Hint}
use Rattle.proof_laws.specs.declared.goal.Goal.{Goal}
use Rattle.proof_laws.specs.declared.goal.GoalProof.{GoalProof}
use Rattle.proof_laws.specs.declared.line.Line.{Line}
use Rattle.proof_laws.specs.declared.line.Line.TheVariants.{Pol, Rup, Learn, Def, Red, Dom, Sol, Del, Reduce, End}
use Rattle.proof_laws.specs.WellFormed.{IsId, IsVariable, IsConstraint, IsToken, IsHint, IsSubstitution, AreProofs, IsWellFormed}
use Rattle.proof_lines.specs.LineText.{SpellsLine, literal_word, constraint_words, token_words, hint_word, image_words, goal_words, hinted_words, witnessed_words, line_words, line_text}
use Rattle.proof_lines.specs.Reading.{EndsPart, FollowsToken, words_of}
use Rattle.proof_lines.specs.Witnessed.{IsImageOf, IsProved}
use Rattle.proof_lines.specs.Spaces.{kind_word}
use Rattle.proof_lines.proofs.IdWords.{one_id}
use Rattle.proof_lines.proofs.Pieces.{one_deleted}
use Rattle.proof_lines.proofs.Items.{Words, one_list}
use Rattle.proof_lines.proofs.Codes.{AnyFollows, one_variable, id_code, literal_code, hint_code}
use Rattle.proof_lines.proofs.WordParts.{one_part}
use Rattle.proof_lines.proofs.TermLists.{one_constraint}
use Rattle.proof_lines.proofs.TokenCode.{token_code}
use Rattle.proof_lines.proofs.ImageCode.{image_code}
use Rattle.proof_lines.proofs.GoalCode.{EndsAfter, IsEmpty, proved_code}
use Rattle.proof_lines.proofs.Spaced.{all_proved, words_of-line}
use Rattle.proof_lines.specs.declared.spelling.Spelling.{Spelling}
use Rattle.proof_lines.specs.Ids.{IsSpelling, id_word}

module _ (spelling : Spelling) (fine : IsSpelling spelling) where
  -- ---- parts of lines

  -- the same of words that nothing follows
  ended : (ws vs : Words) → ws ≡ vs → ws ++ [] ≡ vs ++ []
  ended ws vs e = ap (λ us. us ++ []) e

  one_end : (c d : ConstraintValue) → IsConstraint c → IsConstraint d → constraint_words c ≡ constraint_words d → c ≡ d
  one_end c d left right e = (one_constraint c d [] [] left right (ended (constraint_words c) (constraint_words d) e)).0

  one_hints : (h k : List Hint) → All IsHint h → All IsHint k → map (hint_word spelling) h ≡ map (hint_word spelling) k → h ≡ k
  one_hints h k left right e = (one_part (hint_word spelling) IsHint (hint_code spelling fine) h k [] [] left right tt tt (ended (map (hint_word spelling) h) (map (hint_word spelling) k) e)).0

  one_ids : (i j : List ℕ) → All IsId i → All IsId j → map (id_word spelling) i ≡ map (id_word spelling) j → i ≡ j
  one_ids i j left right e = (one_part (id_word spelling) IsId (id_code spelling fine) i j [] [] left right tt tt (ended (map (id_word spelling) i) (map (id_word spelling) j) e)).0

  one_tokens : (t u : List PolToken) → All IsToken t → All IsToken u → flat_map (token_words spelling) t ≡ flat_map (token_words spelling) u → t ≡ u
  one_tokens t u left right e = (one_list (token_words spelling) IsToken FollowsToken EndsPart (token_code spelling fine) t u [] [] left right tt tt (ended (flat_map (token_words spelling) t) (flat_map (token_words spelling) u) e)).0

  one_hinted : (c d : ConstraintValue) (h k : List Hint) → IsConstraint c → IsConstraint d → All IsHint h → All IsHint k → hinted_words spelling c h ≡ hinted_words spelling d k → (c ≡ d) × (h ≡ k)
  one_hinted c d h k left right hints others e =
      let both = one_constraint c d (codes ":" ∷ map (hint_word spelling) h) (codes ":" ∷ map (hint_word spelling) k) left right e in
      (both.0, one_hints h k hints others (tail_same _ _ _ _ both.1))

  -- what follows images ends their part
  pub goals_end : (proofs : List (Goal × GoalProof)) → EndsPart (flat_map (goal_words spelling) proofs)
  goals_end [] = tt
  goals_end (q ∷ proofs) = refl

  -- a constraint, images and goals that are spelled alike
  pub record SameWitnessed (c d : ConstraintValue) (w v : Images) (p q : List (Goal × GoalProof)) : Type 0 where
    pub goal : c ≡ d
    pub witness : w ≡ v
    pub proofs : p ≡ q

  -- the images, and the proofs after them
  one_substitution : (w v : Images) (p q : List (Goal × GoalProof)) → IsSubstitution w → IsSubstitution v → AreProofs p → AreProofs q → flat_map image_words w ++ flat_map (goal_words spelling) p ≡ flat_map image_words v ++ flat_map (goal_words spelling) q → (w ≡ v) × (p ≡ q)
  one_substitution w v p q left right proofs others e =
      let images = one_list image_words IsImageOf AnyFollows EndsPart image_code w v (flat_map (goal_words spelling) p) (flat_map (goal_words spelling) q) left.images right.images (goals_end p) (goals_end q) e in
      let goals = one_list (goal_words spelling) IsProved EndsAfter IsEmpty (proved_code spelling fine) p q [] [] (all_proved p proofs) (all_proved q others) refl refl (ended (flat_map (goal_words spelling) p) (flat_map (goal_words spelling) q) images.1) in
      (images.0, goals.0)

  one_witnessed : (c d : ConstraintValue) (w v : Images) (p q : List (Goal × GoalProof)) → IsConstraint c → IsConstraint d → IsSubstitution w → IsSubstitution v → AreProofs p → AreProofs q → witnessed_words spelling c w p ≡ witnessed_words spelling d v q → SameWitnessed c d w v p q
  one_witnessed c d w v p q left right images others proofs last e =
      let words = sym (append_assoc (constraint_words c) (codes ":" ∷ flat_map image_words w) (flat_map (goal_words spelling) p)) ∙ e ∙ append_assoc (constraint_words d) (codes ":" ∷ flat_map image_words v) (flat_map (goal_words spelling) q) in
      let both = one_constraint c d (codes ":" ∷ (flat_map image_words w ++ flat_map (goal_words spelling) p)) (codes ":" ∷ (flat_map image_words v ++ flat_map (goal_words spelling) q)) left right words in
      let rest = one_substitution w v p q images others proofs last (tail_same _ _ _ _ both.1) in
      record { goal = both.0; witness = rest.0; proofs = rest.1 }

  one_literals : (l m : List Literal) (r s : Words) → All (λ l. IsVariable l.var) l → All (λ l. IsVariable l.var) m → map literal_word l ++ (codes ":" ∷ r) ≡ map literal_word m ++ (codes ":" ∷ s) → (l ≡ m) × (r ≡ s)
  one_literals l m r s left right e =
      let both = one_part literal_word (λ l. IsVariable l.var) literal_code l m (codes ":" ∷ r) (codes ":" ∷ s) left right refl refl e in
      (both.0, tail_same _ _ _ _ both.1)

  -- ---- lines

  kinds_apart : (l m : Line) → sum (kind_word l) ≢ sum (kind_word m) → get_or (line_words spelling l) 0 [] ≡ kind_word l → get_or (line_words spelling m) 0 [] ≡ kind_word m → line_words spelling l ≡ line_words spelling m → ⊥
  kinds_apart l m apart first other e = apart (ap sum (sym first ∙ ap (λ ws. get_or ws 0 []) e ∙ other))

  -- lines of the same words are the same
  one_of_words : (l m : Line) → IsWellFormed l → IsWellFormed m → line_words spelling l ≡ line_words spelling m → l ≡ m
  one_of_words (Pol tokens) (Pol others) left right e = ap Pol (one_tokens tokens others left.1 right.1 (tail_same _ _ _ _ e))
  one_of_words (Rup goal hints) (Rup other others) left right e =
      let both = one_hinted goal other hints others left.0 right.0 left.1 right.1 (tail_same _ _ _ _ e) in
      ap (λ c. Rup c hints) both.0 ∙ ap (λ h. Rup other h) both.1
  one_of_words (Learn goal hints) (Learn other others) left right e =
      let both = one_hinted goal other hints others left.0 right.0 left.1 right.1 (tail_same _ _ _ _ e) in
      ap (λ c. Learn c hints) both.0 ∙ ap (λ h. Learn other h) both.1
  one_of_words (Def var sum) (Def other sum') left right e =
      let after = tail_same _ _ _ _ e in
      let var_same : var ≡ other = one_variable var other left.0 right.0 (head_same _ _ _ _ after) in
      let sum_same : sum ≡ sum' = one_end sum sum' left.1 right.1 (tail_same _ _ _ _ (tail_same _ _ _ _ after)) in
      ap (λ v. Def v sum) var_same ∙ ap (λ c. Def other c) sum_same
  one_of_words (Red goal w proofs) (Red other v others) left right e =
      let same = one_witnessed goal other w v proofs others left.0 right.0 left.1 right.1 left.2 right.2 (tail_same _ _ _ _ e) in
      ap (λ c. Red c w proofs) same.goal ∙ ap (λ u. Red other u proofs) same.witness ∙ ap (λ p. Red other v p) same.proofs
  one_of_words (Dom goal w proofs) (Dom other v others) left right e =
      let same = one_witnessed goal other w v proofs others left.0 right.0 left.1 right.1 left.2 right.2 (tail_same _ _ _ _ e) in
      ap (λ c. Dom c w proofs) same.goal ∙ ap (λ u. Dom other u proofs) same.witness ∙ ap (λ p. Dom other v p) same.proofs
  one_of_words (Sol model cut rows) (Sol other cut' rows') left right e =
      let words = sym (append_assoc (map literal_word model) (codes ":" ∷ map literal_word cut) (codes ":" ∷ map (id_word spelling) rows)) ∙ tail_same _ _ _ _ e ∙ append_assoc (map literal_word other) (codes ":" ∷ map literal_word cut') (codes ":" ∷ map (id_word spelling) rows') in
      let models = one_literals model other (map literal_word cut ++ (codes ":" ∷ map (id_word spelling) rows)) (map literal_word cut' ++ (codes ":" ∷ map (id_word spelling) rows')) left.0 right.0 words in
      let cuts = one_literals cut cut' (map (id_word spelling) rows) (map (id_word spelling) rows') left.1.0 right.1.0 models.1 in
      let ids = one_ids rows rows' left.2 right.2 cuts.1 in
      ap (λ m. Sol m cut rows) models.0 ∙ ap (λ c. Sol other c rows) cuts.0 ∙ ap (λ r. Sol other cut' r) ids
  one_of_words (Del ids) (Del others) left right e = ap Del (one_deleted spelling fine ids others left.1 right.1 (tail_same _ _ _ _ e))
  one_of_words (Reduce ids) (Reduce others) left right e = ap Reduce (one_deleted spelling fine ids others left.1 right.1 (tail_same _ _ _ _ e))
  one_of_words (End id) (End other) left right e = ap End (one_id spelling fine id other left right (head_same _ _ _ _ (tail_same _ _ _ _ e)))
  one_of_words l m left right e = absurd (kinds_apart l m (λ same. omega arith) refl refl e)

  pub one_line_of : (text : List ℕ) (l m : Line) → SpellsLine spelling text l → SpellsLine spelling text m → l ≡ m
  one_line_of text l m left right =
      let texts : line_text spelling l ≡ line_text spelling m = sym left.is ∙ right.is in
      one_of_words l m left.formed right.formed (sym (words_of-line spelling fine l left.formed) ∙ ap words_of texts ∙ words_of-line spelling fine m right.formed)
