-- The words of a line after its first: where they go wrong, they are no line's.
use Rattle.std.proofs.Common.{◌≡◌, ◌≢◌, ℕ, ◌<◌, List, [], ◌∷◌, ◌++◌, map, Err, refl, sym, ap, subst, ◌∙◌}
use Rattle.std.specs.List.{All, AllPairs, flat_map}
use Rattle.std.proofs.lemmas.List.{append_assoc, append-nil}
use Rattle.scut_base.proofs.Lists.{tail_same}
use Rattle.scut_base.specs.Literal.{Literal}
use Rattle.pb_lin.specs.Constraint.{ConstraintValue}
use Rattle.cutting_planes.specs.declared.token.PolToken.{PolToken}
use Rattle.hint_rup.specs.declared.hint.Hint.{Hint}
use Rattle.proof_laws.specs.WellFormed.{AreTokens, AreRisingIds, AreRisingLiterals, IsConstraint, IsHint, IsId, IsToken, IsVariable}
use Rattle.proof_lines.specs.declared.kind.Kind.TheVariants.{Pol, Def, Red, Dom, Sol}
use Rattle.proof_lines.specs.declared.reader.LineFault.{LineFault}
use Rattle.proof_lines.specs.declared.reader.LineFault.TheVariants.{Syntax, NoMemory}
use Rattle.proof_lines.specs.LineText.{constraint_words, hint_word, hinted_words, literal_word, token_words}
use Rattle.proof_lines.specs.Spaces.{definition_words, solution_words}
use Rattle.proof_lines.specs.Reading.{BeginsWith, EndsPart, FollowsToken, Reads, ReadsAll, ReadsPart}
use Rattle.proof_lines.specs.Witnessed.{IsWitnessed, words_of_witnessed}
use Rattle.proof_lines.specs.Kinds.{IsNoBody, NoHinted, NoIds, ReadsBody, ReadsHinted, ReadsIds}
use Rattle.proof_lines.proofs.Items.{Words, one_list}
use Rattle.proof_lines.proofs.Codes.{IsWordCode, id_code, literal_code, hint_code}
use Rattle.proof_lines.proofs.WordParts.{one_part, only_part}
use Rattle.proof_lines.proofs.TermLists.{one_constraint}
use Rattle.proof_lines.proofs.TokenCode.{token_code}
use Rattle.proof_lines.specs.declared.spelling.Spelling.{Spelling}
use Rattle.proof_lines.specs.declared.spelling.Spelling.TheVariants.{Plain}
use Rattle.proof_lines.specs.Ids.{IsSpelling, id_word}

-- where words begin with `:`, they have one
not_colon : (words rest : Words) → (BeginsWith (58 ∷ []) words → ⊥) → words ≡ (58 ∷ []) ∷ rest → ⊥
not_colon words rest other is = other (subst (BeginsWith (58 ∷ [])) (sym is) refl)

-- more words than those of a list are none of a list
more_words : {X : Type 0} (word : X → List ℕ) (IsValid : X → Type 0) → IsWordCode word IsValid → (old new : Words) (xs : List X) → All IsValid xs → old ≡ map word xs ++ new → EndsPart new → (new ≡ [] → ⊥) → (ys : List X) → All IsValid ys → old ≡ map word ys → ⊥
more_words word IsValid code old new xs valid is ends unended ys other e =
    unended (one_part word IsValid code xs ys new [] valid other ends tt (sym is ∙ e ∙ sym (append-nil (map word ys)))).1

-- ---- ids in digits

pub ids_wrong : (f : LineFault) (old new : Words) → ReadsPart (map (id_word Plain)) (All IsId) old new (Err f) → ReadsIds Plain old (Err f)
ids_wrong Syntax old new none = λ ids valid e. none ids [] valid.1 tt (e ∙ sym (append-nil (map (id_word Plain) ids)))
ids_wrong NoMemory old new none = tt

pub ids_unended : (old new : Words) (ids : List ℕ) → All IsId ids × (old ≡ map (id_word Plain) ids ++ new) × EndsPart new → (new ≡ [] → ⊥) → NoIds Plain old
ids_unended old new ids read unended = λ others valid e. more_words (id_word Plain) IsId (id_code Plain tt) old new ids read.0 read.1 read.2 unended others valid.1 e

-- no list of these words is one that may be deleted
pub ids_undeleted : (old new : Words) (ids seen : List ℕ) → All IsId ids × (old ≡ map (id_word Plain) ids ++ new) × EndsPart new → ids ≡ seen → ((seen ≢ []) × AllPairs (λ i j. i < j) seen → ⊥) → NoIds Plain old
ids_undeleted old new ids seen read same none = λ others valid e.
    let one : others ≡ ids = only_part (id_word Plain) IsId (id_code Plain tt) old new ids read others [] valid.1 tt (e ∙ sym (append-nil (map (id_word Plain) others))) in
    none (subst (λ (xs : List ℕ). (xs ≢ []) × AllPairs (λ i j. i < j) xs) (one ∙ same) (valid.0, valid.2))

pub ids_read : (old new : Words) (ids seen : List ℕ) → All IsId ids × (old ≡ map (id_word Plain) ids ++ new) × EndsPart new → new ≡ [] → ids ≡ seen → (seen ≢ []) × AllPairs (λ i j. i < j) seen → AreRisingIds ids × (old ≡ map (id_word Plain) ids)
ids_read old new ids seen read end same are =
    let own = subst (λ (xs : List ℕ). (xs ≢ []) × AllPairs (λ i j. i < j) xs) (sym same) are in
    ((own.0, read.0, own.1), read.1 ∙ ap (λ ws. map (id_word Plain) ids ++ ws) end ∙ append-nil (map (id_word Plain) ids))

module _ (spelling : Spelling) where
  -- ---- a definition

  -- the constraint after a variable
  sum_after : (old one two : Words) (word : List ℕ) (v : ℕ) (sum : ConstraintValue) → old ≡ word ∷ one → one ≡ (58 ∷ []) ∷ two → old ≡ definition_words v sum → two ≡ constraint_words sum
  sum_after old one two word v sum first colon e = tail_same _ _ _ _ (sym colon ∙ tail_same _ _ _ _ (sym first ∙ e))

  pub sum_wrong : (f : LineFault) (old one two last : Words) (word : List ℕ) → old ≡ word ∷ one → one ≡ (58 ∷ []) ∷ two → Reads constraint_words IsConstraint two last (Err f) → ReadsBody spelling Def old (Err f)
  sum_wrong Syntax old one two last word first colon none = λ v sum var_valid valid e.
      none sum [] valid (sum_after old one two word v sum first colon e ∙ sym (append-nil (constraint_words sum)))
  sum_wrong NoMemory old one two last word first colon none = tt

  pub sum_unended : (old one two last : Words) (word : List ℕ) (sum : ConstraintValue) → old ≡ word ∷ one → one ≡ (58 ∷ []) ∷ two → IsConstraint sum × (two ≡ constraint_words sum ++ last) → (last ≡ [] → ⊥) → IsNoBody spelling Def old
  sum_unended old one two last word sum first colon read unended = λ v other var_valid valid e.
      unended (one_constraint sum other last [] read.0 valid (sym read.1 ∙ sum_after old one two word v other first colon e ∙ sym (append-nil (constraint_words other)))).1

module _ (spelling : Spelling) (fine : IsSpelling spelling) where
  -- ---- tokens

  pub pol_wrong : (f : LineFault) (old new : Words) → ReadsPart (flat_map (token_words spelling)) AreTokens old new (Err f) → ReadsBody spelling Pol old (Err f)
  pol_wrong Syntax old new none = λ tokens valid e. none tokens [] valid tt (e ∙ sym (append-nil (flat_map (token_words spelling) tokens)))
  pol_wrong NoMemory old new none = tt

  pub pol_unended : (old new : Words) (tokens : List PolToken) → AreTokens tokens × (old ≡ flat_map (token_words spelling) tokens ++ new) × EndsPart new → (new ≡ [] → ⊥) → IsNoBody spelling Pol old
  pol_unended old new tokens read unended = λ others valid e.
      unended (one_list (token_words spelling) IsToken FollowsToken EndsPart (token_code spelling fine) tokens others new [] read.0.1 valid.1 read.2 tt (sym read.1 ∙ e ∙ sym (append-nil (flat_map (token_words spelling) others)))).1

  -- ---- a constraint and hints

  pub unhinted : (old new : Words) (goal : ConstraintValue) → IsConstraint goal × (old ≡ constraint_words goal ++ new) → (BeginsWith (58 ∷ []) new → ⊥) → NoHinted spelling old
  unhinted old new goal read other = λ c hints valid hints_valid e.
      not_colon new (map (hint_word spelling) hints) other (one_constraint goal c new ((58 ∷ []) ∷ map (hint_word spelling) hints) read.0 valid (sym read.1 ∙ e)).1

  -- the hints after a constraint
  hints_after : (old new after : Words) (goal c : ConstraintValue) (hints : List Hint) → IsConstraint goal × (old ≡ constraint_words goal ++ new) → new ≡ (58 ∷ []) ∷ after → IsConstraint c → old ≡ hinted_words spelling c hints → after ≡ map (hint_word spelling) hints
  hints_after old new after goal c hints read colon valid e =
      tail_same _ _ _ _ (sym colon ∙ (one_constraint goal c new ((58 ∷ []) ∷ map (hint_word spelling) hints) read.0 valid (sym read.1 ∙ e)).1)

  pub hints_wrong : (f : LineFault) (old new after last : Words) (goal : ConstraintValue) → IsConstraint goal × (old ≡ constraint_words goal ++ new) → new ≡ (58 ∷ []) ∷ after → ReadsPart (map (hint_word spelling)) (All IsHint) after last (Err f) → ReadsHinted spelling old (Err f)
  hints_wrong Syntax old new after last goal read colon none = λ c hints valid hints_valid e.
      none hints [] hints_valid tt (hints_after old new after goal c hints read colon valid e ∙ sym (append-nil (map (hint_word spelling) hints)))
  hints_wrong NoMemory old new after last goal read colon none = tt

  pub hinted_unended : (old new after last : Words) (goal : ConstraintValue) (hints : List Hint) → IsConstraint goal × (old ≡ constraint_words goal ++ new) → new ≡ (58 ∷ []) ∷ after → All IsHint hints × (after ≡ map (hint_word spelling) hints ++ last) × EndsPart last → (last ≡ [] → ⊥) → NoHinted spelling old
  hinted_unended old new after last goal hints read colon hints_read unended = λ c others valid others_valid e.
      more_words (hint_word spelling) IsHint (hint_code spelling fine) after last hints hints_read.0 hints_read.1 hints_read.2 unended others others_valid (hints_after old new after goal c others read colon valid e)

  -- ---- a solution

  abbrev AreLiterals : List Literal → Type 0
  AreLiterals lits = All (λ l. IsVariable l.var) lits

  abbrev pub ModelRead : Words → Words → List Literal → Type 0
  ModelRead old one model = AreLiterals model × (old ≡ map literal_word model ++ one) × EndsPart one

  -- the words after the model
  after_model : (old one : Words) (model other cut : List Literal) (rows : List ℕ) → ModelRead old one model → AreLiterals other → old ≡ solution_words spelling other cut rows → one ≡ (58 ∷ []) ∷ (map literal_word cut ++ (58 ∷ []) ∷ map (id_word spelling) rows)
  after_model old one model other cut rows read valid e =
      let whole : old ≡ map literal_word other ++ (58 ∷ []) ∷ (map literal_word cut ++ (58 ∷ []) ∷ map (id_word spelling) rows) = e ∙ append_assoc (map literal_word other) ((58 ∷ []) ∷ map literal_word cut) ((58 ∷ []) ∷ map (id_word spelling) rows) in
      (one_part literal_word (λ l. IsVariable l.var) literal_code model other one ((58 ∷ []) ∷ (map literal_word cut ++ (58 ∷ []) ∷ map (id_word spelling) rows)) read.0 valid read.2 refl (sym read.1 ∙ whole)).1

  pub no_cut : (old one : Words) (model : List Literal) → ModelRead old one model → (BeginsWith (58 ∷ []) one → ⊥) → IsNoBody spelling Sol old
  no_cut old one model read other = λ m cut rows m_valid cut_valid rows_valid e. not_colon one _ other (after_model old one model m cut rows read m_valid e)

  pub cut_wrong : (f : LineFault) (old one two three : Words) (model : List Literal) → ModelRead old one model → one ≡ (58 ∷ []) ∷ two → ReadsPart (map literal_word) AreRisingLiterals two three (Err f) → ReadsBody spelling Sol old (Err f)
  cut_wrong Syntax old one two three model read colon none = λ m cut rows m_valid cut_valid rows_valid e.
      none cut ((58 ∷ []) ∷ map (id_word spelling) rows) cut_valid refl (tail_same _ _ _ _ (sym colon ∙ after_model old one model m cut rows read m_valid e))
  cut_wrong NoMemory old one two three model read colon none = tt

  abbrev pub CutRead : Words → Words → List Literal → Type 0
  CutRead two three cut = AreRisingLiterals cut × (two ≡ map literal_word cut ++ three) × EndsPart three

  -- the words after the cut
  after_cut : (old one two three : Words) (model cut m d : List Literal) (rows : List ℕ) → ModelRead old one model → one ≡ (58 ∷ []) ∷ two → CutRead two three cut → AreLiterals m → AreRisingLiterals d → old ≡ solution_words spelling m d rows → three ≡ (58 ∷ []) ∷ map (id_word spelling) rows
  after_cut old one two three model cut m d rows read colon cut_read m_valid d_valid e =
      let rest : two ≡ map literal_word d ++ (58 ∷ []) ∷ map (id_word spelling) rows = tail_same _ _ _ _ (sym colon ∙ after_model old one model m d rows read m_valid e) in
      (one_part literal_word (λ l. IsVariable l.var) literal_code cut d three ((58 ∷ []) ∷ map (id_word spelling) rows) cut_read.0.0 d_valid.0 cut_read.2 refl (sym cut_read.1 ∙ rest)).1

  pub no_rows : (old one two three : Words) (model cut : List Literal) → ModelRead old one model → one ≡ (58 ∷ []) ∷ two → CutRead two three cut → (BeginsWith (58 ∷ []) three → ⊥) → IsNoBody spelling Sol old
  no_rows old one two three model cut read colon cut_read other = λ m d rows m_valid d_valid rows_valid e.
      not_colon three (map (id_word spelling) rows) other (after_cut old one two three model cut m d rows read colon cut_read m_valid d_valid e)

  pub rows_wrong : (f : LineFault) (old one two three four last : Words) (model cut : List Literal) → ModelRead old one model → one ≡ (58 ∷ []) ∷ two → CutRead two three cut → three ≡ (58 ∷ []) ∷ four → ReadsPart (map (id_word spelling)) (All IsId) four last (Err f) → ReadsBody spelling Sol old (Err f)
  rows_wrong Syntax old one two three four last model cut read colon cut_read second none = λ m d rows m_valid d_valid rows_valid e.
      none rows [] rows_valid tt (tail_same _ _ _ _ (sym second ∙ after_cut old one two three model cut m d rows read colon cut_read m_valid d_valid e) ∙ sym (append-nil (map (id_word spelling) rows)))
  rows_wrong NoMemory old one two three four last model cut read colon cut_read second none = tt

  pub sol_unended : (old one two three four last : Words) (model cut : List Literal) (rows : List ℕ) → ModelRead old one model → one ≡ (58 ∷ []) ∷ two → CutRead two three cut → three ≡ (58 ∷ []) ∷ four → All IsId rows × (four ≡ map (id_word spelling) rows ++ last) × EndsPart last → (last ≡ [] → ⊥) → IsNoBody spelling Sol old
  sol_unended old one two three four last model cut rows read colon cut_read second rows_read unended = λ m d others m_valid d_valid others_valid e.
      more_words (id_word spelling) IsId (id_code spelling fine) four last rows rows_read.0 rows_read.1 rows_read.2 unended others others_valid (tail_same _ _ _ _ (sym second ∙ after_cut old one two three model cut m d others read colon cut_read m_valid d_valid e))

  -- ---- a constraint, a witness and proofs

  pub red_wrong : (f : LineFault) (words : Words) → ReadsAll (words_of_witnessed spelling) IsWitnessed words (Err f) → ReadsBody spelling Red words (Err f)
  red_wrong Syntax words none = λ goal witness proofs valid witness_valid proofs_valid e. none (goal, witness, proofs) (valid, witness_valid, proofs_valid) e
  red_wrong NoMemory words none = tt

  pub dom_wrong : (f : LineFault) (words : Words) → ReadsAll (words_of_witnessed spelling) IsWitnessed words (Err f) → ReadsBody spelling Dom words (Err f)
  dom_wrong Syntax words none = λ goal witness proofs valid witness_valid proofs_valid e. none (goal, witness, proofs) (valid, witness_valid, proofs_valid) e
  dom_wrong NoMemory words none = tt
