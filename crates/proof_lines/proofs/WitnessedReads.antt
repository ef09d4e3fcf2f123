-- What the words of a constraint with its witness don't spell.
use Rattle.std.proofs.Common.{◌≡◌, [], ◌∷◌, ◌++◌, Ok, Err, refl, sym, subst, ◌∙◌}
use Rattle.std.specs.List.{flat_map}
use Rattle.std.proofs.lemmas.List.{append_assoc}
use Rattle.scut_base.proofs.Lists.{tail_same}
use Rattle.pb_lin.specs.Constraint.{ConstraintValue}
use Rattle.pb_lin.specs.Substitution.{Images}
use Rattle.proof_laws.specs.WellFormed.{IsConstraint, IsSubstitution, AreProofs}
use Rattle.proof_lines.specs.declared.reader.LineFault.{LineFault}
use Rattle.proof_lines.specs.declared.reader.LineFault.TheVariants.{Syntax, NoMemory}
use Rattle.proof_lines.specs.LineText.{constraint_words, image_words, goal_words}
use Rattle.proof_lines.specs.Reading.{BeginsWith, EndsPart, ReadsAll, ReadsPart}
use Rattle.proof_lines.specs.Witnessed.{IsImageOf, IsSubstituted, substituted_words, Witnessed, IsWitnessed, words_of_witnessed}
use Rattle.proof_lines.proofs.Items.{Words, one_list}
use Rattle.proof_lines.proofs.Codes.{AnyFollows}
use Rattle.proof_lines.proofs.TermLists.{one_constraint}
use Rattle.proof_lines.proofs.ImageCode.{image_code}
use Rattle.proof_lines.proofs.OneLine.{goals_end}
use Rattle.proof_lines.specs.declared.spelling.Spelling.{Spelling}
use Rattle.proof_lines.specs.Ids.{IsSpelling}

module _ (spelling : Spelling) (fine : IsSpelling spelling) where
  -- ---- the witness and the proofs

  pub witness_wrong : (old new : Words) (fault : LineFault) → ReadsPart (flat_map image_words) IsSubstitution old new (Err fault) → ReadsAll (substituted_words spelling) IsSubstituted old (Err fault)
  witness_wrong old new NoMemory wrong = tt
  witness_wrong old new Syntax wrong = λ s valid is. wrong s.0 (flat_map (goal_words spelling) s.1) valid.0 (goals_end spelling fine s.1) is

  pub proofs_wrong : (old new : Words) (w : Images) (fault : LineFault) → ReadsPart (flat_map image_words) IsSubstitution old new (Ok w) → ReadsAll (flat_map (goal_words spelling)) AreProofs new (Err fault) → ReadsAll (substituted_words spelling) IsSubstituted old (Err fault)
  proofs_wrong old new w NoMemory read wrong = tt
  proofs_wrong old new w Syntax read wrong = λ s valid is.
      let both = one_list image_words IsImageOf AnyFollows EndsPart image_code w s.0 new (flat_map (goal_words spelling) s.1) read.0.images valid.0.images read.2 (goals_end spelling fine s.1) (sym read.1 ∙ is) in
      wrong s.1 valid.1 both.1

  -- ---- the whole

  -- the words after the constraint
  after : (w : Witnessed) → words_of_witnessed spelling w ≡ constraint_words w.0 ++ ((58 ∷ []) ∷ substituted_words spelling (w.1, w.2))
  after w = append_assoc (constraint_words w.0) ((58 ∷ []) ∷ flat_map image_words w.1) (flat_map (goal_words spelling) w.2)

  -- what follows a constraint that was read
  rest_same : (old here : Words) (c : ConstraintValue) → IsConstraint c × (old ≡ constraint_words c ++ here) → (w : Witnessed) → IsWitnessed w → old ≡ words_of_witnessed spelling w → here ≡ (58 ∷ []) ∷ substituted_words spelling (w.1, w.2)
  rest_same old here c read w valid is = (one_constraint c w.0 here ((58 ∷ []) ∷ substituted_words spelling (w.1, w.2)) read.0 valid.0 (sym read.1 ∙ is ∙ after w)).1

  pub no_mark_after : (old here : Words) (c : ConstraintValue) → IsConstraint c × (old ≡ constraint_words c ++ here) → (BeginsWith (58 ∷ []) here → ⊥) → (w : Witnessed) → IsWitnessed w → old ≡ words_of_witnessed spelling w → ⊥
  no_mark_after old here c read none w valid is = none (subst (BeginsWith (58 ∷ [])) (sym (rest_same old here c read w valid is)) refl)

  pub substituted_wrong : (old here new : Words) (c : ConstraintValue) (fault : LineFault) → IsConstraint c × (old ≡ constraint_words c ++ here) → here ≡ (58 ∷ []) ∷ new → ReadsAll (substituted_words spelling) IsSubstituted new (Err fault) → ReadsAll (words_of_witnessed spelling) IsWitnessed old (Err fault)
  substituted_wrong old here new c NoMemory read follows wrong = tt
  substituted_wrong old here new c Syntax read follows wrong = λ w valid is.
      wrong (w.1, w.2) (valid.1, valid.2) (tail_same _ _ _ _ (sym follows ∙ rest_same old here c read w valid is))
