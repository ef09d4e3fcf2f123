-- How tokens are spelled tells them apart.
use Rattle.std.proofs.Common.{◌≡◌, ◌++◌, sym, ap, refl, ◌∙◌}
use Rattle.std.proofs.lemmas.List.{append_cancel_left}
use Rattle.cutting_planes.specs.declared.token.PolToken.{PolToken}
use Rattle.proof_laws.specs.WellFormed.{IsToken}
use Rattle.proof_lines.specs.LineText.{token_words}
use Rattle.proof_lines.specs.Reading.{EndsPart, FollowsToken}
use Rattle.proof_lines.proofs.Items.{IsCode, Words}
use Rattle.proof_lines.proofs.TokenWords.{follows_any, token_of, token_of-words}
use Rattle.proof_lines.proofs.Begins.{token_begins, plain_no_end, plain_follows, end_follows}
use Rattle.proof_lines.specs.declared.spelling.Spelling.{Spelling}
use Rattle.proof_lines.specs.Ids.{IsSpelling}

module _ (spelling : Spelling) (fine : IsSpelling spelling) where
  one_token : (t u : PolToken) (r s : Words) → IsToken t → IsToken u → FollowsToken t r → FollowsToken u s → token_words spelling t ++ r ≡ token_words spelling u ++ s → (t ≡ u) × (r ≡ s)
  one_token t u r s left right follows after e =
      let same : t ≡ u = sym (token_of-words spelling fine t r left follows) ∙ ap (token_of spelling) e ∙ token_of-words spelling fine u s right after in
      (same, append_cancel_left (token_words spelling u) r s (ap (λ v. token_words spelling v ++ r) (sym same) ∙ e))

  pub token_code : IsCode (token_words spelling) IsToken FollowsToken EndsPart
  token_code = record {
    one = one_token;
    joins = λ t u r left right. follows_any t (token_words spelling u ++ r) (plain_follows (token_words spelling u ++ r) (token_begins spelling fine u r right));
    stops = λ t r valid ends. follows_any t r (end_follows r ends);
    no_end = λ t r valid ends. plain_no_end (token_words spelling t ++ r) (token_words spelling t ++ r) (token_begins spelling fine t r valid) ends refl;
  }
