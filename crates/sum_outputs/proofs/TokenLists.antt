-- Lists of tokens, one token or one line longer.
use Rattle.std.proofs.Common.{◌≡◌, ℕ, List, [], ◌∷◌, ◌++◌, map, refl, ap, sym, ◌∙◌, append_assoc}
use Rattle.cutting_planes.specs.declared.token.PolToken.{PolToken}
use Rattle.cutting_planes.specs.declared.token.PolToken.TheVariants.{Id, Add}
use Rattle.sum_outputs.specs.ClauseTokens.{added, summed}
use Rattle.sum_outputs.specs.declared.sum_output.SumOutput.{SumOutput}

added_more : (ids : List ℕ) (id : ℕ) → added (ids ++ id ∷ []) ≡ added ids ++ (Id id ∷ Add ∷ [])
added_more [] id = refl
added_more (i ∷ ids) id = ap (λ (ts : List PolToken). Id i ∷ Add ∷ ts) (added_more ids id)

-- a line more, where there are some
pub summed_more : (ids : List ℕ) (id : ℕ) → (summed ids ≡ [] → ⊥) → summed (ids ++ id ∷ []) ≡ (summed ids ++ Id id ∷ []) ++ Add ∷ []
summed_more [] id some = absurd (some refl)
summed_more (i ∷ ids) id some = ap (λ (ts : List PolToken). Id i ∷ ts) (added_more ids id ∙ sym (append_assoc (added ids) (Id id ∷ []) (Add ∷ [])))

abbrev pub lowers_of : List SumOutput → List ℕ
lowers_of parts = map (λ o. o.lower) parts
