-- The coefficient of a literal, by the place of its variable.
use Rattle.std.proofs.Common.{◌≡◌, ℕ, ◌<◌, true, false, List, length, get_or, ⊎_elim, subst, sym, if◌then◌else◌}
use Rattle.std.specs.List.{AllPairs}
use Rattle.std.proofs.lemmas.Bool.{ne_eqb, and_left, cases_eq, cond-true, cond-false}
use Rattle.scut_base.specs.Literal.{Literal, is_same}
use Rattle.pb_lin.specs.Place.{IsPlace}
use Rattle.pb_lin.specs.Cover.{coefficient}
use Rattle.pb_lin.proofs.Places.{at_place}
use Rattle.scut_base.proofs.Lists.{sum_by_zero, sum_by_single}
use Rattle.std.proofs.Common.{◌∙◌}

pub coefficient_at : (terms : List (Literal × ℕ)) (l : Literal) (i : ℕ) (d : Literal × ℕ) → AllPairs (λ s t. s.0.var < t.0.var) terms → IsPlace (λ t. t.0.var) terms l.var i → i < length terms → is_same (get_or terms i d).0 l ≡ true → coefficient terms l ≡ (get_or terms i d).1
coefficient_at terms l i d up place short same =
    sum_by_single (λ t. if is_same t.0 l then t.1 else 0) terms i d short (λ k e h apart. cond-false _ _ _ (and_left _ _ (ne_eqb _ _ (λ var. apart (at_place (λ t. t.0.var) terms l.var i up place k e h var)))))
    ∙ cond-true _ _ _ same

pub coefficient_none : (terms : List (Literal × ℕ)) (l : Literal) (i : ℕ) → AllPairs (λ s t. s.0.var < t.0.var) terms → IsPlace (λ t. t.0.var) terms l.var i → ((d : Literal × ℕ) → i < length terms → is_same (get_or terms i d).0 l ≡ false) → coefficient terms l ≡ 0
coefficient_none terms l i up place other = sum_by_zero (λ t. if is_same t.0 l then t.1 else 0) terms (λ k d short. cond-false _ _ _ (⊎_elim (here k d short) (λ apart. and_left _ _ (ne_eqb _ _ apart)) (cases_eq (get_or terms k d).0.var l.var)))
  where
    here : (k : ℕ) (d : Literal × ℕ) → k < length terms → (get_or terms k d).0.var ≡ l.var → is_same (get_or terms k d).0 l ≡ false
    here k d short var =
        let at : k ≡ i = at_place (λ t. t.0.var) terms l.var i up place k d short var in
        subst (λ (j : ℕ). is_same (get_or terms j d).0 l ≡ false) (sym at) (other d (subst (λ (j : ℕ). j < length terms) at short))
