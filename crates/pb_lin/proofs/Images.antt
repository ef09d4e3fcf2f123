-- What stands for a literal, by the place of its variable's image.
use Rattle.std.proofs.Common.{◌≡◌, ◌≢◌, ℕ, zero, suc, ◌<◌, ◌≤◌, ◌==◌, Bool, true, false, not, if◌then◌else◌, List, [], ◌∷◌, length, get_or, arith, refl, ap, sym, ◌∙◌, ⊎_elim}
use Rattle.std.specs.Prelude.{nat_eq, nat_lt}
use Rattle.std.specs.List.{All, AllPairs}
use Rattle.std.proofs.lemmas.Bool.{ne_eqb, eq-eqb, cond-true, cond-false, cases_Bool, le-ltb}
use Rattle.std.proofs.lemmas.List.{get_or_default}
use Rattle.std.proofs.lemmas.List.Folds.{list_any_at, list_any_none}
use Rattle.std.proofs.lemmas.List.Elements.{All-head, All-tail}
use Rattle.scut_base.specs.Literal.{Literal}
use Rattle.scut_base.specs.Assignment.{value_of}
use Rattle.pb_lin.specs.declared.witness.Image.{Image}
use Rattle.pb_lin.specs.declared.witness.Image.TheVariants.{Zero, One, Lit}
use Rattle.pb_lin.specs.Place.{IsPlace}
use Rattle.pb_lin.proofs.Places.{none_at_place}
use Rattle.pb_lin.specs.Substitution.{Images, has_image, image_of, opposite_image, image_true, variable_under, true_under}

pub image_of_none : (images : Images) (l : Literal) → All (λ i. i.0 ≢ l.var) images → image_of images l ≡ Lit l
image_of_none [] l apart = refl
image_of_none (i ∷ images) l apart = cond-false _ _ _ (ne_eqb _ _ (All-head (λ j. j.0 ≢ l.var) i images apart)) ∙ image_of_none images l (All-tail (λ j. j.0 ≢ l.var) i images apart)

pub image_of_at : (images : Images) (l : Literal) (i : ℕ) (d : ℕ × Image) → i < length images → ((k : ℕ) → k < i → (get_or images k d).0 ≢ l.var) → (get_or images i d).0 ≡ l.var → image_of images l ≡ (if l.neg then opposite_image (get_or images i d).1 else (get_or images i d).1)
image_of_at [] l i d short before e = absurd (omega arith)
image_of_at (x ∷ images) l zero d short before e = cond-true _ _ _ (eq-eqb _ _ e)
image_of_at (x ∷ images) l (suc i) d short before e = cond-false _ _ _ (ne_eqb _ _ (before 0 (omega arith))) ∙ image_of_at images l i d (omega arith) (λ k h. before (suc k) (omega arith)) e

opposite_value : (neg v : Bool) → (if not neg then not v else v) ≡ not (if neg then not v else v)
opposite_value true true = refl
opposite_value true false = refl
opposite_value false true = refl
opposite_value false false = refl

opposite_true : (a : List Bool) (i : Image) → image_true a (opposite_image i) ≡ not (image_true a i)
opposite_true a Zero = refl
opposite_true a One = refl
opposite_true a (Lit l) = opposite_value l.neg (value_of a l.var)

-- the truth of an image, with a sign
signed_true : (a : List Bool) (neg : Bool) (i : Image) → image_true a (if neg then opposite_image i else i) ≡ (if neg then not (image_true a i) else image_true a i)
signed_true a true i = opposite_true a i
signed_true a false i = refl

-- what stands for a literal is as true as it is under the substitution
pub image_of_true : (images : Images) (a : List Bool) (l : Literal) → image_true a (image_of images l) ≡ true_under images a l
image_of_true [] a l = refl
image_of_true (i ∷ images) a l = by (i.0 == l.var) (image_of_true images a l)
  where
    by : (here : Bool) → image_true a (image_of images l) ≡ true_under images a l → image_true a (if here then (if l.neg then opposite_image i.1 else i.1) else image_of images l) ≡ (if l.neg then not (if here then image_true a i.1 else variable_under images a l.var) else (if here then image_true a i.1 else variable_under images a l.var))
    by true rest = signed_true a l.neg i.1
    by false rest = rest

-- ---- whether a variable has an image, by its place

no_image : (images : Images) (var i : ℕ) → AllPairs (λ i j. i.0 < j.0) images → IsPlace (λ i. i.0) images var i → ((d : ℕ × Image) → i < length images → (get_or images i d).0 ≡ var → ⊥) → has_image images var ≡ false
no_image images var i rising place other = list_any_none (λ j. j.0 == var) images (λ k d short. ne_eqb _ _ (none_at_place (λ j. j.0) images var i rising place other k d short))

pub has_image_at : (images : Images) (var i : ℕ) (d : ℕ × Image) → AllPairs (λ i j. i.0 < j.0) images → IsPlace (λ i. i.0) images var i → i < length images → nat_eq (get_or images i d).0 var ≡ has_image images var
has_image_at images var i d rising place short = ⊎_elim
    (λ (e : nat_eq (get_or images i d).0 var ≡ true). e ∙ sym (list_any_at (λ j. j.0 == var) images i d short e))
    (λ (n : nat_eq (get_or images i d).0 var ≡ false). n ∙ sym (no_image images var i rising place (λ e h is.
    let here : nat_eq (get_or images i d).0 var ≡ true = eq-eqb _ _ (ap (λ (j : ℕ × Image). j.0) (get_or_default images i d e h) ∙ is) in cc)))
    (cases_Bool (nat_eq (get_or images i d).0 var))

pub has_image_past : (images : Images) (var i : ℕ) → AllPairs (λ i j. i.0 < j.0) images → IsPlace (λ i. i.0) images var i → length images ≤ i → nat_lt i (length images) ≡ has_image images var
has_image_past images var i rising place past = le-ltb _ _ past ∙ sym (no_image images var i rising place (λ d short e. omega arith))
