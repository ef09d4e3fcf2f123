-- Values and truths under cut, longer and substituted assignments.
use Rattle.std.proofs.Common.{◌≡◌, ◌≢◌, ◌↔◌, ℕ, eqb, ◌-◌, ◌<◌, ◌≤◌, Bool, false, not, if◌then◌else◌, List, [], ◌∷◌, ◌++◌, length, take, get_or, ap, refl, ◌∙◌, arith}
use Rattle.std.specs.List.{All}
use Rattle.std.proofs.lemmas.Bool.{cond-false, ne_eqb}
use Rattle.std.proofs.lemmas.List.Elements.{All-head, All-tail}
use Rattle.std.proofs.lemmas.List.{get_or-take, get_or_append_left}
use Rattle.std.proofs.lemmas.List.FromFn.{get_or-map-range_with_len}
use Rattle.scut_base.specs.Literal.{Literal}
use Rattle.scut_base.specs.Assignment.{value_of}
use Rattle.pb_lin.specs.Constraint.{ConstraintValue, Holds, term_value, value}
use Rattle.pb_lin.specs.Substitution.{Images, IsUnder, image_true, variable_under, true_under, value_under}
use Rattle.scut_base.proofs.Lists.{sum_by_same_in}
use Rattle.pb_lin.proofs.Laws.{Holds-under}
use Rattle.proof_laws.proofs.Semantics.{AreWithin, image, AreUntouched}

-- a variable that no image is of keeps its truth
variable_under_none : (images : Images) (a : List Bool) (var : ℕ) → All (λ i. i.0 ≢ var) images → variable_under images a var ≡ value_of a var
variable_under_none [] a var none = refl
variable_under_none (i ∷ images) a var none =
    cond-false (eqb i.0 var) (image_true a i.1) (variable_under images a var) (ne_eqb i.0 var (All-head (λ j. j.0 ≢ var) i images none))
    ∙ variable_under_none images a var (All-tail (λ j. j.0 ≢ var) i images none)

-- assignments that agree on the terms' variables give the terms one value
pub value_same : (a b : List Bool) (terms : List (Literal × ℕ)) → All (λ t. value_of a t.0.var ≡ value_of b t.0.var) terms → value a terms ≡ value b terms
value_same a b terms same = sum_by_same_in (term_value a) (term_value b) terms (λ k d short.
    ap (λ (v : Bool). if (if (get_or terms k d).0.neg then not v else v) then (get_or terms k d).1 else 0) (same k d short))

pub value-take : (n : ℕ) (x : List Bool) (terms : List (Literal × ℕ)) → AreWithin n terms → value (take n x) terms ≡ value x terms
value-take n x terms within = value_same (take n x) x terms (λ k d short. let w = within k d short in get_or-take n x ((get_or terms k d).0.var - 1) false (omega arith))

pub value-push : (x : List Bool) (v : Bool) (terms : List (Literal × ℕ)) → AreWithin (length x) terms → value (x ++ v ∷ []) terms ≡ value x terms
value-push x v terms within = value_same (x ++ v ∷ []) x terms (λ k d short. let w = within k d short in get_or_append_left x (v ∷ []) false ((get_or terms k d).0.var - 1) (omega arith))

pub value_of-image : (w : Images) (x : List Bool) (var : ℕ) → 0 < var → var ≤ length x → value_of (image w x) var ≡ variable_under w x var
value_of-image w x var from_one short = get_or-map-range_with_len (variable_under w x) 1 (length x) (var - 1) var false (omega arith) (omega arith)

all_images : (w : Images) (x : List Bool) (terms : List (Literal × ℕ)) → AreWithin (length x) terms → All (λ t. value_of (image w x) t.0.var ≡ variable_under w x t.0.var) terms
all_images w x terms within k d short = let in' = within k d short in value_of-image w x (get_or terms k d).0.var in'.0 in'.1

-- a constraint under the witness holds exactly where the constraint does at the image
pub image_holds : (g c : ConstraintValue) (w : Images) (x : List Bool) → IsUnder g w c → AreWithin (length x) c.terms → (Holds x g ↔ Holds (image w x) c)
image_holds g c w x under within = Holds-under g c w under x (image w x) (all_images w x c.terms within)

pub image_value : (w : Images) (x : List Bool) (terms : List (Literal × ℕ)) → AreWithin (length x) terms → value (image w x) terms ≡ value_under w x terms
image_value w x terms within = sum_by_same_in (term_value (image w x)) (λ t. if true_under w x t.0 then t.1 else 0) terms (λ k d short.
    ap (λ (v : Bool). if (if (get_or terms k d).0.neg then not v else v) then (get_or terms k d).1 else 0) (all_images w x terms within k d short))

-- terms without a variable of the witness keep their value
pub image_untouched : (w : Images) (x : List Bool) (terms : List (Literal × ℕ)) → AreWithin (length x) terms → AreUntouched w terms → value (image w x) terms ≡ value x terms
image_untouched w x terms within apart = value_same (image w x) x terms (λ k d short. all_images w x terms within k d short ∙ variable_under_none w x (get_or terms k d).0.var (apart k d short))
