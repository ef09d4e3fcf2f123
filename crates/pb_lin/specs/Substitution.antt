-- Substitutions of variables by truth values and literals.
use Rattle.std.specs.Prelude.{ℕ, ◌<◌, ◌==◌, Bool, true, false, not, if◌then◌else◌, List, [], ◌∷◌, sum_by, All, AllPairs, pos, ◌-ℤ◌}
use Rattle.std.specs.List.{list_any}
use Rattle.scut_base.specs.Literal.{Literal}
use Rattle.scut_base.specs.Assignment.{lit_true}
use Rattle.pb_lin.specs.Constraint.{ConstraintValue, IsVariable, literals, opposite}
use Rattle.pb_lin.specs.NormalForm.{HasExcess}
use Rattle.pb_lin.specs.declared.witness.Image.{Image}
use Rattle.pb_lin.specs.declared.witness.Image.TheVariants.{Zero, One, Lit}

-- a substitution: variables with their images
abbrev pub Images : Type 0
Images = List (ℕ × Image)

-- the variables rise
pub record IsWitness (images : Images) : Type 0 where
  pub from_one : All (λ i. 0 < i.0) images
  pub rising : AllPairs (λ i j. i.0 < j.0) images

-- whether a variable has an image
abbrev pub has_image : Images → ℕ → Bool
has_image images var = list_any (λ i. i.0 == var) images

-- whether some variable of the constraint has an image
abbrev pub touches : Images → ConstraintValue → Bool
touches images c = list_any (λ l. has_image images l.var) (literals c.terms)

-- the image of the opposite literal
abbrev pub opposite_image : Image → Image
opposite_image Zero = One
opposite_image One = Zero
opposite_image (Lit l) = Lit (opposite l)

-- what stands for a literal: by the image of its variable where it has one, and else itself
abbrev pub image_of : Images → Literal → Image
image_of [] l = Lit l
image_of (i ∷ images) l = if i.0 == l.var then (if l.neg then opposite_image i.1 else i.1) else image_of images l

-- a literal that stands for a variable is of one from 1 to n
abbrev pub ImageUpTo : ℕ → Image → Type 0
ImageUpTo n Zero = Unit {0}
ImageUpTo n One = Unit {0}
ImageUpTo n (Lit l) = IsVariable n l.var

-- the truth of an image
abbrev pub image_true : List Bool → Image → Bool
image_true a Zero = false
image_true a One = true
image_true a (Lit l) = lit_true a l

-- the truth of a variable under a substitution: that of its image, where it has one
abbrev pub variable_under : Images → List Bool → ℕ → Bool
variable_under [] a var = lit_true a (record { var = var; neg = false })
variable_under (i ∷ images) a var = if i.0 == var then image_true a i.1 else variable_under images a var

-- the truth of a literal under a substitution
abbrev pub true_under : Images → List Bool → Literal → Bool
true_under images a l = if l.neg then not (variable_under images a l.var) else variable_under images a l.var

-- the sum of the coefficients of the literals that are true under the substitution
abbrev pub value_under : Images → List Bool → List (Literal × ℕ) → ℕ
value_under images a terms = sum_by (λ t. if true_under images a t.0 then t.1 else 0) terms

-- the normal form of the constraint with each variable replaced by its image
abbrev pub IsUnder : ConstraintValue → Images → ConstraintValue → Type 0
IsUnder result images c = HasExcess result (λ a. pos (value_under images a c.terms) -ℤ pos c.degree)
