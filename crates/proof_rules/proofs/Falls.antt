-- What terms and these under a substitution make together, and which variables they have.
use Rattle.std.proofs.Common.{◌≡◌, ℕ, ◌<◌, ◌≤◌, ◌+◌, ◌==◌, Bool, true, false, if◌then◌else◌, List, [], ◌∷◌, ◌++◌, map, fold, length, get_or, arith, ap, sym, subst, ◌∙◌, Ok, Err, Result, ℤ, pos, neg_ℤ, ◌+ℤ◌, ◌-ℤ◌}
use Rattle.std.specs.Prelude.{IfOk, sum_by, unsigned_abs, refl}
use Rattle.std.specs.List.{All}
use Rattle.std.proofs.lemmas.Int.{ints}
use Rattle.std.proofs.lemmas.List.{map-append}
use Rattle.std.proofs.lemmas.List.Elements.{All-head, All-tail}
use Rattle.std.proofs.lemmas.List.Sums.{fold_push, sum_by_push}
use Rattle.scut_base.specs.Literal.{Literal}
use Rattle.scut_base.specs.Assignment.{lit_true}
use Rattle.pb_lin.specs.Constraint.{ConstraintValue, IsVariable, TermsUpTo, term_value}
use Rattle.pb_lin.specs.CostRow.{CostRowValue}
use Rattle.pb_lin.specs.NormalForm.{signed_value, sum_value}
use Rattle.pb_lin.specs.declared.witness.Image.{Image}
use Rattle.pb_lin.specs.declared.witness.Image.TheVariants.{Zero, One, Lit}
use Rattle.pb_lin.specs.Substitution.{Images, ImageUpTo, image_of, opposite_image, true_under}
use Rattle.proof_rules.specs.Verdict.{ImagesUpTo}

-- one term more
pub sum_value_push : (a : List Bool) (terms : List (ℤ × Literal)) (t : ℤ × Literal) → sum_value a (terms ++ t ∷ []) ≡ sum_value a terms +ℤ signed_value a t
sum_value_push a terms t = ap (fold (λ s x. s +ℤ x) (pos 0)) (map-append (signed_value a) terms (t ∷ [])) ∙ fold_push (λ s x. s +ℤ x) (pos 0) (map (signed_value a) terms) (signed_value a t)

opposite_upto : (n : ℕ) (i : Image) → ImageUpTo n i → ImageUpTo n (opposite_image i)
opposite_upto n Zero is = tt
opposite_upto n One is = tt
opposite_upto n (Lit l) is = is

signed_upto : (n : ℕ) (neg : Bool) (i : Image) → ImageUpTo n i → ImageUpTo n (if neg then opposite_image i else i)
signed_upto n true i is = opposite_upto n i is
signed_upto n false i is = is

-- what stands for a literal has no variable that the literal and the images lack
pub image_upto : (n : ℕ) (w : Images) (l : Literal) → ImagesUpTo n w → IsVariable n l.var → ImageUpTo n (image_of w l)
image_upto n [] l images is = is
image_upto n (i ∷ w) l images is =
    by (i.0 == l.var) (signed_upto n l.neg i.1 (All-head (λ (j : ℕ × Image). ImageUpTo n j.1) i w images)) (image_upto n w l (All-tail (λ (j : ℕ × Image). ImageUpTo n j.1) i w images) is)
  where
    by : (here : Bool) → ImageUpTo n (if l.neg then opposite_image i.1 else i.1) → ImageUpTo n (image_of w l) → ImageUpTo n (if here then (if l.neg then opposite_image i.1 else i.1) else image_of w l)
    by true own rest = own
    by false own rest = rest

-- a literal's coefficient, and that of its image with the sign changed, by the truths of both
two_truths : (x y : Bool) (n : ℕ) → (if x then pos n else pos 0) +ℤ (if y then neg_ℤ (pos n) else pos 0) ≡ pos (if x then n else 0) -ℤ pos (if y then n else 0)
two_truths true true n = omega (arith, ints)
two_truths true false n = omega (arith, ints)
two_truths false true n = omega (arith, ints)
two_truths false false n = omega (arith, ints)

-- a term with its literal's image
pub difference_pushed : (a : List Bool) (w : Images) (l m : Literal) (n : ℕ) (old middle new : List (ℤ × Literal)) → lit_true a m ≡ true_under w a l →
    middle ≡ old ++ (pos n, l) ∷ [] → new ≡ middle ++ (neg_ℤ (pos n), m) ∷ [] →
    sum_value a new -ℤ pos 0 ≡ sum_value a old +ℤ (pos (term_value a (l, n)) -ℤ pos (if true_under w a l then n else 0))
difference_pushed a w l m n old middle new truth first second =
    let one = ap (sum_value a) first ∙ sum_value_push a old (pos n, l) in
    let two = ap (sum_value a) second ∙ sum_value_push a middle (neg_ℤ (pos n), m) in
    let both = two_truths (lit_true a l) (lit_true a m) n in
    let same : pos (if lit_true a m then n else 0) ≡ pos (if true_under w a l then n else 0) = ap (λ (b : Bool). pos (if b then n else 0)) truth in
    omega (arith, ints)

-- a row of these has no variable above a bound
pub row_upto : (rows : List CostRowValue) (i : ℕ) (row : CostRowValue) (m n : ℕ) → All (λ r. TermsUpTo m r.terms) rows → i < length rows → row ≡ get_or rows i row → m ≤ n → TermsUpTo n row.terms
row_upto rows i row m n all short is le = subst (λ (r : CostRowValue). TermsUpTo n r.terms) (sym is) (λ k d inside. let upto = all i row short k d inside in omega arith)

-- what follows from two facts of what is answered
pub both_if_ok : {E : Type 0} (r : Result ConstraintValue E) (N F Q : ConstraintValue → Type 0) → IfOk r N → IfOk r F → ((g : ConstraintValue) → N g → F g → Q g) → IfOk r Q
both_if_ok (Ok g) N F Q one other onward = onward g one other
both_if_ok (Err e) N F Q one other onward = tt

one_truth : (x y : Bool) (n : ℕ) → (if x then pos n else pos 0) -ℤ pos (if y then n else 0) ≡ pos (if x then n else 0) -ℤ pos (if y then n else 0)
one_truth true y n = refl
one_truth false y n = refl

-- a term whose literal the substitution makes true or false
pub decided_pushed : (a : List Bool) (w : Images) (l : Literal) (n : ℕ) (old new : List (ℤ × Literal)) (b : Bool) → b ≡ true_under w a l → new ≡ old ++ (pos n, l) ∷ [] →
    sum_value a new -ℤ pos (if b then n else 0) ≡ sum_value a old +ℤ (pos (term_value a (l, n)) -ℤ pos (if true_under w a l then n else 0))
decided_pushed a w l n old new b truth is =
    let one = ap (sum_value a) is ∙ sum_value_push a old (pos n, l) in
    let own = one_truth (lit_true a l) b n in
    let same : pos (if b then n else 0) ≡ pos (if true_under w a l then n else 0) = ap (λ (d : Bool). pos (if d then n else 0)) truth in
    omega (arith, ints)

-- one more coefficient
pub magnitude_pushed : (old new : List (ℤ × Literal)) (x : ℤ) (l : Literal) (n : ℕ) → unsigned_abs x ≡ n → new ≡ old ++ (x, l) ∷ [] → sum_by (λ t. unsigned_abs t.0) new ≡ sum_by (λ t. unsigned_abs t.0) old + n
magnitude_pushed old new x l n size is =
    ap (sum_by (λ (t : ℤ × Literal). unsigned_abs t.0)) is ∙ sum_by_push (λ (t : ℤ × Literal). unsigned_abs t.0) old (x, l) ∙ ap (λ (k : ℕ). sum_by (λ (t : ℤ × Literal). unsigned_abs t.0) old + k) size
