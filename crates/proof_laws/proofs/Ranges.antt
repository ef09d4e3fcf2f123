-- Variables of lines that are legal are those of the state.
use Rattle.std.proofs.Common.{◌≡◌, ℕ, ◌+◌, ◌<◌, ◌≤◌, ◌==◌, Bool, true, false, Option, Some, None, List, [], ◌∷◌, ◌++◌, map, refl, sym, ◌∙◌, ⊎_elim}
use Rattle.std.specs.Prelude.{nat_lt, option_map}
use Rattle.std.specs.List.{All, find}
use Rattle.std.proofs.lemmas.Bool.{cases_Bool, cond-true, cond-false, ltb-false, eqb-true}
use Rattle.std.proofs.lemmas.List.Elements.{All-nil, All-cons, All-head, All-tail}
use Rattle.scut_base.specs.Literal.{Literal}
use Rattle.pb_lin.specs.Constraint.{ConstraintValue, size}
use Rattle.proof_laws.specs.State.{StateValue}
use Rattle.proof_laws.specs.Steps.{reached_if, reached_only_if}
use Rattle.proof_laws.specs.Refusal.{range_fault, term_variables, def_fault, first_fault, fault_unless, size_fault}
use Rattle.proof_laws.specs.declared.why.Why.{Why}
use Rattle.proof_laws.specs.declared.why.Why.TheVariants.{VarRange, NotFresh}
use Rattle.proof_laws.proofs.Semantics.{AreWithin}
use Rattle.proof_laws.proofs.Derivations.{unless_none}

map_none : (o : Option ℕ) → option_map VarRange o ≡ None → o ≡ None
map_none None e = refl
map_none (Some v) e = cc

found_none : (p : ℕ → Bool) (v : ℕ) (vs : List ℕ) → find p (v ∷ vs) ≡ None → (p v ≡ false) × (find p vs ≡ None)
found_none p v vs e = ⊎_elim
    (λ (yes : p v ≡ true). let never : Some v ≡ None = sym (cond-true (p v) (Some v) (find p vs) yes) ∙ e in cc)
    (λ (no' : p v ≡ false). (no', sym (cond-false (p v) (Some v) (find p vs) no') ∙ e))
    (cases_Bool (p v))

none_above : (n : ℕ) (vs : List ℕ) → find (λ v. nat_lt n v) vs ≡ None → All (λ v. v ≤ n) vs
none_above n [] e = All-nil (λ v. v ≤ n)
none_above n (v ∷ vs) e =
    let parts = found_none (λ w. nat_lt n w) v vs e in
    All-cons (λ w. w ≤ n) v vs (ltb-false n v parts.0) (none_above n vs parts.1)

-- no variable that is written is above n
pub range_bounds : (n : ℕ) (vs : List ℕ) → range_fault n vs ≡ None → All (λ v. v ≤ n) vs
range_bounds n vs e = none_above n vs (map_none (find (λ v. nat_lt n v) vs) e)

pub all_prefix : {X : Type 0} (P : X → Type 0) (xs ys : List X) → All P (xs ++ ys) → All P xs
all_prefix P [] ys all = All-nil P
all_prefix P (x ∷ xs) ys all = All-cons P x xs (All-head P x (xs ++ ys) all) (all_prefix P xs ys (All-tail P x (xs ++ ys) all))

pub all_suffix : {X : Type 0} (P : X → Type 0) (xs ys : List X) → All P (xs ++ ys) → All P ys
all_suffix P [] ys all = all
all_suffix P (x ∷ xs) ys all = all_suffix P xs ys (All-tail P x (xs ++ ys) all)

-- terms from 1 on whose variables are at most n
pub terms_within : (n : ℕ) (terms : List (Literal × ℕ)) → All (λ t. 0 < t.0.var) terms → All (λ v. v ≤ n) (term_variables terms) → AreWithin n terms
terms_within n [] from_one upto = All-nil (λ t. (0 < t.0.var) × (t.0.var ≤ n))
terms_within n (t ∷ terms) from_one upto = All-cons (λ u. (0 < u.0.var) × (u.0.var ≤ n)) t terms
    (All-head (λ u. 0 < u.0.var) t terms from_one, All-head (λ v. v ≤ n) t.0.var (term_variables terms) upto)
    (terms_within n terms (All-tail (λ u. 0 < u.0.var) t terms from_one) (All-tail (λ v. v ≤ n) t.0.var (term_variables terms) upto))

pub first_fault_none : (first second : Option Why) → first_fault first second ≡ None → (first ≡ None) × (second ≡ None)
first_fault_none None second e = (refl, e)
first_fault_none (Some why) second e = cc

-- what a legal definition keeps
pub record DefinesNext (s : StateValue) (var : ℕ) (sum : ConstraintValue) : Type 0 where
  pub fresh : var ≡ s.vars + 1
  pub range : All (λ v. v ≤ s.vars) (term_variables sum.terms)
  pub upper : size_fault (size (reached_if var sum)) ≡ None
  pub lower : size_fault (size (reached_only_if var sum)) ≡ None

pub def_parts : (s : StateValue) (var : ℕ) (sum : ConstraintValue) → def_fault s var sum ≡ None → DefinesNext s var sum
def_parts s var sum e =
    let sizes = first_fault (size_fault (size (reached_if var sum))) (size_fault (size (reached_only_if var sum))) in
    let one = first_fault_none (fault_unless (var == s.vars + 1) (NotFresh var)) (first_fault (range_fault s.vars (term_variables sum.terms)) sizes) e in
    let two = first_fault_none (range_fault s.vars (term_variables sum.terms)) sizes one.1 in
    let three = first_fault_none (size_fault (size (reached_if var sum))) (size_fault (size (reached_only_if var sum))) two.1 in
    record {
      fresh = eqb-true var (s.vars + 1) (unless_none (var == s.vars + 1) (NotFresh var) one.0);
      range = range_bounds s.vars (term_variables sum.terms) two.0;
      upper = three.0;
      lower = three.1;
    }

pub terms_upto : (n : ℕ) (terms : List (Literal × ℕ)) → All (λ v. v ≤ n) (term_variables terms) → All (λ t. t.0.var ≤ n) terms
terms_upto n [] upto = All-nil (λ t. t.0.var ≤ n)
terms_upto n (t ∷ terms) upto = All-cons (λ u. u.0.var ≤ n) t terms (All-head (λ v. v ≤ n) t.0.var (term_variables terms) upto) (terms_upto n terms (All-tail (λ v. v ≤ n) t.0.var (term_variables terms) upto))

pub literals_upto : (n : ℕ) (lits : List Literal) → All (λ v. v ≤ n) (map (λ l. l.var) lits) → All (λ l. l.var ≤ n) lits
literals_upto n [] upto = All-nil (λ l. l.var ≤ n)
literals_upto n (l ∷ lits) upto = All-cons (λ k. k.var ≤ n) l lits (All-head (λ v. v ≤ n) l.var (map (λ k. k.var) lits) upto) (literals_upto n lits (All-tail (λ v. v ≤ n) l.var (map (λ k. k.var) lits) upto))
