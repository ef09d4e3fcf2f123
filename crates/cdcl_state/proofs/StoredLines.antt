-- Lines that are stored and dropped again.
use Rattle.std.proofs.Common.{◌≡◌, ◌≢◌, ℕ, Bool, true, cond, false, Option, Some, None, refl, sym, ap, ◌∙◌, subst, ⊎_elim}
use Rattle.std.specs.Option.{IsSome}
use Rattle.std.specs.Ordering.{nat_cmp, eq_by_cmp}
use Rattle.std.specs.Cmp.{nat_cmp_total, unsigned_tied}
use Rattle.std.specs.FinMap.{get, insert, remove, get-insert, get-remove, same_map, nat_cmp-IsAntisymmetric}
use Rattle.std.proofs.lemmas.Bool.{eqb-true, cases_eq}
use Rattle.std.proofs.lemmas.Option.{same_Some}
use Rattle.pb_lin.specs.Constraint.{ConstraintValue, UpTo}
use Rattle.pb_lin.specs.LineMap.{LineMap, LinesUpTo}
use Rattle.cdcl_trail.proofs.Stores.{get_new, get_other}

taken_again : (b : Bool) (x o : Option ConstraintValue) → (b ≡ true → o ≡ None) → cond b None (cond b x o) ≡ o
taken_again true x o none = sym (none refl)
taken_again false x o none = refl

-- to store a line under an id that is free, and drop it, changes nothing
pub remove_inserted : (m : LineMap) (id : ℕ) (c : ConstraintValue) → get m id ≡ None → remove (insert m id c) id ≡ m
remove_inserted m id c free = same_map nat_cmp_total nat_cmp-IsAntisymmetric (remove (insert m id c) id) m (λ q.
    get-remove nat_cmp_total (insert m id c) id q
    ∙ ap (cond (eq_by_cmp nat_cmp q id) None) (get-insert nat_cmp_total m id c q)
    ∙ taken_again (eq_by_cmp nat_cmp q id) (Some c) (get m q) (λ e. ap (get m) (eqb-true q id (sym (unsigned_tied q id) ∙ e)) ∙ free))

pub some_of : {X : Type 0} (o : Option X) (x : X) → o ≡ Some x → IsSome o
some_of None x e = cc
some_of (Some y) x e = refl

-- the lines with one more are over the same variables
pub lines_up_to_more : (n : ℕ) (old new : LineMap) (id : ℕ) (c : ConstraintValue) → new ≡ insert old id c → LinesUpTo n old → UpTo n c → LinesUpTo n new
lines_up_to_more n old new id c is lines more q d there = ⊎_elim
    (λ (same : q ≡ id). subst (UpTo n) (same_Some c d (sym (get_new old id c) ∙ ap (λ (k : ℕ). get (insert old id c) k) (sym same) ∙ ap (λ (m : LineMap). get m q) (sym is) ∙ there)) more)
    (λ (other : q ≢ id). lines q d (sym (get_other old id q c other) ∙ ap (λ (m : LineMap). get m q) (sym is) ∙ there))
    (cases_eq q id)
