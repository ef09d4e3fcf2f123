-- Lines that are stored under ids that have none, and dropped.
use Rattle.std.proofs.Common.{◌≡◌, ℕ, Bool, true, false, cond, Option, Some, None, sym, ap, ◌∙◌, refl}
use Rattle.std.specs.Ordering.{nat_cmp, eq_by_cmp}
use Rattle.std.specs.Cmp.{nat_cmp_total, unsigned_tied}
use Rattle.std.specs.FinMap.{get, insert, remove, get-insert, get-remove, same_map, nat_cmp-IsAntisymmetric}
use Rattle.std.proofs.lemmas.Bool.{eqb-true, cond-true, eq-eqb}
use Rattle.pb_lin.specs.Constraint.{ConstraintValue, UpTo}
use Rattle.pb_lin.specs.LineMap.{LineMap, LinesUpTo}

-- an id ties with itself
tied : (id : ℕ) → eq_by_cmp nat_cmp id id ≡ true
tied id = unsigned_tied id id ∙ eq-eqb id id refl

taken_again : (b : Bool) (x o : Option ConstraintValue) → (b ≡ true → o ≡ None) → cond b None (cond b x o) ≡ o
taken_again true x o none = sym (none refl)
taken_again false x o none = refl

-- to put a line under an id that is free, and take it away, changes nothing
pub remove_inserted : (m : LineMap) (id : ℕ) (c : ConstraintValue) → get m id ≡ None → remove (insert m id c) id ≡ m
remove_inserted m id c free = same_map nat_cmp_total nat_cmp-IsAntisymmetric (remove (insert m id c) id) m (λ q.
    get-remove nat_cmp_total (insert m id c) id q
    ∙ ap (cond (eq_by_cmp nat_cmp q id) None) (get-insert nat_cmp_total m id c q)
    ∙ taken_again (eq_by_cmp nat_cmp q id) (Some c) (get m q) (λ e. ap (get m) (eqb-true q id (sym (unsigned_tied q id) ∙ e)) ∙ free))

-- a line that was put is there
pub get_inserted : (m : LineMap) (id : ℕ) (c : ConstraintValue) → get (insert m id c) id ≡ Some c
get_inserted m id c = get-insert nat_cmp_total m id c id ∙ cond-true (eq_by_cmp nat_cmp id id) (Some c) (get m id) (tied id)

-- an id whose line was dropped has none
pub get_removed : (m : LineMap) (id : ℕ) → get (remove m id) id ≡ None
get_removed m id = get-remove nat_cmp_total m id id ∙ cond-true (eq_by_cmp nat_cmp id id) None (get m id) (tied id)

left_by : (n : ℕ) (same : Bool) (d : ConstraintValue) (held : Option ConstraintValue) → ((e : ConstraintValue) → held ≡ Some e → UpTo n e) → cond same None held ≡ Some d → UpTo n d
left_by n true d held others is = cc
left_by n false d held others is = others d is

-- a line less
pub removed_within : (n : ℕ) (m : LineMap) (id : ℕ) → LinesUpTo n m → LinesUpTo n (remove m id)
removed_within n m id lines q d found = left_by n (eq_by_cmp nat_cmp q id) d (get m q) (lines q) (sym (get-remove nat_cmp_total m id q) ∙ found)
