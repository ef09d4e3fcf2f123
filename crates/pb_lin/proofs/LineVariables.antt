-- Lines without a variable above a bound, as lines are put and dropped.
use Rattle.std.specs.Prelude.{◌≡◌, ℕ, Bool, true, false, Option, Some, None}
use Rattle.std.proofs.Common.{cond, sym, ◌∙◌, ap, subst}
use Rattle.std.specs.Ordering.{nat_cmp, eq_by_cmp}
use Rattle.std.specs.Cmp.{nat_cmp_total}
use Rattle.std.specs.FinMap.{get, insert, empty, get-empty, get-insert}
use Rattle.pb_lin.specs.Constraint.{ConstraintValue, UpTo}
use Rattle.pb_lin.specs.LineMap.{LineMap, LinesUpTo}

pub none_within : (n : ℕ) (lines : LineMap) → lines ≡ empty → LinesUpTo n lines
none_within n lines is id c found =
    let none : get lines id ≡ None = ap (λ (m : LineMap). get m id) is ∙ get-empty {X = ConstraintValue} nat_cmp id in
    cc

put_by : (n : ℕ) (same : Bool) (c d : ConstraintValue) (held : Option ConstraintValue) → UpTo n c → ((e : ConstraintValue) → held ≡ Some e → UpTo n e) → cond same (Some c) held ≡ Some d → UpTo n d
put_by n true c d held first others is = let same : c ≡ d = cc in subst (UpTo n) same first
put_by n false c d held first others is = others d is

-- a line more
pub put_within : (n : ℕ) (before after : LineMap) (id : ℕ) (c : ConstraintValue) → after ≡ insert before id c → UpTo n c → LinesUpTo n before → LinesUpTo n after
put_within n before after id c is first others q d found =
    put_by n (eq_by_cmp nat_cmp q id) c d (get before q) first (others q) (sym (ap (λ (m : LineMap). get m q) is ∙ get-insert nat_cmp_total before id c q) ∙ found)
