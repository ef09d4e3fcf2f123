-- Live lines, after one was put or removed.
use Rattle.std.proofs.Common.{◌≡◌, ℕ, ◌+◌, Bool, true, false, cond, Option, Some, None, List, [], ◌∷◌, subst, sym, ◌∙◌}
use Rattle.std.specs.List.{Contains}
use Rattle.std.specs.Ordering.{nat_cmp, eq_by_cmp}
use Rattle.std.specs.Cmp.{nat_cmp_total}
use Rattle.std.specs.FinMap.{get, insert, remove, get-insert, get-remove, get-empty}
use Rattle.pb_lin.specs.Constraint.{ConstraintValue}
use Rattle.pb_lin.specs.LineMap.{LineMap, lines_of}
use Rattle.scut_base.proofs.Lists.{Contains-head, Contains-cons}
use Rattle.proof_laws.specs.State.{numbered}

put_cases : (P : ConstraintValue → Type 0) (b : Bool) (c d : ConstraintValue) (old : Option ConstraintValue) → P c → (old ≡ Some d → P d) → cond b (Some c) old ≡ Some d → P d
put_cases P true c d old new kept is = let same : c ≡ d = cc in subst P same new
put_cases P false c d old new kept is = kept is

removed_cases : (b : Bool) (d : ConstraintValue) (old : Option ConstraintValue) → cond b None old ≡ Some d → old ≡ Some d
removed_cases true d old is = cc
removed_cases false d old is = is

-- what holds of the lines and of the new one holds of all
pub live_insert : (P : ConstraintValue → Type 0) (lines : LineMap) (id : ℕ) (c : ConstraintValue) → P c → ((i : ℕ) (d : ConstraintValue) → get lines i ≡ Some d → P d) → (i : ℕ) (d : ConstraintValue) → get (insert lines id c) i ≡ Some d → P d
live_insert P lines id c new kept i d is = put_cases P (eq_by_cmp nat_cmp i id) c d (get lines i) new (kept i d) (sym (get-insert nat_cmp_total lines id c i) ∙ is)

-- a line that is left was there
pub live_remove : (lines : LineMap) (id i : ℕ) (d : ConstraintValue) → get (remove lines id) i ≡ Some d → get lines i ≡ Some d
live_remove lines id i d is = removed_cases (eq_by_cmp nat_cmp i id) d (get lines i) (sym (get-remove nat_cmp_total lines id i) ∙ is)

none_not_some : (c : ConstraintValue) (old : Option ConstraintValue) → old ≡ None → old ≡ Some c → ⊥
none_not_some c old none some = cc

-- the lines of numbered rows are those rows
pub live_numbered : (n : ℕ) (cs : List ConstraintValue) (id : ℕ) (c : ConstraintValue) → get (lines_of (numbered n cs)) id ≡ Some c → Contains cs c
unfolding lines_of
live_numbered n [] id c is = absurd (none_not_some c _ (get-empty nat_cmp id) is)
live_numbered n (d ∷ cs) id c is = live_insert (λ e. Contains (d ∷ cs) e) (lines_of (numbered (n + 1) cs)) n d (Contains-head d cs) (λ i e found. Contains-cons d e cs (live_numbered (n + 1) cs i e found)) id c is
