-- Lines that are put under ids, and taken away.
use Rattle.std.proofs.Common.{◌≡◌, ◌≢◌, ℕ, ◌+◌, ◌<◌, Bool, true, false, cond, Option, Some, None, List, [], ◌∷◌, ◌++◌, length, take, get_or, refl, arith, sym, ap, ◌∙◌}
use Rattle.std.specs.Ordering.{nat_cmp, eq_by_cmp}
use Rattle.std.specs.Cmp.{nat_cmp_total, unsigned_tied}
use Rattle.std.specs.FinMap.{get, insert, remove, empty, get-insert, get-remove, same_map, nat_cmp-IsAntisymmetric}
use Rattle.std.proofs.lemmas.Bool.{eqb-true}
use Rattle.std.proofs.lemmas.List.{take_more, length-take-le}
use Rattle.pb_lin.specs.Constraint.{ConstraintValue}
use Rattle.pb_lin.specs.LineMap.{LineMap, lines_of}
use Rattle.proof_laws.specs.State.{StateValue, IsState, numbered}

-- ids that tie are equal
same_id : (i j : ℕ) → eq_by_cmp nat_cmp i j ≡ true → i ≡ j
same_id i j e = eqb-true i j (sym (unsigned_tied i j) ∙ e)

two_tests : (a b : Bool) (x y o : Option ConstraintValue) → (a ≡ true → b ≡ true → ⊥) → cond a x (cond b y o) ≡ cond b y (cond a x o)
two_tests true true x y o never = absurd (never refl refl)
two_tests true false x y o never = refl
two_tests false true x y o never = refl
two_tests false false x y o never = refl

-- lines under two ids may be put in either order
insert_swap : (m : LineMap) (i j : ℕ) (c d : ConstraintValue) → i ≢ j → insert (insert m i c) j d ≡ insert (insert m j d) i c
insert_swap m i j c d apart = same_map nat_cmp_total nat_cmp-IsAntisymmetric (insert (insert m i c) j d) (insert (insert m j d) i c) (λ q.
    get-insert nat_cmp_total (insert m i c) j d q
    ∙ ap (cond (eq_by_cmp nat_cmp q j) (Some d)) (get-insert nat_cmp_total m i c q)
    ∙ two_tests (eq_by_cmp nat_cmp q j) (eq_by_cmp nat_cmp q i) (Some d) (Some c) (get m q) (λ a b. apart (sym (same_id q i b) ∙ same_id q j a))
    ∙ ap (cond (eq_by_cmp nat_cmp q i) (Some c)) (sym (get-insert nat_cmp_total m j d q))
    ∙ sym (get-insert nat_cmp_total (insert m j d) i c q))

-- one more of the numbered lines
pub insert_last : (n : ℕ) (cs : List ConstraintValue) (c : ConstraintValue) → insert (lines_of (numbered n cs)) (n + length cs) c ≡ lines_of (numbered n (cs ++ c ∷ []))
unfolding lines_of
insert_last n [] c = ap (λ (k : ℕ). insert {R = nat_cmp} empty k c) (let e : n + 0 ≡ n = omega arith in e)
insert_last n (d ∷ cs) c =
    insert_swap (lines_of (numbered (n + 1) cs)) n (n + length (d ∷ cs)) d c (λ e. omega arith)
    ∙ ap (λ (k : ℕ). insert (insert (lines_of (numbered (n + 1) cs)) k c) n d) (let e : n + length (d ∷ cs) ≡ (n + 1) + length cs = omega arith in e)
    ∙ ap (λ (m : LineMap). insert m n d) (insert_last (n + 1) cs c)

-- the next row, put under its number
pub put_next : (rows : List ConstraintValue) (i : ℕ) (c : ConstraintValue) → i < length rows → c ≡ get_or rows i c → insert (lines_of (numbered 1 (take i rows))) (i + 1) c ≡ lines_of (numbered 1 (take (i + 1) rows))
put_next rows i c less is =
    ap (λ (k : ℕ). insert (lines_of (numbered 1 (take i rows))) k c) (let long = length-take-le i rows (omega arith) in let e : i + 1 ≡ 1 + length (take i rows) = omega arith in e)
    ∙ insert_last 1 (take i rows) c
    ∙ ap (λ (cs : List ConstraintValue). lines_of (numbered 1 cs)) (ap (λ (d : ConstraintValue). take i rows ++ d ∷ []) is ∙ sym (take_more rows i c less))

taken_again : (b : Bool) (x o : Option ConstraintValue) → (b ≡ true → o ≡ None) → cond b None (cond b x o) ≡ o
taken_again true x o none = sym (none refl)
taken_again false x o none = refl

-- to put a line under an id that is free, and take it away, changes nothing
pub remove_inserted : (m : LineMap) (id : ℕ) (c : ConstraintValue) → get m id ≡ None → remove (insert m id c) id ≡ m
remove_inserted m id c free = same_map nat_cmp_total nat_cmp-IsAntisymmetric (remove (insert m id c) id) m (λ q.
    get-remove nat_cmp_total (insert m id c) id q
    ∙ ap (cond (eq_by_cmp nat_cmp q id) None) (get-insert nat_cmp_total m id c q)
    ∙ taken_again (eq_by_cmp nat_cmp q id) (Some c) (get m q) (λ e. ap (get m) (same_id q id e) ∙ free))

-- what never is some is none
pub none_where_never : (o : Option ConstraintValue) → ((c : ConstraintValue) → o ≡ Some c → ⊥) → o ≡ None
none_where_never None never = refl
none_where_never (Some c) never = absurd (never c refl)

-- the next id is free
pub next_is_free : (s : StateValue) → IsState s → get s.live s.next_id ≡ None
next_is_free s state = none_where_never (get s.live s.next_id) (λ c is. let below = state.ids s.next_id c is in omega arith)
