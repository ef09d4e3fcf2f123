-- Entries by ids as a finite map.
use Rattle.std.specs.Prelude.{◌≡◌, ◌≢◌, ℕ, ◌+◌, false, cond, List, [], ◌∷◌, Option, Some, None, IsSome, MatchOption, nat_eq, length, is_some, refl}
use Rattle.std.proofs.Common.{sym, ◌∙◌, ap, arith, inl, inr}
use Rattle.std.proofs.lemmas.Bool.{cases_eq, eq-eqb, ne_eqb}
use Rattle.std.specs.Ordering.{nat_cmp, eq_by_cmp}
use Rattle.std.specs.Cmp.{nat_cmp_total, unsigned_tied}
use Rattle.std.proofs.lemmas.Cmp.{eq_by_cmp_equiv}
use Rattle.std.specs.List.{AllByRecursion, IsDistinct}
use Rattle.std.specs.Map.{lookup, keys_of}
use Rattle.std.specs.FinMap.{get, find, insert, remove, empty, get-insert, get-remove, get-from_entries, same_map, nat_cmp-IsAntisymmetric, len, len-empty, len-insert}
use Rattle.pb_lin.specs.Constraint.{ConstraintValue}
use Rattle.pb_lin.specs.LineMap.{lines_of, NoneAbove, IsNextAbove}

find_is_lookup : (q : ℕ) (es : List (ℕ × ConstraintValue)) → find nat_cmp q es ≡ lookup (nat_eq q) es
find_is_lookup q [] = refl
find_is_lookup q (e ∷ es) = ap (λ t. cond t (Some e.1) (find nat_cmp q es)) (unsigned_tied q e.0) ∙ ap (cond (nat_eq q e.0) (Some e.1)) (find_is_lookup q es)

-- what the map holds at an id
pub get_line : (es : List (ℕ × ConstraintValue)) (q : ℕ) → get (lines_of es) q ≡ lookup (nat_eq q) es
unfolding lines_of
get_line es q = get-from_entries nat_cmp_total es q ∙ find_is_lookup q es

pub no_lines : lines_of [] ≡ empty
unfolding lines_of
no_lines = refl

turned : (q id : ℕ) → eq_by_cmp nat_cmp q id ≡ nat_eq id q
turned q id = (eq_by_cmp_equiv nat_cmp_total).symm q id ∙ unsigned_tied id q

updated : (es fs : List (ℕ × ConstraintValue)) (id q : ℕ) (held : Option ConstraintValue) → lookup (nat_eq id) fs ≡ held → ((k : ℕ) → k ≢ id → lookup (nat_eq k) fs ≡ lookup (nat_eq k) es) → lookup (nat_eq q) fs ≡ cond (nat_eq id q) held (lookup (nat_eq q) es)
updated es fs id q held found others = elim (cases_eq q id) [
  | inl same ↦ ap (λ k. lookup (nat_eq k) fs) same ∙ found ∙ sym (ap (λ t. cond t held (lookup (nat_eq q) es)) (eq-eqb id q (sym same)))
  | inr differs ↦ others q differs ∙ sym (ap (λ t. cond t held (lookup (nat_eq q) es)) (ne_eqb id q (λ e. differs (sym e))))
]

-- entries that give an id this constraint, and each other id what it had
pub lines_put : (es fs : List (ℕ × ConstraintValue)) (id : ℕ) (c : ConstraintValue) → lookup (nat_eq id) fs ≡ Some c → ((q : ℕ) → q ≢ id → lookup (nat_eq q) fs ≡ lookup (nat_eq q) es) → lines_of fs ≡ insert (lines_of es) id c
lines_put es fs id c found others =
    same_map nat_cmp_total nat_cmp-IsAntisymmetric _ _ (λ q.
    get_line fs q ∙ updated es fs id q (Some c) found others ∙ ap (λ t. cond t (Some c) (lookup (nat_eq q) es)) (sym (turned q id)) ∙ ap (cond (eq_by_cmp nat_cmp q id) (Some c)) (sym (get_line es q))
    ∙ sym (get-insert nat_cmp_total (lines_of es) id c q))

-- entries without an id, that give each other id what it had
pub lines_removed : (es fs : List (ℕ × ConstraintValue)) (id : ℕ) → lookup (nat_eq id) fs ≡ None → ((q : ℕ) → q ≢ id → lookup (nat_eq q) fs ≡ lookup (nat_eq q) es) → lines_of fs ≡ remove (lines_of es) id
lines_removed es fs id gone others =
    same_map nat_cmp_total nat_cmp-IsAntisymmetric _ _ (λ q.
    get_line fs q ∙ updated es fs id q None gone others ∙ ap (λ t. cond t None (lookup (nat_eq q) es)) (sym (turned q id)) ∙ ap (cond (eq_by_cmp nat_cmp q id) None) (sym (get_line es q))
    ∙ sym (get-remove nat_cmp_total (lines_of es) id q))

-- ---- how many entries

below_none : (x : ℕ) (es : List (ℕ × ConstraintValue)) → AllByRecursion (λ y. nat_eq x y ≡ false) (keys_of es) → lookup (nat_eq x) es ≡ None
below_none x [] apart = refl
below_none x (e ∷ es) apart = ap (λ t. cond t (Some e.1) (lookup (nat_eq x) es)) apart.0 ∙ below_none x es apart.1

-- entries of distinct ids are as many as the map has
pub len_lines : (es : List (ℕ × ConstraintValue)) → IsDistinct nat_eq (keys_of es) → len (lines_of es) ≡ length es
unfolding lines_of IsDistinct
len_lines [] distinct = len-empty nat_cmp ConstraintValue
len_lines (e ∷ es) distinct =
    let fresh : is_some (get (lines_of es) e.0) ≡ false = ap is_some (get_line es e.0 ∙ below_none e.0 es distinct.0) in
    len-insert nat_cmp_total (lines_of es) e.0 e.1 ∙ ap (λ b. cond b (len (lines_of es)) (len (lines_of es) + 1)) fresh
    ∙ ap (λ n. n + 1) (len_lines es distinct.1) ∙ omega arith

-- ---- the next id, as the map sees it

pub next_by : {X Y : Type 0} (o : Option ℕ) (held : ℕ → Option X) (held' : ℕ → Option Y) (id : ℕ) → ((k : ℕ) → held k ≡ None → held' k ≡ None) → ((k : ℕ) → IsSome (held k) → IsSome (held' k)) → MatchOption o (NoneAbove held id) (IsNextAbove held id) → MatchOption o (NoneAbove held' id) (IsNextAbove held' id)
next_by None held held' id none some above = λ k more. none k (above k more)
next_by (Some next) held held' id none some is = record {
  above = is.above;
  live = some next is.live;
  least = λ k more less. none k (is.least k more less);
}
