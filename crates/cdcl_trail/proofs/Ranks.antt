-- What raises the rank of a trail, and what bounds it.
use Rattle.std.proofs.Common.{◌≡◌, ℕ, suc, ◌+◌, ◌*◌, ◌-◌, ◌^◌, ◌<◌, ◌≤◌, List, ◌++◌, length, take, drop, get_or, All, sum_by, refl, arith, ap, sym, ◌∙◌, subst}
use Rattle.std.proofs.Math.Nat.{pow-suc, one-le-pow, pow-le-pow_right, mul-le-mul_right}
use Rattle.std.proofs.lemmas.List.{length-drop, get_or-drop}
use Rattle.std.proofs.lemmas.List.Sums.{sum_by_push, sum_by-append, sum_by-take-drop, sum_by-le}
use Rattle.std.proofs.lemmas.Option.{slice_get_within, slice_get-get_or}
use Rattle.scut_base.specs.Literal.{Literal}
use Rattle.pb_lin.specs.LineMap.{LineMap}
use Rattle.clause_prop.specs.Steps.{TrailValue, with_step, cut}
use Rattle.clause_prop.specs.Propagating.{Extends}
use Rattle.clause_prop.specs.declared.step.Step.{Step}
use Rattle.cdcl_trail.specs.SearchTrail.{IsSearchTrail, IsUpTo}
use Rattle.cdcl_trail.specs.Learning.{IsAsserting, asserted}
use Rattle.cdcl_trail.specs.Rank.{weight, rank, rank_limit, rest}
use Rattle.cdcl_trail.proofs.Counts.{length_within}

weight_positive : (n : ℕ) (s : Step) → 0 < weight n s
weight_positive n s = let some : 0 < n + 1 = omega arith in let h = one-le-pow (n - s.level) (n + 1) some in omega (arith, h)

-- ---- steps

pub push_raises : (t : TrailValue) (s : Step) → rank t < rank (with_step t s)
unfolding rank
push_raises t s =
    let more = sum_by_push (weight t.vars) t.steps s in
    let some = weight_positive t.vars s in
    omega (arith, more, some)

pub propagation_raises : (store : LineMap) (old new : TrailValue) → Extends store old new → rank old ≤ rank new
unfolding rank
propagation_raises store old new more =
    let sums = sum_by-append (weight old.vars) old.steps more.more in
    let is : sum_by (weight new.vars) new.steps ≡ sum_by (weight old.vars) (old.steps ++ more.more) =
    ap (λ (n : ℕ). sum_by (weight n) new.steps) more.vars ∙ ap (sum_by (weight old.vars)) more.is in
    omega (arith, sums, is)

-- ---- what bounds them

-- steps of which none weighs more than m digits
lighter : (n m : ℕ) (steps : List Step) → All (λ s. n - s.level ≤ m) steps → length steps ≤ n → sum_by (weight n) steps < (n + 1) ^ m * (n + 1)
lighter n m steps each few =
    let some : 0 < n + 1 = omega arith in
    let p : ℕ = (n + 1) ^ m in
    let one : 1 ≤ p = one-le-pow m (n + 1) some in
    let sum : sum_by (weight n) steps ≤ length steps * p = sum_by-le (weight n) p steps (λ k d within. pow-le-pow_right some (each k d within)) in
    let most : length steps * p ≤ n * p = mul-le-mul_right p few in
    omega arith

weight_more : (n level : ℕ) → level < n → (n + 1) ^ (n - level) ≡ (n + 1) ^ (n - (level + 1)) * (n + 1)
weight_more n level below =
    let e : n - level ≡ suc (n - (level + 1)) = omega arith in
    ap (λ (k : ℕ). (n + 1) ^ k) e ∙ pow-suc (n + 1) (n - (level + 1))

-- few steps of higher levels weigh less than one of the level
above_lighter : (n level : ℕ) (steps : List Step) → level < n → length steps ≤ n → All (λ s. level < s.level) steps → sum_by (weight n) steps < (n + 1) ^ (n - level)
above_lighter n level steps below few above =
    subst (λ (w : ℕ). sum_by (weight n) steps < w) (sym (weight_more n level below))
    (lighter n (n - (level + 1)) steps (λ k d within. let h = above k d within in omega (arith, h)) few)

pub rank_bound : (t : TrailValue) → length t.steps ≤ t.vars → rank t < rank_limit t.vars
unfolding rank
rank_bound t few =
    let e : t.vars + 1 ≡ suc t.vars = omega arith in
    subst (λ (w : ℕ). sum_by (weight t.vars) t.steps < w) (sym (ap (λ (k : ℕ). (t.vars + 1) ^ k) e ∙ pow-suc (t.vars + 1) t.vars))
    (lighter t.vars t.vars t.steps (λ k d within. omega arith) few)

-- ---- a jump back

-- what the jump takes away is above the level
high_part : (t : TrailValue) (level keep : ℕ) → IsUpTo t level keep → All (λ s. level < s.level) (drop keep t.steps)
high_part t level keep up_to k d within =
    let inside : keep + k < length t.steps = omega (arith, within, length-drop keep t.steps) in
    subst (λ (s : Step). level < s.level) (sym (get_or-drop keep t.steps k d)) (up_to.high (keep + k) (get_or t.steps (keep + k) d) (omega arith) (slice_get-get_or t.steps (keep + k) d inside))

jump_raises : (t : TrailValue) (level keep : ℕ) (s : Step) → s.level ≡ level → level < t.vars → length t.steps ≤ t.vars → IsUpTo t level keep → rank t < rank (with_step (cut t keep) s)
unfolding rank
jump_raises t level keep s own below few up_to =
    let whole = sum_by-take-drop (weight t.vars) t.steps keep in
    let push = sum_by_push (weight t.vars) (take keep t.steps) s in
    let part : length (drop keep t.steps) ≤ t.vars = omega (arith, few, length-drop keep t.steps) in
    let light : sum_by (weight t.vars) (drop keep t.steps) < (t.vars + 1) ^ (t.vars - level) = above_lighter t.vars level (drop keep t.steps) below part (high_part t level keep up_to) in
    let is : weight t.vars s ≡ (t.vars + 1) ^ (t.vars - level) = ap (λ (k : ℕ). (t.vars + 1) ^ (t.vars - k)) own in
    omega (arith, whole, push, light, is)

pub learning_raises : (store : LineMap) (t : TrailValue) (top level keep id : ℕ) (lits : List Literal) (l : Literal) → IsSearchTrail store t → IsAsserting t top level lits l → IsUpTo t level keep → rank t < rank (with_step (cut t keep) (asserted l level id))
learning_raises store t top level keep id lits l search asserting up_to =
    let f = asserting.at_top in
    let few : length t.steps ≤ t.vars = length_within t.vars t.steps search.steps in
    let within : f.place < length t.steps = slice_get_within t.steps f.place f.step f.there in
    let low = search.low f.place f.step f.there in
    jump_raises t level keep (asserted l level id) refl (omega (arith, few, within, low, f.has, asserting.below)) few up_to

-- ---- what is left to do

-- r is the limit, and a, b are ranks below it
left_less : (left r a b : ℕ) → a < b → b < r → left * (r + 1) + (r - b) < left * (r + 1) + (r - a)
left_less left r a b more bound = let m : ℕ = left * (r + 1) in omega (arith, more, bound)

pub higher_law : (store : LineMap) (left : ℕ) (old new : TrailValue) → IsSearchTrail store new → new.vars ≡ old.vars → rank old < rank new → rest left new < rest left old
unfolding rest
higher_law store left old new search vars more =
    let bound : rank new < rank_limit new.vars = rank_bound new (length_within new.vars new.steps search.steps) in
    subst (λ (n : ℕ). left * (rank_limit new.vars + 1) + (rank_limit new.vars - rank new) < left * (rank_limit n + 1) + (rank_limit n - rank old)) vars
    (left_less left (rank_limit new.vars) (rank old) (rank new) more bound)

one_less : (left r a b : ℕ) → left * (r + 1) + (r - b) < (left + 1) * (r + 1) + (r - a)
one_less left r a b =
    let m : ℕ = left * (r + 1) in
    let split : (left + 1) * (r + 1) ≡ left * (r + 1) + (r + 1) = omega arith in
    omega (arith, split)

pub restarted_law : (left : ℕ) (old new : TrailValue) → new.vars ≡ old.vars → rest left new < rest (left + 1) old
unfolding rest
restarted_law left old new vars =
    subst (λ (n : ℕ). left * (rank_limit new.vars + 1) + (rank_limit new.vars - rank new) < (left + 1) * (rank_limit n + 1) + (rank_limit n - rank old)) vars
    (one_less left (rank_limit new.vars) (rank old) (rank new))
