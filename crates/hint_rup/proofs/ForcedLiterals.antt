-- Literals that one constraint forces, one after another.
use Rattle.std.specs.Prelude.{◌≡◌, ◌≢◌, ℕ, ◌+◌, ◌-◌, ◌<◌, ◌≤◌, Bool, true, false, cond, not, ◌&&◌, if◌then◌else◌, Option, Some, None, List, [], ◌∷◌, length, fold, All, pos, int_lt, refl}
use Rattle.std.proofs.Common.{sym, ◌∙◌, ap, subst, get_or, take, take_all, arith}
use Rattle.std.specs.Option.{is_none, option_map}
use Rattle.std.specs.List.{filter}
use Rattle.std.proofs.lemmas.List.{get_or-take, get_or_default, get_or-map, length-map, length-take-le, get_or-set_other}
use Rattle.std.proofs.lemmas.List.Elements.{filter_more, All-filter, All-head, All-tail}
use Rattle.std.proofs.lemmas.Int.{ints}
use Rattle.std.proofs.lemmas.List.Sums.{fold-append}
use Rattle.scut_base.specs.Literal.{Literal}
use Rattle.scut_base.specs.Assignment.{partial_truth}
use Rattle.pb_lin.specs.Constraint.{ConstraintValue, AreOnes, IsMerged, literals, slack}
use Rattle.pb_lin.specs.Propagation.{is_forced}
use Rattle.hint_rup.specs.Propagation.{with_true, forced}

-- the partial assignment with the literals of these terms true
abbrev pub with_all : List (Option Bool) → List (Literal × ℕ) → List (Option Bool)
with_all p terms = fold (λ q t. with_true q t.0) p terms

-- the same with those of the first terms that a constraint forces
abbrev pub forced_of_first : List (Option Bool) → ConstraintValue → ℕ → List (Option Bool)
forced_of_first p c i = with_all p (filter (is_forced p c) (take i c.terms))

-- a term of another variable than the given one
abbrev IsApart : ℕ → Literal × ℕ → Type 0
IsApart var t = (0 < t.0.var) × (t.0.var ≢ var)

truth_kept_one : (p : List (Option Bool)) (l m : Literal) → 0 < l.var → 0 < m.var → m.var ≢ l.var → partial_truth (with_true p m) l ≡ partial_truth p l
truth_kept_one p l m at_one from_one apart =
    let other : l.var - 1 ≢ m.var - 1 = λ same. apart (omega arith) in
    ap (λ o. option_map (λ b. if l.neg then not b else b) o) (get_or-set_other p (m.var - 1) (l.var - 1) (Some (not m.neg)) None other)

truth_kept : (p : List (Option Bool)) (l : Literal) (terms : List (Literal × ℕ)) → 0 < l.var → All (IsApart l.var) terms → partial_truth (with_all p terms) l ≡ partial_truth p l
truth_kept p l [] at_one apart = refl
truth_kept p l (t ∷ terms) at_one apart =
    let first : IsApart l.var t = All-head (IsApart l.var) t terms apart in
    truth_kept (with_true p t.0) l terms at_one (All-tail (IsApart l.var) t terms apart) ∙ truth_kept_one p l t.0 at_one first.0 first.1

-- the terms before one are of other variables
earlier_apart : (terms : List (Literal × ℕ)) (i : ℕ) (t : Literal × ℕ) → IsMerged terms → i < length terms → t ≡ get_or terms i t → All (IsApart t.0.var) (take i terms)
earlier_apart terms i t merged within is = λ k d below.
    let before : k < i = omega (arith, length-take-le i terms (omega arith)) in
    let rise : (get_or terms k t).0.var < (get_or terms i t).0.var = merged.rising k i t before within in
    let here : t.0.var ≡ (get_or terms i t).0.var = ap (λ (u : Literal × ℕ). u.0.var) is in
    let positive : 0 < (get_or terms k t).0.var = merged.from_one k t (omega arith) in
    let apart : IsApart t.0.var (get_or terms k t) = (positive, λ same. omega arith) in
    subst (IsApart t.0.var) (sym (get_or-take i terms k d before ∙ get_or_default terms k d t (omega arith))) apart

-- a test of a term is that of the definition
pub test_is : (p q : List (Option Bool)) (c : ConstraintValue) (i : ℕ) (t : Literal × ℕ) (s : ℕ) (b : Bool) → IsMerged c.terms → i < length c.terms → t ≡ get_or c.terms i t → q ≡ forced_of_first p c i → slack p c ≡ pos s
    → b ≡ (is_none (partial_truth q t.0) && int_lt (pos s) (pos t.1)) → b ≡ is_forced p c t
test_is p q c i t s b merged within is so_far slack_is test =
    let positive : 0 < t.0.var = subst (λ (u : Literal × ℕ). 0 < u.0.var) (sym is) (merged.from_one i t within) in
    let apart : All (IsApart t.0.var) (filter (is_forced p c) (take i c.terms)) = All-filter (is_forced p c) (IsApart t.0.var) (take i c.terms) (earlier_apart c.terms i t merged within is) in
    let kept : partial_truth q t.0 ≡ partial_truth p t.0 = ap (λ r. partial_truth r t.0) so_far ∙ truth_kept p t.0 (filter (is_forced p c) (take i c.terms)) positive apart in
    test ∙ ap (λ o. is_none o && int_lt (pos s) (pos t.1)) kept ∙ ap (λ z. is_none (partial_truth p t.0) && int_lt z (pos t.1)) (sym slack_is)

more_of : (p : List (Option Bool)) (c : ConstraintValue) (i : ℕ) (t : Literal × ℕ) → i < length c.terms → t ≡ get_or c.terms i t
    → forced_of_first p c (i + 1) ≡ with_all (forced_of_first p c i) (cond (is_forced p c t) (t ∷ []) [])
more_of p c i t within is =
    ap (with_all p) (filter_more (is_forced p c) c.terms i t within) ∙ fold-append (λ q u. with_true q u.0) p (filter (is_forced p c) (take i c.terms)) (cond (is_forced p c (get_or c.terms i t)) (get_or c.terms i t ∷ []) [])
    ∙ ap (λ u. with_all (forced_of_first p c i) (cond (is_forced p c u) (u ∷ []) [])) (sym is)

-- a term that is forced, and one that isn't
pub goes_on_set : (p q : List (Option Bool)) (c : ConstraintValue) (i : ℕ) (t : Literal × ℕ) → i < length c.terms → t ≡ get_or c.terms i t → q ≡ forced_of_first p c i → is_forced p c t ≡ true
    → with_true q t.0 ≡ forced_of_first p c (i + 1)
goes_on_set p q c i t within is so_far passes =
    ap (λ r. with_true r t.0) so_far ∙ ap (λ b. with_all (forced_of_first p c i) (cond b (t ∷ []) [])) (sym passes) ∙ sym (more_of p c i t within is)

pub goes_on_same : (p q : List (Option Bool)) (c : ConstraintValue) (i : ℕ) (t : Literal × ℕ) → i < length c.terms → t ≡ get_or c.terms i t → q ≡ forced_of_first p c i → is_forced p c t ≡ false
    → q ≡ forced_of_first p c (i + 1)
goes_on_same p q c i t within is so_far fails =
    so_far ∙ ap (λ b. with_all (forced_of_first p c i) (cond b (t ∷ []) [])) (sym fails) ∙ sym (more_of p c i t within is)

-- all terms
pub forced_by_all : (p q : List (Option Bool)) (c : ConstraintValue) (i : ℕ) → length c.terms ≤ i → q ≡ forced_of_first p c i → q ≡ forced p c
unfolding forced
forced_by_all p q c i past so_far = so_far ∙ ap (λ ts. with_all p (filter (is_forced p c) ts)) (take_all i c.terms past)

-- ---- constraints whose coefficients are all 1

-- the term of a literal that is read from the literals
pub literal_at : (terms : List (Literal × ℕ)) (lits : List Literal) (i : ℕ) (l : Literal) → lits ≡ literals terms → i < length lits → l ≡ get_or lits i l → (i < length terms) × (l ≡ (get_or terms i (l, 1)).0)
literal_at terms lits i l same short is =
    let long : length lits ≡ length terms = ap length same ∙ length-map terms (λ t. t.0) in
    let within : i < length terms = omega arith in
    (within, is ∙ ap (λ (ls : List Literal). get_or ls i l) same ∙ get_or-map (λ t. t.0) terms i (l, 1) l within)

-- a literal that is tested at the slack 0
pub test_at_zero : (p q : List (Option Bool)) (c : ConstraintValue) (i : ℕ) (t : Literal × ℕ) (b : Bool) → IsMerged c.terms → i < length c.terms → t ≡ get_or c.terms i t → q ≡ forced_of_first p c i → slack p c ≡ pos 0 → t.1 ≡ 1 → b ≡ is_none (partial_truth q t.0) → b ≡ is_forced p c t
test_at_zero p q c i t b merged within is so_far slack_is one test =
    test_is p q c i t 0 b merged within is so_far slack_is
    (test ∙ sym (with_true_test (is_none (partial_truth q t.0))) ∙ ap (λ (n : ℕ). is_none (partial_truth q t.0) && int_lt (pos 0) (pos n)) (sym one))
  where
    with_true_test : (x : Bool) → (x && int_lt (pos 0) (pos 1)) ≡ x
    with_true_test true = refl
    with_true_test false = refl

filter_none : {X : Type 0} (test : X → Bool) (xs : List X) → All (λ x. test x ≡ false) xs → filter test xs ≡ []
filter_none test [] fails = refl
filter_none {X} test (x ∷ xs) fails = ap (λ (b : Bool). cond b (x ∷ filter test xs) (filter test xs)) (All-head (λ y. test y ≡ false) x xs fails) ∙ filter_none test xs (All-tail (λ y. test y ≡ false) x xs fails)

-- above the slack 0 nothing is forced
pub forced_none : (p : List (Option Bool)) (c : ConstraintValue) (s : ℕ) → AreOnes c.terms → slack p c ≡ pos s → 0 < s → p ≡ forced p c
unfolding forced
forced_none p c s ones is above = sym (ap (with_all p) (filter_none (is_forced p c) c.terms (λ k d short.
    let t = get_or c.terms k d in
    ap (λ z. is_none (partial_truth p t.0) && int_lt z (pos t.1)) is ∙ ap (λ (n : ℕ). is_none (partial_truth p t.0) && int_lt (pos s) (pos n)) (ones k d short) ∙ none (is_none (partial_truth p t.0)))))
  where
    none : (x : Bool) → (x && int_lt (pos s) (pos 1)) ≡ false
    none x = grind (arith, ints)
