-- Lines under more values, and what hints prove after a line that forces a literal.
use Rattle.std.specs.Prelude.{◌≡◌, ◌≢◌, ℕ, ◌+◌, ◌-◌, ◌<◌, ◌≤◌, Bool, true, false, cond, not, if◌then◌else◌, Option, Some, None, option_map, List, [], ◌∷◌, length, fold, sum_by, All, ℤ, pos, ◌<ℤ◌, int_lt, refl}
use Rattle.std.proofs.Common.{zero, suc, sym, ◌∙◌, ap, subst, inl, inr, get_or, arith}
use Rattle.std.specs.Option.{is_none}
use Rattle.std.specs.List.{filter, Contains}
use Rattle.std.proofs.lemmas.Int.{ints}
use Rattle.std.proofs.lemmas.Bool.{cases_eq, cases_lt, cases_order, cond-true, and_parts, and_from}
use Rattle.std.proofs.lemmas.List.{get_or-set_same, get_or-set_other, length-set, get_or_default, get_or_past}
use Rattle.std.proofs.lemmas.List.Elements.{All-head, All-tail, All-filter, All-weaker, filter_passes, Contains-append_right}
use Rattle.std.proofs.lemmas.List.Sums.{sum_by-cons}
use Rattle.scut_base.specs.Literal.{Literal}
use Rattle.scut_base.specs.Assignment.{partial_truth}
use Rattle.pb_lin.specs.Constraint.{ConstraintValue, IsMerged, unless_false, possible_value, slack}
use Rattle.pb_lin.specs.Propagation.{is_forced}
use Rattle.hint_rup.specs.Propagation.{with_true, forced, Conflicts}
use Rattle.hint_rup.proofs.Conflict.{conflicts_here, conflicts_later}
use Rattle.clause_prop.specs.Propagating.{Forces}

abbrev Values : Type 0
Values = List (Option Bool)

abbrev value_at : Values → ℕ → Option Bool
value_at p k = get_or p k None

-- what the one makes false of the line, the other makes false
abbrev pub KeepsFalse : Values → Values → ConstraintValue → Type 0
KeepsFalse old new c = All (λ t. partial_truth old t.0 ≡ Some false → partial_truth new t.0 ≡ Some false) c.terms

-- the same values and maybe more
pub record IsMoreThan (old new : Values) : Type 0 where
  pub kept : (k : ℕ) (b : Bool) → value_at old k ≡ Some b → value_at new k ≡ Some b
  pub as_long : length new ≡ length old

abbrev IsKept : List (Option Bool) → List (Option Bool) → Literal × ℕ → Type 0
IsKept old new t = partial_truth old t.0 ≡ Some false → partial_truth new t.0 ≡ Some false

less_one : (o n : Option Bool) (a : ℕ) → (o ≡ Some false → n ≡ Some false) → unless_false n a ≤ unless_false o a
less_one None None a kept = omega arith
less_one None (Some true) a kept = omega arith
less_one None (Some false) a kept = omega arith
less_one (Some true) None a kept = omega arith
less_one (Some true) (Some true) a kept = omega arith
less_one (Some true) (Some false) a kept = omega arith
less_one (Some false) n a kept = subst (λ (m : Option Bool). unless_false m a ≤ 0) (sym (kept refl)) (omega arith)

-- no more is possible
pub less : (old new : List (Option Bool)) (terms : List (Literal × ℕ)) → All (IsKept old new) terms → sum_by (possible_value new) terms ≤ sum_by (possible_value old) terms
less old new [] each = omega arith
less old new (t ∷ terms) each =
    let one : possible_value new t ≤ possible_value old t = less_one (partial_truth old t.0) (partial_truth new t.0) t.1 (All-head (IsKept old new) t terms each) in
    let rest : sum_by (possible_value new) terms ≤ sum_by (possible_value old) terms = less old new terms (All-tail (IsKept old new) t terms each) in
    omega (arith, sum_by-cons (possible_value new) t terms, sum_by-cons (possible_value old) t terms)

full : (o : Option Bool) (a : ℕ) → o ≢ Some false → unless_false o a ≡ a
full None a free = refl
full (Some true) a free = refl
full (Some false) a free = absurd (free refl)

-- a coefficient less is possible where one more literal is false
less_by : (old new : List (Option Bool)) (terms : List (Literal × ℕ)) (k : ℕ) (t : Literal × ℕ) → All (IsKept old new) terms → k < length terms → t ≡ get_or terms k t → partial_truth old t.0 ≢ Some false → partial_truth new t.0 ≡ Some false → sum_by (possible_value new) terms + t.1 ≤ sum_by (possible_value old) terms
less_by old new [] k t each within is free now = absurd (let h : k < 0 = within in omega arith)
less_by old new (u ∷ terms) zero t each within is free now =
    let rest : sum_by (possible_value new) terms ≤ sum_by (possible_value old) terms = less old new terms (All-tail (IsKept old new) u terms each) in
    let first : possible_value new u ≡ 0 = ap (λ (x : Literal × ℕ). possible_value new x) (sym is) ∙ ap (λ (o : Option Bool). unless_false o t.1) now in
    let worth : possible_value old u ≡ t.1 = ap (λ (x : Literal × ℕ). possible_value old x) (sym is) ∙ full (partial_truth old t.0) t.1 free in
    omega (arith, sum_by-cons (possible_value new) u terms, sum_by-cons (possible_value old) u terms)
less_by old new (u ∷ terms) (suc k) t each within is free now =
    let inside : k < length terms = omega arith in
    let one : possible_value new u ≤ possible_value old u = less_one (partial_truth old u.0) (partial_truth new u.0) u.1 (All-head (IsKept old new) u terms each) in
    let rest : sum_by (possible_value new) terms + t.1 ≤ sum_by (possible_value old) terms = less_by old new terms k t (All-tail (IsKept old new) u terms each) inside is free now in
    omega (arith, sum_by-cons (possible_value new) u terms, sum_by-cons (possible_value old) u terms)

pub closes_last : (old new : List (Option Bool)) (c : ConstraintValue) → slack old c <ℤ pos 0 → KeepsFalse old new c → Conflicts new (c ∷ [])
closes_last old new c violated kept =
    let h : sum_by (possible_value new) c.terms ≤ sum_by (possible_value old) c.terms = less old new c.terms kept in
    conflicts_here new c [] (omega (arith, ints))

-- a term that sets nothing else at this place
abbrev Agrees : ℕ → Bool → Literal × ℕ → Type 0
Agrees k b u = u.0.var - 1 ≡ k → not u.0.neg ≡ b

abbrev all_true : List (Option Bool) → List (Literal × ℕ) → List (Option Bool)
all_true p terms = fold (λ q t. with_true q t.0) p terms

length_all_true : (p : List (Option Bool)) (terms : List (Literal × ℕ)) → length (all_true p terms) ≡ length p
length_all_true p [] = refl
length_all_true p (t ∷ terms) = length_all_true (with_true p t.0) terms ∙ length-set p (t.0.var - 1) (Some (not t.0.neg))

-- a value that no term changes stays
stays : (k : ℕ) (b : Bool) (p : List (Option Bool)) (terms : List (Literal × ℕ)) → All (Agrees k b) terms → k < length p → value_at p k ≡ Some b → value_at (all_true p terms) k ≡ Some b
stays k b p [] each within is = is
stays k b p (t ∷ terms) each within is =
    stays k b (with_true p t.0) terms (All-tail (Agrees k b) t terms each) (omega (arith, length-set p (t.0.var - 1) (Some (not t.0.neg))))
    (elim (cases_eq k (t.0.var - 1)) [
      | inl here ↦ ap (λ (n : ℕ). value_at (with_true p t.0) n) here ∙ get_or-set_same p (t.0.var - 1) (Some (not t.0.neg)) None (omega arith) ∙ ap Some (All-head (Agrees k b) t terms each (sym here))
      | inr apart ↦ get_or-set_other p (t.0.var - 1) k (Some (not t.0.neg)) None apart ∙ is
    ])

-- a term's literal becomes true
becomes : (p : List (Option Bool)) (terms : List (Literal × ℕ)) (j : ℕ) (t : Literal × ℕ) → All (Agrees (t.0.var - 1) (not t.0.neg)) terms → t.0.var - 1 < length p → j < length terms → get_or terms j t ≡ t → value_at (all_true p terms) (t.0.var - 1) ≡ Some (not t.0.neg)
becomes p [] j t each within inside is = absurd (let h : j < 0 = inside in omega arith)
becomes p (u ∷ terms) zero t each within inside is =
    stays (t.0.var - 1) (not t.0.neg) (with_true p u.0) terms (All-tail (Agrees (t.0.var - 1) (not t.0.neg)) u terms each) (omega (arith, length-set p (u.0.var - 1) (Some (not u.0.neg))))
    (ap (λ (x : Literal × ℕ). value_at (with_true p x.0) (t.0.var - 1)) is ∙ get_or-set_same p (t.0.var - 1) (Some (not t.0.neg)) None within)
becomes p (u ∷ terms) (suc j) t each within inside is =
    let more : j < length terms = omega arith in
    becomes (with_true p u.0) terms j t (All-tail (Agrees (t.0.var - 1) (not t.0.neg)) u terms each) (omega (arith, length-set p (u.0.var - 1) (Some (not u.0.neg)))) more is

kept_in : (p : Literal × ℕ → Bool) (xs : List (Literal × ℕ)) (k : ℕ) (x : Literal × ℕ) → k < length xs → get_or xs k x ≡ x → p x ≡ true → Contains (filter p xs) x
kept_in p [] k x within is passes = absurd (let h : k < 0 = within in omega arith)
kept_in p (y ∷ ys) zero x within is passes = subst (λ (zs : List (Literal × ℕ)). Contains zs x) (sym (cond-true (p y) (y ∷ filter p ys) (filter p ys) (ap p is ∙ passes))) (0, omega arith, is)
kept_in p (y ∷ ys) (suc k) x within is passes = let inside : k < length ys = omega arith in later (p y) (kept_in p ys k x inside is passes)
  where
    later : (b : Bool) → Contains (filter p ys) x → Contains (cond b (y ∷ filter p ys) (filter p ys)) x
    later true there = Contains-append_right (y ∷ []) (filter p ys) x there
    later false there = there

-- the terms of a row in normal form have different variables
agrees_all : (terms : List (Literal × ℕ)) (k : ℕ) (t : Literal × ℕ) → IsMerged terms → k < length terms → t ≡ get_or terms k t → All (Agrees (t.0.var - 1) (not t.0.neg)) terms
agrees_all terms k t normal within is = λ j d inside same.
    (let here : 0 < (get_or terms j d).0.var = normal.from_one j d inside in
    let there : 0 < (get_or terms k d).0.var = normal.from_one k d within in
    let at : t ≡ get_or terms k d = is ∙ get_or_default terms k t d within in
    let var : t.0.var ≡ (get_or terms k d).0.var = ap (λ (u : Literal × ℕ). u.0.var) at in
    elim (cases_order j k) [
      | inl one ↦ ap (λ (u : Literal × ℕ). not u.0.neg) (ap (λ (n : ℕ). get_or terms n d) one ∙ sym at)
      | inr two ↦ elim two [
        | inl before ↦ absurd (let h : (get_or terms j d).0.var < (get_or terms k d).0.var = normal.rising j k d before within in omega arith)
        | inr after ↦ absurd (let h : (get_or terms k d).0.var < (get_or terms j d).0.var = normal.rising k j d after inside in omega arith)
      ]
    ])

open_value : (l : Literal) (o : Option Bool) (b : Bool) → o ≡ Some b → is_none (option_map (λ v. if l.neg then not v else v) o) ≡ true → ⊥
open_value l o b is none = let both : false ≡ true = sym (ap (λ (x : Option Bool). is_none (option_map (λ v. if l.neg then not v else v) x)) is) ∙ none in cc

pub more_forced : (p : List (Option Bool)) (c : ConstraintValue) → IsMoreThan p (forced p c)
unfolding forced
more_forced p c = record {
  kept = λ k b is. elim (cases_lt k (length p)) [
    | inl within ↦ stays k b p (filter (is_forced p c) c.terms)
        (All-weaker (λ u. is_forced p c u ≡ true) (Agrees k b) (λ u passes same. absurd (open_value u.0 (value_at p (u.0.var - 1)) b (ap (value_at p) same ∙ is) (and_parts _ _ passes).0)) (filter (is_forced p c) c.terms) (filter_passes (is_forced p c) c.terms))
        within is
    | inr past ↦ absurd (let both : None ≡ Some b = sym (get_or_past p k None past) ∙ is in cc)
  ];
  as_long = length_all_true p (filter (is_forced p c) c.terms);
}

truth_of : (f : Bool → Bool) (o : Option Bool) (n : Option Bool) (b : Bool) → ((v : Bool) → o ≡ Some v → n ≡ Some v) → option_map f o ≡ Some b → option_map f n ≡ Some b
truth_of f None n b kept is = cc
truth_of f (Some v) n b kept is = ap (option_map f) (kept v refl) ∙ is

pub truth_kept : (p q : List (Option Bool)) (l : Literal) (b : Bool) → IsMoreThan p q → partial_truth p l ≡ Some b → partial_truth q l ≡ Some b
truth_kept p q l b more is = truth_of (λ v. if l.neg then not v else v) (value_at p (l.var - 1)) (value_at q (l.var - 1)) b (λ v. more.kept (l.var - 1) v) is

signed : (b : Bool) → (if b then not (not b) else not b) ≡ true
signed true = refl
signed false = refl

lt_test : (x y : ℤ) → x <ℤ y → int_lt x y ≡ true
lt_test x y below = grind (arith, ints)

pub forced_true : (p : List (Option Bool)) (c : ConstraintValue) (k : ℕ) (t : Literal × ℕ) → IsMerged c.terms → k < length c.terms → t ≡ get_or c.terms k t → t.0.var - 1 < length p → is_forced p c t ≡ true → partial_truth (forced p c) t.0 ≡ Some true
unfolding forced
forced_true p c k t normal within is room passes =
    let there : Contains (filter (is_forced p c) c.terms) t = kept_in (is_forced p c) c.terms k t within (sym is) passes in
    let each : All (Agrees (t.0.var - 1) (not t.0.neg)) (filter (is_forced p c) c.terms) = All-filter (is_forced p c) (Agrees (t.0.var - 1) (not t.0.neg)) c.terms (agrees_all c.terms k t normal within is) in
    ap (option_map (λ v. if t.0.neg then not v else v)) (becomes p (filter (is_forced p c) c.terms) there.0 t each room there.1 there.2) ∙ ap Some (signed t.0.neg)

-- the line forces its term number k
record IsForcing (p : Values) (c : ConstraintValue) (k : ℕ) (t : Literal × ℕ) : Type 0 where
  within : k < length c.terms
  is : t ≡ get_or c.terms k t
  not_false : partial_truth p t.0 ≢ Some false
  above : slack p c <ℤ pos t.1

not_open : (o : Option Bool) → is_none o ≡ true → o ≢ Some false
not_open None none = λ e. cc
not_open (Some b) none = cc

lt_of_test : (x y : ℤ) → int_lt x y ≡ true → x <ℤ y
lt_of_test x y is = grind (arith, ints)

forcing : (p : Values) (c : ConstraintValue) (l : Literal) (forces : Forces p c l) → IsForcing p c forces.among.0 forces.term
forcing p c l forces =
    let parts : (is_none (partial_truth p forces.term.0) ≡ true) × (int_lt (slack p c) (pos forces.term.1) ≡ true) = and_parts _ _ forces.forced in
    record {
      within = forces.among.1;
      is = sym forces.among.2;
      not_false = not_open (partial_truth p forces.term.0) parts.0;
      above = lt_of_test (slack p c) (pos forces.term.1) parts.1;
    }

violated : (old new : Values) (c : ConstraintValue) (k : ℕ) (t : Literal × ℕ) → IsForcing old c k t → KeepsFalse old new c → partial_truth new t.0 ≡ Some false → slack new c <ℤ pos 0
violated old new c k t forces kept now =
    let less_now : sum_by (possible_value new) c.terms + t.1 ≤ sum_by (possible_value old) c.terms = less_by old new c.terms k t kept forces.within forces.is forces.not_false now in
    let above : slack old c <ℤ pos t.1 = forces.above in
    omega (arith, ints)

term_more : (old new : Values) (c : ConstraintValue) (cs : List ConstraintValue) (k : ℕ) (t : Literal × ℕ) → IsMerged c.terms → IsForcing old c k t → KeepsFalse old new c → t.0.var - 1 < length new → ((q : Values) → IsMoreThan new q → partial_truth q t.0 ≡ Some true → Conflicts q cs) → Conflicts new (c ∷ cs)
term_more old new c cs k t merged forces kept room rest = by_truth (partial_truth new t.0) refl
  where
    by_truth : (o : Option Bool) → partial_truth new t.0 ≡ o → Conflicts new (c ∷ cs)
    by_truth None now =
        let less_now : sum_by (possible_value new) c.terms ≤ sum_by (possible_value old) c.terms = less old new c.terms kept in
        let above : slack old c <ℤ pos t.1 = forces.above in
        let passes : is_forced new c t ≡ true = and_from _ _ (ap is_none now) (lt_test (slack new c) (pos t.1) (omega (arith, ints))) in
        conflicts_later new c cs (rest (forced new c) (more_forced new c) (forced_true new c k t merged forces.within forces.is room passes))
    by_truth (Some true) now = conflicts_later new c cs (rest (forced new c) (more_forced new c) (truth_kept new (forced new c) t.0 true (more_forced new c) now))
    by_truth (Some false) now = conflicts_here new c cs (violated old new c k t forces kept now)

-- A line that forces a literal goes in front of what conflicts with that literal.
pub row_more : (old new : Values) (c : ConstraintValue) (cs : List ConstraintValue) (l : Literal) → IsMerged c.terms → Forces old c l → KeepsFalse old new c → l.var - 1 < length new → ((q : Values) → IsMoreThan new q → partial_truth q l ≡ Some true → Conflicts q cs) → Conflicts new (c ∷ cs)
row_more old new c cs l merged forces kept room rest =
    let t = forces.term in
    let lit : l ≡ t.0 = sym forces.literal in
    term_more old new c cs forces.among.0 t merged (forcing old c l forces) kept (subst (λ (m : Literal). m.var - 1 < length new) lit room)
    (λ q more truth. rest q more (subst (λ (m : Literal). partial_truth q m ≡ Some true) forces.literal truth))

-- A line that forces a literal is violated where that literal is false too.
pub row_last : (old new : Values) (c : ConstraintValue) (l : Literal) → Forces old c l → KeepsFalse old new c → partial_truth new l ≡ Some false → Conflicts new (c ∷ [])
row_last old new c l forces kept now =
    conflicts_here new c [] (violated old new c forces.among.0 forces.term (forcing old c l forces) kept (subst (λ (m : Literal). partial_truth new m ≡ Some false) (sym forces.literal) now))
