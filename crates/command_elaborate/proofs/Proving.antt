-- What hints over the stored lines prove, and what is closed for them.
use Rattle.std.specs.Prelude.{◌≡◌, ℕ, ◌<◌, ◌==◌, Bool, true, false, if◌then◌else◌, Option, Some, None, IsSome, IfSome, IfNone, List, [], ◌∷◌, map, replicate, All, Contains, refl}
use Rattle.std.proofs.Common.{sym, ◌∙◌, ap, subst, inl, inr, arith}
use Rattle.std.specs.FinMap.{get, insert, entries, entries_sorted, get-entries}
use Rattle.std.proofs.lemmas.Bool.{cases_eq}
use Rattle.std.proofs.lemmas.List.Elements.{All-nil, All-cons, All-head, All-tail, All-weaker, All-map, Contains-get_or}
use Rattle.scut_base.proofs.Options.{if_some}
use Rattle.pb_lin.specs.Constraint.{ConstraintValue, IsNormal, UpTo, negation}
use Rattle.pb_lin.specs.LineMap.{LineMap}
use Rattle.pb_lin.specs.Propagation.{IsClosedUnder}
use Rattle.hint_rup.specs.Propagation.{Conflicts}
use Rattle.hint_rup.specs.Hints.{line_of, before, named}
use Rattle.hint_rup.specs.declared.hint.Hint.{Hint}
use Rattle.hint_rup.specs.declared.hint.Hint.TheVariants.{Id as IdHint, Negated, Denied}
use Rattle.proof_laws.specs.State.{StateValue, IsState}
use Rattle.proof_laws.specs.WellFormed.{IsId, IsHint}
use Rattle.cdcl_trail.specs.Learning.{AreHints, stored}
use Rattle.cdcl_state.specs.Searching.{SearchValue}
use Rattle.command_elaborate.specs.Loose.{live_lines, FollowsLoosely}
use Rattle.command_elaborate.specs.Spelling.{respelled, same_hint, squeezed, told, spelled_hints}
use Rattle.command_elaborate.proofs.Closed.{closed_law}
use Rattle.command_elaborate.proofs.Helped.{trivial_law}
use Rattle.command_elaborate.proofs.Respelled.{stored_hints_law}
use Rattle.command_elaborate.proofs.Squeezed.{squeezed_law}
use Rattle.command_elaborate.proofs.Settled.{told_where, told_small}
use Rattle.command_elaborate.specs.Kept.{HasClosed, IsTaken}
use Rattle.command_elaborate.specs.Reasons.{Proves}
use Rattle.cdcl_trail.proofs.Stores.{get_new, get_other}
use Rattle.proof_laws.proofs.Entries.{entry_found}

abbrev IsStoredId : LineMap → Hint → Type 0
IsStoredId store h = (id : ℕ) × (h ≡ IdHint id) × IsSome (get store id)

some_of : (o : Option ConstraintValue) → IsSome o → (c : ConstraintValue) × (o ≡ Some c)
some_of (Some c) some = (c, refl)
some_of None some = cc

is_id : (store : LineMap) (hints : List Hint) → All (IsStoredId store) hints → All (λ h. (i : ℕ) × (h ≡ IdHint i)) hints
is_id store hints all = All-weaker (IsStoredId store) (λ (h : Hint). (i : ℕ) × (h ≡ IdHint i)) (λ h one. (one.0, one.1)) hints all

-- stored hints name the same lines elsewhere, where these are there too
same_named : (store other : LineMap) → ((id : ℕ) (c : ConstraintValue) → get store id ≡ Some c → get other id ≡ Some c) → (hints : List Hint) → All (IsStoredId store) hints → named (stored store) hints ≡ named (stored other) hints
unfolding named
same_named store other there [] all = refl
same_named store other there (h ∷ hints) all =
    let one = All-head (IsStoredId store) h hints all in
    let line = some_of (get store one.0) one.2 in
    let same : line_of (stored store) h ≡ line_of (stored other) h =
    subst (λ (g : Hint). line_of (stored store) g ≡ line_of (stored other) g) (sym one.1) (line.1 ∙ sym (there one.0 line.0 line.1)) in
    ap (λ (o : Option ConstraintValue). before o (named (stored store) hints)) same ∙ ap (before (line_of (stored other) h)) (same_named store other there hints (All-tail (IsStoredId store) h hints all))

hint_small : (store : LineMap) → ((id : ℕ) (c : ConstraintValue) → get store id ≡ Some c → IsId id) → (h : Hint) → IsStoredId store h → IsHint h
hint_small store small h one = let line = some_of (get store one.0) one.2 in subst IsHint (sym one.1) (small one.0 line.0 line.1)

by_test : (b : Bool) (i : ℕ) → IsId i → IsHint (if b then Negated else IdHint i)
by_test true i small = tt
by_test false i small = small

respelled_small : (id : ℕ) (h : Hint) → IsHint h → IsHint (respelled id h)
respelled_small id (IdHint i) small = by_test (i == id) i small
respelled_small id Negated small = tt
respelled_small id Denied small = tt

squeezed_small : (last : Hint) (hints : List Hint) → All IsHint hints → All IsHint (squeezed last hints)
squeezed_small last [] all = All-nil IsHint
squeezed_small last (h ∷ hints) all =
    by (same_hint last h) (squeezed_small last hints (All-tail IsHint h hints all)) (All-cons IsHint h (squeezed h hints) (All-head IsHint h hints all) (squeezed_small h hints (All-tail IsHint h hints all)))
  where
    by : (b : Bool) → All IsHint (squeezed last hints) → All IsHint (h ∷ squeezed h hints) → All IsHint (if b then squeezed last hints else h ∷ squeezed h hints)
    by true one other = one
    by false one other = other

module _ (s : StateValue) (state : IsState s) (goal : ConstraintValue) (store : LineMap) (taken : IsTaken s.live s.next_id store) where
  live_small : (id : ℕ) (c : ConstraintValue) → get store id ≡ Some c → IsId id
  live_small id c there = let low = (taken.held id c there).0 in omega (arith, state.next_id, state.lines)

  free : get s.live s.next_id ≡ None
  free = by_value (get s.live s.next_id) refl
    where
      by_value : (o : Option ConstraintValue) → get s.live s.next_id ≡ o → get s.live s.next_id ≡ None
      by_value None is = is
      by_value (Some c) is = absurd (let low = (state.ids s.next_id c is).1 in omega arith)

  there_too : (id : ℕ) (c : ConstraintValue) → get (insert store s.next_id (negation goal)) id ≡ Some c → get (insert s.live s.next_id (negation goal)) id ≡ Some c
  there_too id c there = elim (cases_eq id s.next_id) [
    | inl same ↦ ap (get (insert s.live s.next_id (negation goal))) same ∙ get_new s.live s.next_id (negation goal)
        ∙ sym (ap (get (insert store s.next_id (negation goal))) same ∙ get_new store s.next_id (negation goal)) ∙ there
    | inr apart ↦ get_other s.live s.next_id id (negation goal) apart ∙ (taken.held id c (sym (get_other store s.next_id id (negation goal) apart) ∙ there)).1
  ]

  both_small : (id : ℕ) (c : ConstraintValue) → get (insert store s.next_id (negation goal)) id ≡ Some c → IsId id
  both_small id c there = elim (cases_eq id s.next_id) [
    | inl same ↦ omega (arith, same, state.next_id, state.lines)
    | inr apart ↦ live_small id c (sym (get_other store s.next_id id (negation goal) apart) ∙ there)
  ]

  -- hints over these and the negation
  pub both_prove : IsNormal goal.terms goal.degree → UpTo s.vars goal → (again : Bool) → (again ≡ false → goal.degree ≡ 1) → (hints : List Hint) → AreHints (insert store s.next_id (negation goal)) s.vars [] hints → Proves s goal (spelled_hints again s.next_id hints)
  both_prove normal upto again one hints are =
      let same = same_named (insert store s.next_id (negation goal)) (insert s.live s.next_id (negation goal)) there_too hints are.ids in
      let found : Conflicts (replicate s.vars None) (named (stored (insert store s.next_id (negation goal))) hints) = trivial_law (replicate s.vars None) (named (stored (insert store s.next_id (negation goal))) hints) are.conflict in
      let fault = stored_hints_law s goal s.next_id hints state normal upto free (subst (Conflicts (replicate s.vars None)) same found) (is_id (insert store s.next_id (negation goal)) hints are.ids) in (
        squeezed_law s goal (told again (map (respelled s.next_id) hints)) state normal upto (told_where s goal again (map (respelled s.next_id) hints) state normal upto one fault),
        squeezed_small Negated (told again (map (respelled s.next_id) hints)) (told_small again (map (respelled s.next_id) hints) (All-map IsHint (respelled s.next_id) hints
            (All-weaker (IsStoredId (insert store s.next_id (negation goal))) (λ (h : Hint). IsHint (respelled s.next_id h)) (λ h one. respelled_small s.next_id h (hint_small (insert store s.next_id (negation goal)) both_small h one)) hints are.ids))),
      )

  -- where something is closed for these, the goal doesn't follow
  pub closed_open : UpTo s.vars goal → HasClosed s.vars (insert store s.next_id (negation goal)) → FollowsLoosely s goal → ⊥
  closed_open upto closed =
      closed_law s goal closed.0 state closed.1 upto
      (All-cons (IsClosedUnder closed.0) (negation goal) (live_lines s) (closed.2 s.next_id (negation goal) (get_new store s.next_id (negation goal)))
      (All-map (IsClosedUnder closed.0) (λ e. e.1) (entries s.live) (λ k d short. line_closed _ (Contains-get_or (entries s.live) k d short))))
    where
      line_closed : (e : ℕ × ConstraintValue) → Contains (entries s.live) e → IsClosedUnder closed.0 e.1
      line_closed e among =
          let there = get-entries s.live e.0 ∙ entry_found (entries s.live) (entries_sorted s.live) e among in
          let low : e.0 < s.next_id = (state.ids e.0 e.1 there).1 in
          closed.2 e.0 e.1 (get_other store s.next_id e.0 (negation goal) (λ same. omega arith) ∙ taken.all e.0 e.1 low there)

-- ---- as the code has them

pub of_none : {T : Type 0} (P : Type 0) (o : Option T) → o ≡ None → IfNone o P → P
of_none P None is given = given
of_none P (Some y) is given = cc

module _ (s : StateValue) (state : IsState s) (goal : ConstraintValue) (next : ℕ) (v : SearchValue) (taken : IsTaken s.live next v.store) (all : next ≡ s.next_id) (vars : v.trail.vars ≡ s.vars) where
  stored_all : IsTaken s.live s.next_id v.store
  stored_all = subst (λ (n : ℕ). IsTaken s.live n v.store) all taken

  pub both_found : IsNormal goal.terms goal.degree → UpTo s.vars goal → (again : Bool) → (again ≡ false → goal.degree ≡ 1) → (id : ℕ) (o : Option (List Hint)) (hints slice spelled : List Hint) → id ≡ s.next_id → o ≡ Some hints → IfSome o (AreHints (insert v.store id (negation goal)) v.trail.vars []) → slice ≡ hints → spelled ≡ spelled_hints again id slice → Proves s goal spelled
  both_found normal upto again one id o hints slice spelled here is given same is_told =
      let are = if_some (AreHints (insert v.store id (negation goal)) v.trail.vars []) o hints given is in
      let own : AreHints (insert v.store s.next_id (negation goal)) s.vars [] hints = subst (λ (n : ℕ). AreHints (insert v.store s.next_id (negation goal)) n [] hints) vars (subst (λ (i : ℕ). AreHints (insert v.store i (negation goal)) v.trail.vars [] hints) here are) in
      subst (Proves s goal) (sym (is_told ∙ ap (spelled_hints again id) same ∙ ap (λ (i : ℕ). spelled_hints again i hints) here)) (both_prove s state goal v.store stored_all normal upto again one hints own)

  pub none_found : UpTo s.vars goal → (id : ℕ) (o : Option (List Hint)) → id ≡ s.next_id → o ≡ None → IfNone o (HasClosed v.trail.vars (insert v.store id (negation goal))) → FollowsLoosely s goal → ⊥
  none_found upto id o here is given =
      closed_open s state goal v.store stored_all upto
      (subst (λ (n : ℕ). HasClosed n (insert v.store s.next_id (negation goal))) vars (subst (λ (i : ℕ). HasClosed v.trail.vars (insert v.store i (negation goal))) here (of_none (HasClosed v.trail.vars (insert v.store id (negation goal))) o is given)))
