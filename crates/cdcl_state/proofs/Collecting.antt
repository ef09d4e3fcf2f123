-- What is collected over the places that are marked, one after another.
use Rattle.std.specs.Prelude.{◌≡◌, ◌≢◌, ℕ, ◌+◌, ◌<◌, ◌≤◌, ◌⊎◌, Bool, true, false, List, [], ◌∷◌, ◌++◌, take, length, All, AllPairs, Contains, IsPermutation, refl}
use Rattle.std.proofs.Common.{zero, sym, ◌∙◌, ap, subst, inl, inr, get_or, arith}
use Rattle.std.proofs.lemmas.List.{take_more, get_or_default, get_or-take, length-take}
use Rattle.std.proofs.lemmas.List.Elements.{All-push, All-weaker, Contains-push, Contains-append_left, Contains-append_cases}
use Rattle.std.proofs.lemmas.List.Quantifiers.{all_pairs_push}
use Rattle.std.proofs.lemmas.List.Sorted.{All-permutation, Contains-permutation}
use Rattle.scut_base.specs.Literal.{Literal}
use Rattle.clause_prop.specs.declared.step.Step.{Step}
use Rattle.clause_prop.specs.Steps.{TrailValue, AreSteps}
use Rattle.cdcl_trail.specs.SearchTrail.{IsStepAt}
use Rattle.cdcl_state.specs.declared.reach.Reach.{Reach}
use Rattle.cdcl_state.specs.declared.reach.Reach.TheVariants.{Level, Decisions}
use Rattle.cdcl_state.specs.Walking.{AreAside, AreMarks, IsAside, IsHighest, IsOutcome, is_marked, is_resolved, said}
use Rattle.cdcl_state.proofs.Marking.{mark_read}
use Rattle.cdcl_state.proofs.TrailSteps.{place_same, step_same}

pub said_var : (reach : Reach) (l : Literal) → (said reach l).var ≡ l.var
unfolding said
said_var (Level level) l = refl
said_var Decisions l = refl

-- an element of a list with one more is that one or one of the list
in_push : (ps : List ℕ) (x p : ℕ) → Contains (ps ++ x ∷ []) p → Contains ps p ⊎ (p ≡ x)
in_push ps x p there = elim (Contains-append_cases ps (x ∷ []) p there) [
  | inl before ↦ inl before
  | inr last ↦ inr (let first : last.0 < 1 = last.1 in let at : last.0 ≡ zero = omega arith in sym last.2 ∙ ap (λ (k : ℕ). get_or (x ∷ []) k p) at)
]

aside_kept : (t : TrailValue) (reach : Reach) (marks : List Bool) (ps : List ℕ) (x : ℕ) (l : Literal) → IsAside t reach marks ps l → IsAside t reach marks (ps ++ x ∷ []) l
aside_kept t reach marks ps x l is = record { place = is.place; step = is.step; there = is.there; among = Contains-append_left ps (x ∷ []) is.place is.among; on = is.on; unresolved = is.unresolved; is = is.is }

-- past the step at a place more that isn't marked, or that the walk resolves
aside_skip : (t : TrailValue) (reach : Reach) (marks : List Bool) (ps : List ℕ) (lits : List Literal) (x : ℕ) (s : Step) → AreAside t reach marks ps lits → IsStepAt t x s → (is_marked marks x ≡ true → is_resolved reach s ≡ true) → AreAside t reach marks (ps ++ x ∷ []) lits
aside_skip t reach marks ps lits x s are at resolved = record {
  each = All-weaker (IsAside t reach marks ps) (IsAside t reach marks (ps ++ x ∷ [])) (aside_kept t reach marks ps x) lits are.each;
  covers = λ p r there among on free. elim (in_push ps x p among) [
    | inl before ↦ are.covers p r there before on free
    | inr here ↦ absurd (let both : true ≡ false = sym (resolved (ap (is_marked marks) (sym here) ∙ on)) ∙ ap (is_resolved reach) (step_same t x p s r at there (sym here)) ∙ free in cc)
  ];
  apart = are.apart;
}

-- the marked step at a place more that it doesn't resolve
aside_push : (t : TrailValue) (reach : Reach) (marks : List Bool) (ps : List ℕ) (lits : List Literal) (x : ℕ) (s : Step) → AreSteps t.vars t.steps → AreAside t reach marks ps lits → (Contains ps x → ⊥) → IsStepAt t x s → is_marked marks x ≡ true → is_resolved reach s ≡ false → AreAside t reach marks (ps ++ x ∷ []) (lits ++ said reach s.lit ∷ [])
aside_push t reach marks ps lits x s steps are new at on free = record {
  each = All-push (IsAside t reach marks (ps ++ x ∷ [])) lits (said reach s.lit)
      (All-weaker (IsAside t reach marks ps) (IsAside t reach marks (ps ++ x ∷ [])) (aside_kept t reach marks ps x) lits are.each)
      (record { place = x; step = s; there = at; among = Contains-push ps x; on = on; unresolved = free; is = refl });
  covers = λ p r there among on_r free_r. elim (in_push ps x p among) [
    | inl before ↦ Contains-append_left lits (said reach s.lit ∷ []) (said reach r.lit) (are.covers p r there before on_r free_r)
    | inr here ↦ subst (λ (y : Step). Contains (lits ++ said reach s.lit ∷ []) (said reach y.lit)) (step_same t x p s r at there (sym here)) (Contains-push lits (said reach s.lit))
  ];
  apart = all_pairs_push (λ l m. l.var ≢ m.var) lits (said reach s.lit) are.apart (λ k d within same.
      (let one : IsAside t reach marks ps (get_or lits k d) = are.each k d within in
      let var : one.step.lit.var ≡ s.lit.var = sym (said_var reach one.step.lit) ∙ sym (ap (λ (l : Literal). l.var) one.is) ∙ same ∙ said_var reach s.lit in
      let place : one.place ≡ x = place_same t one.place x one.step s steps one.there at var in
      new (subst (Contains ps) place one.among)));
}

-- a place isn't among those before it
not_before : (n : ℕ) (seen : List Bool) (places : List ℕ) (i d : ℕ) → AreMarks n seen places → i < length places → Contains (take i places) (get_or places i d) → ⊥
not_before n seen places i d are within there =
    let k = there.0 in
    let inside : k < length (take i places) = there.1 in
    let before : k < i = omega (arith, inside, length-take i places) in
    are.apart k i d before within (get_or_default places k d (get_or places i d) (omega arith) ∙ sym (get_or-take i places k (get_or places i d) before) ∙ there.2)

module _ (n : ℕ) (marks seen : List Bool) (places items : List ℕ) (i x : ℕ) (are : AreMarks n seen places) (same : items ≡ places) (within : i < length items) (read : x ≡ get_or items i 0) where
  inside : i < length places
  inside = subst (λ (ps : List ℕ). i < length ps) same within

  place : x ≡ get_or places i x
  place = read ∙ ap (λ (ps : List ℕ). get_or ps i 0) same ∙ get_or_default places i 0 x inside

  front : take (i + 1) places ≡ take i places ++ x ∷ []
  front = take_more places i x inside ∙ ap (λ (k : ℕ). take i places ++ k ∷ []) (sym place)

  pub place_below : n ≤ length marks → x < length marks
  place_below long =
      let low : x < n = subst (λ (k : ℕ). k < n) (sym place) (are.within i x inside) in
      omega arith

  pub read_mark : (b : Bool) → n ≤ length marks → b ≡ get_or marks x b → is_marked marks x ≡ b
  read_mark b long read = mark_read marks x b (place_below long) read

  pub aside_next : (t : TrailValue) (reach : Reach) (lits : List Literal) (s : Step) → AreSteps t.vars t.steps → AreAside t reach marks (take i places) lits → IsStepAt t x s → is_marked marks x ≡ true → is_resolved reach s ≡ false → AreAside t reach marks (take (i + 1) places) (lits ++ said reach s.lit ∷ [])
  aside_next t reach lits s steps before at on free =
      subst (λ (ps : List ℕ). AreAside t reach marks ps (lits ++ said reach s.lit ∷ [])) (sym front)
      (aside_push t reach marks (take i places) lits x s steps before (λ there. not_before n seen places i x are inside (subst (Contains (take i places)) place there)) at on free)

  pub aside_past : (t : TrailValue) (reach : Reach) (lits : List Literal) (s : Step) → AreAside t reach marks (take i places) lits → IsStepAt t x s → (is_marked marks x ≡ true → is_resolved reach s ≡ true) → AreAside t reach marks (take (i + 1) places) lits
  aside_past t reach lits s before at resolved = subst (λ (ps : List ℕ). AreAside t reach marks ps lits) (sym front) (aside_skip t reach marks (take i places) lits x s before at resolved)

  pub highest_next : (t : TrailValue) (top best level : ℕ) (s : Step) → IsHighest t marks (take i places) top best → is_marked marks x ≡ true → IsStepAt t x s → best ≤ level → (s.level ≢ top → s.level ≤ level) → (level ≡ best) ⊎ ((level ≡ s.level) × (s.level ≢ top)) → IsHighest t marks (take (i + 1) places) top level
  highest_next t top best level s before on at kept reached one_of = subst (λ (ps : List ℕ). IsHighest t marks ps top level) (sym front) (record {
    most = λ p r there among on_r other. elim (in_push (take i places) x p among) [
      | inl earlier ↦ (let low : r.level ≤ best = before.most p r there earlier on_r other in omega arith)
      | inr here ↦ (let one : s ≡ r = step_same t x p s r at there (sym here) in subst (λ (y : Step). y.level ≢ top → y.level ≤ level) one reached other)
    ];
    reached = elim one_of [
      | inl still ↦ elim before.reached [
        | inl none ↦ inl (still ∙ none)
        | inr found ↦ inr (found.0, found.1, found.2, Contains-append_left (take i places) (x ∷ []) found.0 found.3, found.4, found.5, found.6 ∙ sym still)
      ]
      | inr new ↦ inr (x, s, at, Contains-push (take i places) x, on, new.1, sym new.0)
    ];
  })

  pub highest_past : (t : TrailValue) (top best : ℕ) → IsHighest t marks (take i places) top best → is_marked marks x ≡ false → IsHighest t marks (take (i + 1) places) top best
  highest_past t top best before off = subst (λ (ps : List ℕ). IsHighest t marks ps top best) (sym front) (record {
    most = λ p r there among on other. elim (in_push (take i places) x p among) [
      | inl earlier ↦ before.most p r there earlier on other
      | inr here ↦ absurd (let both : true ≡ false = sym on ∙ ap (is_marked marks) here ∙ off in cc)
    ];
    reached = elim before.reached [
      | inl none ↦ inl none
      | inr found ↦ inr (found.0, found.1, found.2, Contains-append_left (take i places) (x ∷ []) found.0 found.3, found.4, found.5, found.6)
    ];
  })

-- with one literal more the variables stay different
pub apart_pushed : (t : TrailValue) (reach : Reach) (marks : List Bool) (places : List ℕ) (lits : List Literal) (more : Literal) → AreAside t reach marks places lits → ((p : ℕ) (s : Step) → IsStepAt t p s → is_resolved reach s ≡ false → s.lit.var ≢ more.var) → AllPairs (λ l m. l.var ≢ m.var) (lits ++ more ∷ [])
apart_pushed t reach marks places lits more are other = all_pairs_push (λ l m. l.var ≢ m.var) lits more are.apart (λ k d within same.
    (let one : IsAside t reach marks places (get_or lits k d) = are.each k d within in
    other one.place one.step one.there one.unresolved (sym (said_var reach one.step.lit) ∙ sym (ap (λ (l : Literal). l.var) one.is) ∙ same)))

pub outcome_from : (t : TrailValue) (reach : Reach) (marks : List Bool) (places : List ℕ) (lits pushed sorted : List Literal) (more : Literal) → AreAside t reach marks places lits → pushed ≡ lits ++ more ∷ [] → IsPermutation pushed sorted → AllPairs (λ l m. l.var < m.var) sorted → IsOutcome t reach marks places more sorted
outcome_from t reach marks places lits pushed sorted more are is order rising = record {
  rising = rising;
  among = moved more (Contains-push lits more);
  others = All-permutation (λ l. (l ≡ more) ⊎ IsAside t reach marks places l) pushed sorted order
      (subst (All (λ l. (l ≡ more) ⊎ IsAside t reach marks places l)) (sym is)
      (All-push (λ l. (l ≡ more) ⊎ IsAside t reach marks places l) lits more (All-weaker (IsAside t reach marks places) (λ l. (l ≡ more) ⊎ IsAside t reach marks places l) (λ l one. inr one) lits are.each) (inl refl)));
  covers = λ p s there among on free. moved (said reach s.lit) (Contains-append_left lits (more ∷ []) (said reach s.lit) (are.covers p s there among on free));
}
  where
    moved : (l : Literal) → Contains (lits ++ more ∷ []) l → Contains sorted l
    moved l there = Contains-permutation pushed sorted l order (subst (λ (ls : List Literal). Contains ls l) (sym is) there)
