-- Constraints that stand side by side with their ids, and the table of their places.
use Rattle.std.specs.Prelude.{◌≡◌, ◌≢◌, ℕ, zero, suc, ◌+◌, ◌<◌, Bool, cond, List, [], ◌∷◌, ◌++◌, Option, Some, None, IsSome, nat_eq, length, set, refl}
use Rattle.std.proofs.Common.{get_or, sym, ◌∙◌, ap, subst, arith, inl, inr, ◌-◌, length-set}
use Rattle.std.proofs.lemmas.Bool.{eq-eqb, ne_eqb, cases_eq, cases_lt}
use Rattle.std.proofs.lemmas.Bool.Decides.{Decides-eqb}
use Rattle.std.proofs.lemmas.List.{get_or_append_left, get_or_push, length_push, get_or-set_same, get_or-set_other, get_or_past}
use Rattle.std.proofs.lemmas.Map.Made.{IsDistinct-from_AllPairs}
use Rattle.std.specs.List.{zip, IsDistinct}
use Rattle.std.specs.Option.{is_some}
use Rattle.std.specs.FinMap.{insert, remove}
use Rattle.std.specs.Map.{lookup}
use Rattle.pb_lin.specs.Constraint.{ConstraintValue}
use Rattle.pb_lin.specs.LineMap.{lines_of}
use Rattle.pb_lin.specs.IdTable.{place_of, place_in, PlacesIds}
use Rattle.pb_lin.proofs.LineEntries.{lines_put, lines_removed}

-- the first entry of an id
lookup_at : (ids : List ℕ) (cs : List ConstraintValue) (q k d : ℕ) (c : ConstraintValue) → k < length ids → length ids ≡ length cs → get_or ids k d ≡ q → ((j : ℕ) → j < k → get_or ids j d ≢ q) → lookup (nat_eq q) (zip ids cs) ≡ Some (get_or cs k c)
lookup_at [] cs q k d c short same here before = absurd (omega (arith, short))
lookup_at (i ∷ ids) [] q k d c short same here before = absurd (omega (arith, same))
lookup_at (i ∷ ids) (x ∷ cs) q zero d c short same here before = ap (λ (b : Bool). cond b (Some x) (lookup (nat_eq q) (zip ids cs))) (eq-eqb q i (sym here))
lookup_at (i ∷ ids) (x ∷ cs) q (suc k) d c short same here before =
    ap (λ (b : Bool). cond b (Some x) (lookup (nat_eq q) (zip ids cs))) (ne_eqb q i (λ e. before 0 (omega arith) (sym e)))
    ∙ lookup_at ids cs q k d c (omega (arith, short)) (omega (arith, same)) here (λ j less. before (suc j) (omega (arith, less)))

lookup_none : (ids : List ℕ) (cs : List ConstraintValue) (q d : ℕ) → ((j : ℕ) → j < length ids → get_or ids j d ≢ q) → lookup (nat_eq q) (zip ids cs) ≡ None
lookup_none [] cs q d none = refl
lookup_none (i ∷ ids) [] q d none = refl
lookup_none (i ∷ ids) (x ∷ cs) q d none =
    ap (λ (b : Bool). cond b (Some x) (lookup (nat_eq q) (zip ids cs))) (ne_eqb q i (λ e. none 0 (omega arith) (sym e)))
    ∙ lookup_none ids cs q d (λ j less. none (suc j) (omega (arith, less)))

same_place : (o : Option ℕ) (j k : ℕ) → o ≡ Some j → o ≡ Some k → j ≡ k
same_place o j k e f = cc

no_place : (o : Option ℕ) (k : ℕ) → o ≡ None → o ≡ Some k → ⊥
no_place o k e f = cc

pub places_none : PlacesIds [] [] 0
places_none = record {
  counted = refl;
  placed = λ k d short. absurd (omega (arith, short));
  named = λ q k e. absurd (no_place None k refl (ap place_of (sym (get_or_past [] q 0 (omega arith))) ∙ e));
}

-- what stands at the place of an id
pub line_held : (table ids : List ℕ) (cs : List ConstraintValue) (q k : ℕ) (c : ConstraintValue) → PlacesIds table ids (length cs) → place_in table q ≡ Some k → lookup (nat_eq q) (zip ids cs) ≡ Some (get_or cs k c)
line_held table ids cs q k c places is =
    let there = places.named q k is in
    lookup_at ids cs q k 0 c there.0 places.counted (there.1 0) (λ j less e.
    let same = same_place (place_in table q) j k (ap (place_in table) (sym e) ∙ places.placed j 0 (let short = there.0 in omega (arith, less, short))) is in
    omega (arith, less, same))

pub line_missing : (table ids : List ℕ) (cs : List ConstraintValue) (q : ℕ) → PlacesIds table ids (length cs) → place_in table q ≡ None → lookup (nat_eq q) (zip ids cs) ≡ None
line_missing table ids cs q places is =
    lookup_none ids cs q 0 (λ j short e. no_place (place_in table q) j is (ap (place_in table) (sym e) ∙ places.placed j 0 short))

-- as many ids as constraints, and no id twice
pub ids_distinct : (table ids : List ℕ) (n : ℕ) → PlacesIds table ids n → IsDistinct nat_eq ids
ids_distinct table ids n places = IsDistinct-from_AllPairs Decides-eqb ids (λ j k d less short e.
    let same = same_place (place_in table (get_or ids j d)) j k (places.placed j d (omega (arith, less, short))) (ap (place_in table) e ∙ places.placed k d short) in
    absurd (omega (arith, same, less)))

-- an id that keeps its place, and at it its constraint
pub lookup_same : (table table' ids ids' : List ℕ) (cs cs' : List ConstraintValue) (q : ℕ) → PlacesIds table ids (length cs) → PlacesIds table' ids' (length cs') → place_in table' q ≡ place_in table q → ((j : ℕ) (c : ConstraintValue) → place_in table q ≡ Some j → get_or cs' j c ≡ get_or cs j c) → lookup (nat_eq q) (zip ids' cs') ≡ lookup (nat_eq q) (zip ids cs)
lookup_same table table' ids ids' cs cs' q places places' same kept = by (place_in table q) refl
  where
    none : ConstraintValue
    none = record { terms = []; degree = 0 }

    by : (o : Option ℕ) → place_in table q ≡ o → lookup (nat_eq q) (zip ids' cs') ≡ lookup (nat_eq q) (zip ids cs)
    by None e = line_missing table' ids' cs' q places' (same ∙ e) ∙ sym (line_missing table ids cs q places e)
    by (Some j) e = line_held table' ids' cs' q j none places' (same ∙ e) ∙ ap Some (kept j none e) ∙ sym (line_held table ids cs q j none places e)

-- ids that have a place are those that have a constraint
pub none_held : (table ids : List ℕ) (cs : List ConstraintValue) (q : ℕ) → PlacesIds table ids (length cs) → lookup (nat_eq q) (zip ids cs) ≡ None → place_in table q ≡ None
none_held table ids cs q places none = by (place_in table q) refl
  where
    by : (o : Option ℕ) → place_in table q ≡ o → place_in table q ≡ None
    by None e = e
    by (Some j) e = let held = line_held table ids cs q j (record { terms = []; degree = 0 }) places e in absurd cc

pub some_held : (table ids : List ℕ) (cs : List ConstraintValue) (q : ℕ) → PlacesIds table ids (length cs) → IsSome (place_in table q) → IsSome (lookup (nat_eq q) (zip ids cs))
some_held table ids cs q places some = by (place_in table q) refl some
  where
    by : (o : Option ℕ) → place_in table q ≡ o → IsSome o → IsSome (lookup (nat_eq q) (zip ids cs))
    by None e some = cc
    by (Some j) e some = ap is_some (line_held table ids cs q j (record { terms = []; degree = 0 }) places e)

-- ---- what the table says is all that counts

pub places_same : (table table' ids : List ℕ) (n : ℕ) → PlacesIds table ids n → ((q : ℕ) → place_in table' q ≡ place_in table q) → PlacesIds table' ids n
places_same table table' ids n places same = record {
  counted = places.counted;
  placed = λ k d short. same (get_or ids k d) ∙ places.placed k d short;
  named = λ q k e. places.named q k (sym (same q) ∙ e);
}

-- an id gets a place and loses it again
pub places_undone : (table mid table' ids : List ℕ) (n id : ℕ) → PlacesIds table ids n → place_in table id ≡ None → ((q : ℕ) → q ≢ id → place_in mid q ≡ place_in table q) → place_in table' id ≡ None → ((q : ℕ) → q ≢ id → place_in table' q ≡ place_in mid q) → PlacesIds table' ids n
places_undone table mid table' ids n id places free others gone undone = places_same table table' ids n places (λ q. elim (cases_eq q id) [
  | inl same ↦ ap (place_in table') same ∙ gone ∙ sym free ∙ ap (place_in table) (sym same)
  | inr differs ↦ undone q differs ∙ others q differs
])

-- ---- a constraint in place of another

pub places_replaced : (table ids : List ℕ) (cs cs' : List ConstraintValue) (k : ℕ) (c : ConstraintValue) → PlacesIds table ids (length cs) → cs' ≡ set cs k c → PlacesIds table ids (length cs')
places_replaced table ids cs cs' k c places put = subst (PlacesIds table ids) (sym (ap (λ (xs : List ConstraintValue). length xs) put ∙ length-set cs k c)) places

pub lines_replaced : (table ids : List ℕ) (cs cs' : List ConstraintValue) (id k : ℕ) (c : ConstraintValue) → PlacesIds table ids (length cs) → place_in table id ≡ Some k → cs' ≡ set cs k c → lines_of (zip ids cs') ≡ insert (lines_of (zip ids cs)) id c
lines_replaced table ids cs cs' id k c places is put =
    let places' = places_replaced table ids cs cs' k c places put in
    lines_put (zip ids cs) (zip ids cs') id c
    (line_held table ids cs' id k c places' is ∙ ap Some (ap (λ (xs : List ConstraintValue). get_or xs k c) put ∙ get_or-set_same cs k c c (let there = (places.named id k is).0 in let count = places.counted in omega (arith, there, count))))
    (λ q differs. lookup_same table table ids ids cs cs' q places places' refl (λ j d e.
    ap (λ (xs : List ConstraintValue). get_or xs j d) put ∙ get_or-set_other cs k j c d (λ (same : j ≡ k).
    differs (sym ((places.named q j e).1 0) ∙ ap (λ (i : ℕ). get_or ids i 0) same ∙ (places.named id k is).1 0))))

-- ---- one constraint more

pub places_pushed : (table table' ids : List ℕ) (n id : ℕ) → PlacesIds table ids n → place_in table id ≡ None → place_in table' id ≡ Some n → ((q : ℕ) → q ≢ id → place_in table' q ≡ place_in table q) → PlacesIds table' (ids ++ id ∷ []) (n + 1)
places_pushed table table' ids n id places free found others = record {
  counted = (let count = places.counted in omega (arith, length_push ids id, count));
  placed = λ k d short. elim (cases_lt k (length ids)) [
    | inl less ↦
        let here : get_or (ids ++ id ∷ []) k d ≡ get_or ids k d = get_or_append_left ids (id ∷ []) d k less in
        let held = places.placed k d less in
        ap (place_in table') here ∙ others (get_or ids k d) (λ e. no_place (place_in table id) k free (ap (place_in table) (sym e) ∙ held)) ∙ held
    | inr past ↦
        let count = places.counted in
        let is_last : k ≡ n = omega (arith, past, short, length_push ids id, count) in
        ap (place_in table') (get_or_push ids id d k (omega (arith, is_last, count))) ∙ found ∙ ap Some (sym is_last)
  ];
  named = λ q k e. elim (cases_eq q id) [
    | inl same ↦
        let count = places.counted in
        let is_last : k ≡ n = same_place (place_in table' id) k n (ap (place_in table') (sym same) ∙ e) found in
        (omega (arith, is_last, count, length_push ids id), λ d. get_or_push ids id d k (omega (arith, is_last, count)) ∙ sym same)
    | inr differs ↦
        let there = places.named q k (sym (others q differs) ∙ e) in
        (let short = there.0 in omega (arith, short, length_push ids id), λ d. get_or_append_left ids (id ∷ []) d k there.0 ∙ there.1 d)
  ];
}

pub lines_pushed : (table table' ids ids' : List ℕ) (cs cs' : List ConstraintValue) (id : ℕ) (c : ConstraintValue) → PlacesIds table ids (length cs) → PlacesIds table' ids' (length cs') → place_in table' id ≡ Some (length cs) → ((q : ℕ) → q ≢ id → place_in table' q ≡ place_in table q) → cs' ≡ cs ++ c ∷ [] → lines_of (zip ids' cs') ≡ insert (lines_of (zip ids cs)) id c
lines_pushed table table' ids ids' cs cs' id c places places' found others put =
    lines_put (zip ids cs) (zip ids' cs') id c
    (line_held table' ids' cs' id (length cs) c places' found ∙ ap Some (ap (λ (xs : List ConstraintValue). get_or xs (length cs) c) put ∙ get_or_push cs c c (length cs) refl))
    (λ q differs. lookup_same table table' ids ids' cs cs' q places places' (others q differs) (λ j d e.
    ap (λ (xs : List ConstraintValue). get_or xs j d) put ∙ get_or_append_left cs (c ∷ []) d j (let there = (places.named q j e).0 in let count = places.counted in omega (arith, there, count))))

-- ---- a constraint dropped, in whose place the last one moves

-- xs' is xs with the last element in the place k, and one shorter
abbrev pub IsMoved : {X : Type 0} → List X → List X → ℕ → Type 0
IsMoved {X} xs xs' k = ((d : X) → k + 1 < length xs → get_or xs' k d ≡ get_or xs (length xs - 1) d) × ((j : ℕ) (d : X) → j ≢ k → j + 1 < length xs → get_or xs' j d ≡ get_or xs j d)

-- the table forgets an id, and the last id has its place
pub record IsDropped (table table' ids : List ℕ) (id last k : ℕ) : Type 0 where
  pub was : place_in table id ≡ Some k
  pub last_is : (d : ℕ) → last ≡ get_or ids (length ids - 1) d
  pub gone : place_in table' id ≡ None
  pub moved : last ≢ id → place_in table' last ≡ Some k
  pub others : (q : ℕ) → q ≢ id → q ≢ last → place_in table' q ≡ place_in table q

module _ (table table' ids ids' : List ℕ) (n id last k : ℕ) (places : PlacesIds table ids n) (drop : IsDropped table table' ids id last k) (shorter : length ids' + 1 ≡ length ids) (moves : IsMoved ids ids' k) where
  last_place : place_in table last ≡ Some (length ids - 1)
  last_place = ap (place_in table) (drop.last_is 0) ∙ places.placed (length ids - 1) 0 (omega (arith, shorter))

  there : k < length ids
  there = (places.named id k drop.was).0

  -- the id itself isn't the last one if a place is behind its own
  not_last : k + 1 < length ids → last ≢ id
  not_last behind same =
      let e = same_place (place_in table id) k (length ids - 1) drop.was (ap (place_in table) (sym same) ∙ last_place) in
      absurd (omega (arith, e, behind))

  behind : last ≢ id → k + 1 < length ids
  behind differs = elim (cases_lt (k + 1) (length ids)) [
    | inl less ↦ less
    | inr past ↦
        let here : k ≡ length ids - 1 = omega (arith, past, there) in
        absurd (differs (drop.last_is 0 ∙ ap (λ (i : ℕ). get_or ids i 0) (sym here) ∙ (places.named id k drop.was).1 0))
  ]

  pub places_dropped : (n' : ℕ) → n' + 1 ≡ n → PlacesIds table' ids' n'
  places_dropped n' less = record {
    counted = (let count = places.counted in omega (arith, count, less, shorter));
    placed = λ j d short. elim (cases_eq j k) [
      | inl same ↦
          let far : k + 1 < length ids = omega (arith, same, short, shorter) in
          ap (λ (i : ℕ). place_in table' (get_or ids' i d)) same ∙ ap (place_in table') (moves.0 d far ∙ sym (drop.last_is d)) ∙ drop.moved (not_last far) ∙ ap Some (sym same)
      | inr other ↦
          let far : j + 1 < length ids = omega (arith, short, shorter) in
          let held = places.placed j d (omega (arith, far)) in
          ap (place_in table') (moves.1 j d other far)
          ∙ drop.others (get_or ids j d)
          (λ e. other (same_place (place_in table id) j k (ap (place_in table) (sym e) ∙ held) drop.was))
          (λ e. let same = same_place (place_in table last) j (length ids - 1) (ap (place_in table) (sym e) ∙ held) last_place in omega (arith, same, far))
          ∙ held
    ];
    named = λ q j e. elim (cases_eq q id) [
      | inl same ↦ absurd (no_place (place_in table' id) j drop.gone (ap (place_in table') (sym same) ∙ e))
      | inr differs ↦ elim (cases_eq q last) [
        | inl same ↦
            let apart : last ≢ id = λ s. differs (same ∙ s) in
            let far = behind apart in
            let here : j ≡ k = same_place (place_in table' last) j k (ap (place_in table') (sym same) ∙ e) (drop.moved apart) in
            (omega (arith, far, here, shorter), λ d. ap (λ (i : ℕ). get_or ids' i d) here ∙ moves.0 d far ∙ sym (drop.last_is d) ∙ sym same)
        | inr apart ↦
            let was = sym (drop.others q differs apart) ∙ e in
            let old = places.named q j was in
            let other : j ≢ k = λ s. differs (sym (old.1 0) ∙ ap (λ (i : ℕ). get_or ids i 0) s ∙ (places.named id k drop.was).1 0) in
            let inner : j ≢ length ids - 1 = λ s. apart (sym (old.1 0) ∙ ap (λ (i : ℕ). get_or ids i 0) s ∙ sym (drop.last_is 0)) in
            let far : j + 1 < length ids = (let short = old.0 in omega (arith, short, inner)) in
            (omega (arith, far, shorter), λ d. moves.1 j d other far ∙ old.1 d)
      ]
    ];
  }

  pub lines_dropped : (cs cs' : List ConstraintValue) → length cs ≡ n → length cs' + 1 ≡ length cs → IsMoved cs cs' k → lines_of (zip ids' cs') ≡ remove (lines_of (zip ids cs)) id
  lines_dropped cs cs' same_length less moved =
      let places_cs : PlacesIds table ids (length cs) = subst (PlacesIds table ids) (sym same_length) places in
      let places_cs' : PlacesIds table' ids' (length cs') = places_dropped (length cs') (omega (arith, less, same_length)) in
      let count = places.counted in
      lines_removed (zip ids cs) (zip ids' cs') id
      (line_missing table' ids' cs' id places_cs' drop.gone)
      (λ q differs. elim (cases_eq q last) [
        | inl same ↦
            let apart : last ≢ id = λ s. differs (same ∙ s) in
            line_held table' ids' cs' q k none places_cs' (ap (place_in table') same ∙ drop.moved apart)
            ∙ ap Some (moved.0 none (let far = behind apart in omega (arith, far, count, same_length)) ∙ ap (λ (i : ℕ). get_or cs i none) (omega (arith, count, same_length)))
            ∙ sym (line_held table ids cs q (length ids - 1) none places_cs (ap (place_in table) same ∙ last_place))
        | inr apart ↦ lookup_same table table' ids ids' cs cs' q places_cs places_cs' (drop.others q differs apart) (λ j d e.
            let old = places.named q j e in
            let other : j ≢ k = λ s. differs (sym (old.1 0) ∙ ap (λ (i : ℕ). get_or ids i 0) s ∙ (places.named id k drop.was).1 0) in
            let inner : j ≢ length ids - 1 = λ s. apart (sym (old.1 0) ∙ ap (λ (i : ℕ). get_or ids i 0) s ∙ sym (drop.last_is 0)) in
            moved.1 j d other (let short = old.0 in omega (arith, short, inner, count, same_length)))
      ])
    where
      none : ConstraintValue
      none = record { terms = []; degree = 0 }
