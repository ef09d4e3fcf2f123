-- Lines that bound objectives, one after another.
use Rattle.std.proofs.Common.{inl, inr, ◌≡◌, ◌⊎◌, ℕ, ◌+◌, ◌-◌, ◌<◌, ◌≤◌, Bool, true, false, not, cond, if◌then◌else◌, Option, Some, None, List, [], ◌∷◌, map, length, get_or, drop, sum_by, filter, refl, arith, sym, ap, subst, ◌∙◌, ⊎_elim}
use Rattle.std.specs.Prelude.{MatchOption, option_map, ◌↔◌, ◌^◌}
use Rattle.std.specs.List.{AllPairs}
use Rattle.std.specs.List.Sorted.{IsPermutation}
use Rattle.std.proofs.Math.ListN.{drop_of_length-le}
use Rattle.std.proofs.lemmas.List.{drop_more}
use Rattle.std.proofs.lemmas.List.Sums.{sum_by-cons, sum_by-le-sum_by}
use Rattle.std.proofs.lemmas.List.Sorted.{All-permutation, sum_by-IsPermutation}
use Rattle.scut_base.specs.Literal.{Literal}
use Rattle.pb_lin.specs.Constraint.{ConstraintValue, Covers, IsNormal, opposite, term_value, total, value}
use Rattle.pb_lin.specs.CostRow.{CostRowValue, IsCostRow}
use Rattle.pb_lin.specs.LineMap.{LineMap}
use Rattle.pb_lin.specs.Restriction.{restriction, is_set, met_value}
use Rattle.pb_lin.proofs.Ones.{AllPairs-map}
use Rattle.pb_lin.proofs.Sums.{term_value-le}
use Rattle.proof_laws.specs.Refusal.{Bounds, IsCutFault, line_or_none}
use Rattle.proof_laws.specs.declared.why.Why.{Why}
use Rattle.proof_laws.specs.declared.why.Why.TheVariants.{NoSuchId, CutOpen}

-- ---- terms in another order

sum_by_filter : {X : Type 0} (f : X → ℕ) (p : X → Bool) (xs : List X) → sum_by f (filter p xs) ≡ sum_by (λ x. if p x then f x else 0) xs
sum_by_filter f p [] = refl
sum_by_filter {X} f p (x ∷ xs) =
    by (p x)
    ∙ ap (λ (n : ℕ). (if p x then f x else 0) + n) (sum_by_filter f p xs)
    ∙ sym (sum_by-cons (λ y. if p y then f y else 0) x xs)
  where
    by : (b : Bool) → sum_by f (cond b (x ∷ filter p xs) (filter p xs)) ≡ (if b then f x else 0) + sum_by f (filter p xs)
    by true = sum_by-cons f x (filter p xs)
    by false = omega arith

sum_by_filter_sorted : {X : Type 0} (f : X → ℕ) (p : X → Bool) (xs ys : List X) → IsPermutation xs ys → sum_by f (filter p ys) ≡ sum_by f (filter p xs)
sum_by_filter_sorted f p xs ys order =
    sum_by_filter f p ys ∙ sum_by-IsPermutation (λ x. if p x then f x else 0) xs ys order ∙ sym (sum_by_filter f p xs)

-- the objective's terms, with this value as degree
abbrev bound_at : List Bool → CostRowValue → ConstraintValue
bound_at a r = record { terms = r.terms; degree = value a r.terms }

-- what is left of an objective is covered in any order of its terms
covers_sorted : (p g : ConstraintValue) (truths : List Literal) (a : List Bool) (r : CostRowValue) → IsPermutation r.terms g.terms → g.degree ≡ value a r.terms → Covers p (restriction g truths) ↔ Covers p (restriction (bound_at a r) truths)
covers_sorted p g truths a r order degree =
    let met : sum_by (met_value truths) g.terms ≡ sum_by (met_value truths) r.terms = sum_by-IsPermutation (met_value truths) r.terms g.terms order in
    let left : (b : List Bool) → value b (restriction g truths).terms ≡ value b (restriction (bound_at a r) truths).terms = λ b. sum_by_filter_sorted (term_value b) (λ t. not (is_set truths t.0.var)) r.terms g.terms order in
    let lowered : ConstraintValue.degree (restriction g truths) ≡ ConstraintValue.degree (restriction (bound_at a r) truths) = ap (λ (n : ℕ). n - sum_by (met_value truths) g.terms) degree ∙ ap (λ (n : ℕ). value a r.terms - n) met in
    (moved (restriction g truths) (restriction (bound_at a r) truths) left lowered, moved (restriction (bound_at a r) truths) (restriction g truths) (λ b. sym (left b)) (sym lowered))
  where
    moved : (q q' : ConstraintValue) → ((b : List Bool) → value b q.terms ≡ value b q'.terms) → q.degree ≡ q'.degree → Covers p q → Covers p q'
    moved q q' same degree covers b =
        let at : value b p.terms + q.degree ≤ value b q.terms + p.degree = covers b in
        let here : value b q.terms ≡ value b q'.terms = same b in
        omega arith

-- ---- one line

named_some : {X Y : Type 0} (f : X → Y) (o : Option X) (y : Y) → Some y ≡ option_map f o → (x : X) × (o ≡ Some x) × (y ≡ f x)
named_some f None y is = cc
named_some f (Some x) y is = (x, refl, cc)

named_none : {X Y : Type 0} (f : X → Y) (o : Option X) → None ≡ option_map f o → o ≡ None
named_none f None is = refl
named_none f (Some x) is = cc

-- what an id's line answers for one objective
abbrev IsOneFault : List Literal → List Bool → ℕ → CostRowValue → ℕ → Option Why → Option ConstraintValue → Type 0
IsOneFault cut a i r id fault named = MatchOption named (fault ≡ Some (NoSuchId id)) (λ c. (Bounds cut a c r × (fault ≡ None)) ⊎ ((Bounds cut a c r → ⊥) × (fault ≡ Some (CutOpen i))))

module _ (live : LineMap) (cut truths : List Literal) (a : List Bool) (i : ℕ) (r : CostRowValue) (id : ℕ) (same : truths ≡ map opposite cut) where
  module _ (line g bound : ConstraintValue) (named : Some line ≡ option_map (λ c. restriction c truths) (line_or_none live id)) (order : IsPermutation r.terms g.terms) (degree : g.degree ≡ value a r.terms) (left : bound ≡ restriction g truths) where
    is_named : (c : ConstraintValue) × (line_or_none live id ≡ Some c) × (line ≡ restriction c truths)
    is_named = named_some (λ c. restriction c truths) (line_or_none live id) line named

    -- a line of this id bounds the objective exactly where what is left of both is covered
    bounds_where : (c : ConstraintValue) → line ≡ restriction c truths → Covers line bound ↔ Bounds cut a c r
    bounds_where c is =
        let sorted = covers_sorted line g truths a r order degree in (
          (λ covers. subst (λ (ts : List Literal). Covers (restriction c ts) (restriction (bound_at a r) ts)) same
              (subst (λ (p : ConstraintValue). Covers p (restriction (bound_at a r) truths)) is (sorted.0 (subst (λ (q : ConstraintValue). Covers line q) left covers)))),
          (λ bounds. subst (λ (q : ConstraintValue). Covers line q) (sym left)
              (sorted.1 (subst (λ (p : ConstraintValue). Covers p (restriction (bound_at a r) truths)) (sym is)
              (subst (λ (ts : List Literal). Covers (restriction c ts) (restriction (bound_at a r) ts)) (sym same) bounds)))),
        )

    pub line_bounds : Covers line bound → IsCutFault live cut a i (r ∷ []) (id ∷ []) None
    line_bounds covers = subst (IsOneFault cut a i r id None) (sym is_named.1) (inl ((bounds_where is_named.0 is_named.2).0 covers, refl))

    pub line_bounds_not : (Covers line bound → ⊥) → IsCutFault live cut a i (r ∷ []) (id ∷ []) (Some (CutOpen i))
    line_bounds_not open' = subst (IsOneFault cut a i r id (Some (CutOpen i))) (sym is_named.1) (inr ((λ bounds. open' ((bounds_where is_named.0 is_named.2).1 bounds)), refl))

-- ---- line after line

module _ (live : LineMap) (cut : List Literal) (a : List Bool) where
  -- the objectives from the i-th on, counted from 0, with the ids from there on
  abbrev pub IsFaultFrom : List CostRowValue → List ℕ → ℕ → Option Why → Type 0
  IsFaultFrom costs ids i fault = IsCutFault live cut a (i + 1) (drop i costs) (drop i ids) fault

  module _ (i : ℕ) (r : CostRowValue) (rs : List CostRowValue) (id : ℕ) (ids : List ℕ) where
    stop_at : (why : Why) (named : Option ConstraintValue) → IsOneFault cut a i r id (Some why) named →
        MatchOption named (Some why ≡ Some (NoSuchId id)) (λ c. (Bounds cut a c r × IsCutFault live cut a (i + 1) rs ids (Some why)) ⊎ ((Bounds cut a c r → ⊥) × (Some why ≡ Some (CutOpen i))))
    stop_at why None is = is
    stop_at why (Some c) is = ⊎_elim
        (λ (fine : Bounds cut a c r × (◌≡◌ {A = Option Why} (Some why) None)). let never = fine.1 in cc)
        (λ (open' : (Bounds cut a c r → ⊥) × (Some why ≡ Some (CutOpen i))). inr open')
        is

    pass_at : (fault : Option Why) (named : Option ConstraintValue) → IsOneFault cut a i r id None named → IsCutFault live cut a (i + 1) rs ids fault →
        MatchOption named (fault ≡ Some (NoSuchId id)) (λ c. (Bounds cut a c r × IsCutFault live cut a (i + 1) rs ids fault) ⊎ ((Bounds cut a c r → ⊥) × (fault ≡ Some (CutOpen i))))
    pass_at fault None is rest = cc
    pass_at fault (Some c) is rest = ⊎_elim
        (λ (fine : Bounds cut a c r × (◌≡◌ {A = Option Why} None None)). inl (fine.0, rest))
        (λ (open' : (Bounds cut a c r → ⊥) × (◌≡◌ {A = Option Why} None (Some (CutOpen i)))). let never = open'.1 in cc)
        is

  module _ (costs : List CostRowValue) (ids : List ℕ) (i : ℕ) where
    module _ (r d : CostRowValue) (within : i < length costs) (at : r ≡ get_or costs i d) where
      here : drop i costs ≡ r ∷ drop (i + 1) costs
      here = drop_more costs i d within ∙ ap (λ (s : CostRowValue). s ∷ drop (i + 1) costs) (sym at)

      module _ (id e : ℕ) (inside : i < length ids) (id_at : id ≡ get_or ids i e) where
        id_here : drop i ids ≡ id ∷ drop (i + 1) ids
        id_here = drop_more ids i e inside ∙ ap (λ (j : ℕ). j ∷ drop (i + 1) ids) (sym id_at)

        put_there : (fault : Option Why) → IsCutFault live cut a (i + 1) (r ∷ drop (i + 1) costs) (id ∷ drop (i + 1) ids) fault → IsFaultFrom costs ids i fault
        put_there fault is =
            subst (λ (rs : List CostRowValue). IsCutFault live cut a (i + 1) rs (drop i ids) fault) (sym here)
            (subst (λ (js : List ℕ). IsCutFault live cut a (i + 1) (r ∷ drop (i + 1) costs) js fault) (sym id_here) is)

        pub cut_stops : (why : Why) → IsCutFault live cut a (i + 1) (r ∷ []) (id ∷ []) (Some why) → IsFaultFrom costs ids i (Some why)
        cut_stops why is = put_there (Some why) (stop_at (i + 1) r (drop (i + 1) costs) id (drop (i + 1) ids) why (line_or_none live id) is)

        pub cut_passes : IsCutFault live cut a (i + 1) (r ∷ []) (id ∷ []) None → (fault : Option Why) → IsFaultFrom costs ids (i + 1) fault → IsFaultFrom costs ids i fault
        cut_passes is fault rest = put_there fault (pass_at (i + 1) r (drop (i + 1) costs) id (drop (i + 1) ids) fault (line_or_none live id) is rest)

    -- an id is left
    pub cut_long : length costs ≤ i → i < length ids → IsFaultFrom costs ids i (Some (CutOpen (i + 1)))
    cut_long past inside =
        subst (λ (rs : List CostRowValue). IsCutFault live cut a (i + 1) rs (drop i ids) (Some (CutOpen (i + 1)))) (sym (drop_of_length-le costs past))
        (subst (λ (js : List ℕ). IsCutFault live cut a (i + 1) [] js (Some (CutOpen (i + 1)))) (sym (drop_more ids i 0 inside)) refl)

    -- neither an objective nor an id is left
    pub cut_done : length costs ≤ i → length ids ≤ i → IsFaultFrom costs ids i None
    cut_done past none =
        subst (λ (rs : List CostRowValue). IsCutFault live cut a (i + 1) rs (drop i ids) None) (sym (drop_of_length-le costs past))
        (subst (λ (js : List ℕ). IsCutFault live cut a (i + 1) [] js None) (sym (drop_of_length-le ids none)) refl)

-- literals of rising variables, negated, are of distinct variables
pub opposites_distinct : (cut : List Literal) → AllPairs (λ l m. l.var < m.var) cut → AllPairs (λ l m. l.var ≡ m.var → ⊥) (map opposite cut)
opposites_distinct cut rising = AllPairs-map (λ l m. l.var ≡ m.var → ⊥) opposite opposite cut (λ i j d less short same. let below : (get_or cut i d).var < (get_or cut j d).var = rising i j d less short in absurd (omega arith))

-- an objective's value is below 2^63
pub value_small : (a : List Bool) (r : CostRowValue) → IsCostRow r.terms r.offset → value a r.terms < 2 ^ 63
value_small a r row =
    let most : value a r.terms ≤ total r.terms = sum_by-le-sum_by (term_value a) (λ t. t.1) r.terms (term_value-le a) in
    let small : total r.terms < 2 ^ 63 = row.small in
    omega arith

-- an objective's terms in rising order are in normal form, with its value as degree
pub bound_normal : (a : List Bool) (r : CostRowValue) (terms : List (Literal × ℕ)) → IsCostRow r.terms r.offset → IsPermutation r.terms terms → AllPairs (λ s t. s.0.var < t.0.var) terms → IsNormal terms (value a r.terms)
bound_normal a r terms row order rising = record {
  merged = record {
    positive = All-permutation (λ t. 0 < t.1) r.terms terms order row.positive;
    from_one = All-permutation (λ t. 0 < t.0.var) r.terms terms order row.from_one;
    rising = rising;
  };
  small =
      let same : total terms ≡ total r.terms = sum_by-IsPermutation (λ t. t.1) r.terms terms order in
      let few : total r.terms < 2 ^ 63 = row.small in
      let most : value a r.terms < 2 ^ 63 = value_small a r row in
      omega arith;
}
