-- The next output over a core's literals.
use Rattle.std.proofs.Common.{◌≡◌, ⊎_elim, ℕ, ◌+◌, ◌-◌, ◌<◌, ◌≤◌, ◌==◌, true, false, not, Some, List, [], ◌∷◌, ◌++◌, map, length, get_or, refl, ap, sym, subst, ◌∙◌, arith, append_assoc, ℤ, pos}
use Rattle.std.specs.Prelude.{◌^◌, ◌<ℤ◌}
use Rattle.std.specs.List.{All}
use Rattle.std.proofs.lemmas.Bool.{cond-false, cases_lt, ne_eqb}
use Rattle.std.proofs.lemmas.Int.{ints}
use Rattle.std.proofs.lemmas.List.{get_or_append_left, get_or-append_right, length-append}
use Rattle.std.proofs.lemmas.List.Elements.{All-nil, All-cons, All-append}
use Rattle.std.proofs.lemmas.List.Sorted.{sum_by-IsPermutation}
use Rattle.scut_base.specs.Literal.{Literal}
use Rattle.pb_lin.specs.Constraint.{ConstraintValue, IsVariable, ones, opposite, term_value, total}
use Rattle.pb_lin.specs.Problem.{ProblemValue}
use Rattle.pb_lin.proofs.Unique.{unique}
use Rattle.cutting_planes.proofs.Terms.{Terms}
use Rattle.proof_laws.specs.State.{StateValue}
use Rattle.proof_laws.specs.Steps.{reached_if, term_of}
use Rattle.proof_laws.proofs.Ranges.{all_prefix}
use Rattle.proof_rules.specs.Recording.{Snapshot}
use Rattle.sum_outputs.specs.Adding.{Continues, IsReached, IsReady}
use Rattle.sum_outputs.specs.Outputs.{IsInOrder}
use Rattle.sum_outputs.specs.Totals.{AreWeights, IsLeastSum}
use Rattle.sum_outputs.specs.declared.node.Node.{Node}
use Rattle.sum_outputs.proofs.AskedLists.{least_once}
use Rattle.sum_outputs.proofs.LaterStates.{ready_later}
use Rattle.sum_outputs.proofs.MadeLists.{any_node}
use Rattle.totalizer.specs.declared.bound.Bound.{Bound}
use Rattle.totalizer.specs.declared.bound.Bound.TheVariants.{Always, Never, At}
use Rattle.totalizer.specs.Demanding.{AddsDemanded, AddsFor, IsDemanded, IsThere}
use Rattle.totalizer.specs.Keeping.{KeepsOwn}
use Rattle.totalizer.specs.Meaning.{IsBound, IsBoundAt, IsDefinedFor}
use Rattle.totalizer.specs.Totalizing.{Fits, TotalizerValue, root_terms, terms_of}
use Rattle.totalizer.proofs.LawsKept.{bounds_stay_law, fitting_stays_law}
use Rattle.totalizer.proofs.Roots.{root_is, some_nodes}
use Rattle.search_base.proofs.BoundLines.{output_cases}
use Rattle.search_base.proofs.TurnLines.{own_law, totalizer_lines}
use Rattle.core_boosting.specs.declared.counting.Counted.{Counted}
use Rattle.core_boosting.specs.Counting.{AddsOutput, CountsNow, HasNext, HasVariablesNow, IsLiveNow, counting, reaching}
use Rattle.core_boosting.proofs.Countings.{constraint_same, scaled_total}
use Rattle.core_boosting.proofs.Exchanges.{pairs_append}
use Rattle.core_boosting.proofs.Literals.{AreRising, ones_attain, ones_long, ones_normal, ones_weights, rising_first}
use Rattle.core_boosting.proofs.LiveLines.{still_live, still_variables}

-- ---- outputs of literals

-- as many of them as are asked for can be true, and no fewer are as many
least_is : (lits : List Literal) (n : ℕ) → AreWeights (ones lits) → n ≤ length lits → IsLeastSum (ones lits) n n
least_is lits n weights most = record {
  attainable = ones_attain lits n weights most;
  reaches = omega arith;
  least = λ m can le. le;
}

-- the first line of an output's definition
reached_is : (lits : List Literal) (l : Literal) (sum : ConstraintValue) → AreRising lits → All (λ m. 0 < m.var) lits →
    length lits ≤ 2 ^ 40 → IsInOrder (ones lits) sum.degree sum → 0 < sum.degree →
    l ≡ record { var = l.var; neg = false } → reached_if l.var sum ≡ reaching lits (opposite l) sum.degree
reached_is lits l sum rising from_one few order some positive =
    let last : Literal = record { var = l.var; neg = true } in
    let normal = ones_normal lits 0 rising from_one (omega arith) in
    let terms = unique sum (record { terms = ones lits; degree = 0 }) order.normal normal 0 0
    (λ x. let same = sum_by-IsPermutation (term_value x) (ones lits) sum.terms order.order in omega arith) in
    let against : last ≡ opposite l = ap (λ (m : Literal). let n : Literal = record { var = l.var; neg = not m.neg } in n) (sym positive) in
    let end : term_of last sum.degree ≡ (opposite l, sum.degree) ∷ [] =
    cond-false (sum.degree == 0) [] ((last, sum.degree) ∷ []) (ne_eqb sum.degree 0 (λ e. omega arith))
    ∙ ap (λ (m : Literal). (m, sum.degree) ∷ []) against in
    constraint_same (sum.terms ++ term_of last sum.degree) (ones lits ++ (opposite l, sum.degree) ∷ []) sum.degree sum.degree
    (ap (λ (ts : Terms). ts ++ term_of last sum.degree) terms.0 ∙ ap (λ (ts : Terms). ones lits ++ ts) end) refl

-- ---- the next one

module _ (a b : Snapshot) (ready : IsReady a) (t u : TotalizerValue) (c : Counted) (lits : List Literal)
    (so : CountsNow a lits t c) (more : length c.outputs + 1 < length lits) (on : Continues a b) (nodes : u.nodes ≡ t.nodes) where
  abbrev n : ℕ
  n = length c.outputs + 2

  rising : AreRising lits
  rising = rising_first lits c.outputs so.rising

  from_one : All (λ l. 0 < l.var) lits
  from_one k d short =
      let has = all_prefix (λ l. IsVariable ready.state.vars l.var) lits c.outputs (so.variables ready.state ready.reached) k d short in
      has.0

  weights : AreWeights (ones lits)
  weights = ones_weights lits rising from_one (let few = so.few in omega arith)

  terms_now : terms_of u ≡ ones lits
  terms_now = ap root_terms nodes ∙ so.terms

  abbrev IsBoundNow : Bound → Type 0
  IsBoundNow bound = IsBound b.problem b.lines (terms_of t) (pos n) bound

  never_always : (id : ℕ) → IsBoundNow (Always id) → ⊥
  never_always id is = let low = is.0 in absurd (omega (arith, ints))

  never_never : IsBoundNow Never → ⊥
  never_never is =
      let here : pos (total (ones lits)) <ℤ pos n = subst (λ (ts : Terms). pos (total ts) <ℤ pos n) so.terms is in
      let all = scaled_total 1 lits in
      absurd (omega (arith, ints))

  some_output : (bound : Bound) → IsBoundNow bound → ((l : Literal) (id : ℕ) → bound ≡ At l id → ⊥) → ⊥
  some_output (Always id) is none = never_always id is
  some_output Never is none = never_never is
  some_output (At l id) is none = none l id refl

  -- there are as many literals, so there is an output
  pub not_output : (k : ℤ) → k ≡ pos n → (bound : Bound) → IsBound b.problem b.lines (terms_of t) k bound →
      ((l : Literal) (id : ℕ) → bound ≡ At l id → ⊥) → ⊥
  not_output k asked bound is = some_output bound (subst (λ (z : ℤ). IsBound b.problem b.lines (terms_of t) z bound) asked is)

  abbrev root : ℕ
  root = length u.nodes - 1

  some_node : 0 < length u.nodes
  some_node =
      let sizes = ap (λ (ts : Terms). length ts) terms_now in
      let long = ones_long lits in
      some_nodes u.nodes (omega arith)

  long_terms : 1 < length (terms_of u)
  long_terms =
      let sizes = ap (λ (ts : Terms). length ts) terms_now in
      let long = ones_long lits in
      omega arith

  there_before : (k : ℕ) (m : Literal) → IsThere t.made root k m → k ≤ length c.outputs + 1
  there_before k m has = so.sums k m (omega arith) (subst (λ (ns : List Node). IsThere t.made (length ns - 1) k m) nodes has)

  module _ (k : ℤ) (asked : k ≡ pos n) (answer : Bound) (given : IsBound b.problem b.lines (terms_of t) k answer)
      (adds : AddsFor a b k t u answer) (l : Literal) (id : ℕ) (is_at : answer ≡ At l id) where
    is : IsBoundNow (At l id)
    is = subst IsBoundNow is_at (subst (λ (z : ℤ). IsBound b.problem b.lines (terms_of t) z answer) asked given)

    added : AddsFor a b (pos n) t u (At l id)
    added = subst (λ (bound : Bound). AddsFor a b (pos n) t u bound) is_at (subst (λ (z : ℤ). AddsFor a b z t u answer) asked adds)

    bound : IsBound b.problem b.lines (ones lits) (pos n) (At l id)
    bound = subst (λ (ts : Terms). IsBound b.problem b.lines ts (pos n) (At l id)) so.terms is

    at : (s : StateValue) → IsReached b s → IsBoundAt b.problem b.lines s (ones lits) n l id
    at s reached =
        let same : bound.0 ≡ n = let e = bound.1 in omega (arith, ints) in
        subst (λ (m : ℕ). IsBoundAt b.problem b.lines s (ones lits) m l id) same (bound.4 s reached)

    defined : (s : StateValue) → IsReached b s → IsDefinedFor b.problem s (ones lits) n l id
    defined s reached =
        let all = scaled_total 1 lits in
        let output = (at s reached).output in ⊎_elim
        (λ (leaf : (weight : ℕ) × (ones lits ≡ (l, weight) ∷ []) × (id ≡ 0) × (n ≤ weight)).
        let sizes = ap (λ (ts : Terms). length ts) leaf.1 in
        let long = ones_long lits in
        absurd (omega arith))
        (λ (has : (1 < length (ones lits)) × IsDefinedFor b.problem s (ones lits) n l id). has.1)
        (output_cases b.problem s (ones lits) n l id (omega arith) (omega arith) output)

    reaches : IsLiveNow b id (reaching lits (opposite l) n)
    reaches s reached =
        let has = defined s reached in
        let least = has.least in
        let enough = least.reaches in
        let sums : has.sum.degree ≡ n = least_once (ones lits) n has.sum.degree n has.least (least_is lits n weights (omega arith)) in
        has.line ∙ ap (λ (d : ConstraintValue). Some d)
        (reached_is lits l has.sum rising from_one so.few has.order (omega arith) has.positive
        ∙ ap (λ (m : ℕ). reaching lits (opposite l) m) sums)

    demanded : AddsDemanded a b n t u l
    demanded =
        let same : added.0 ≡ n = let e = added.1 in omega (arith, ints) in
        subst (λ (m : ℕ). AddsDemanded a b m t u l) same added.2

    -- its variable is new
    pub new : (s : StateValue) → IsReached a s → s.vars < l.var
    new s reached =
        let least : IsLeastSum (terms_of u) n n = subst (λ (ts : Terms). IsLeastSum ts n n) (sym terms_now) (least_is lits n weights (omega arith)) in
        let there = demanded.answered long_terms n least in
        let makes = demanded.makes in ⊎_elim
        (λ (old : IsThere t.made root n l). let most = there_before n l old in absurd (omega arith))
        (λ (fresh : IsDemanded u.nodes n root n × ((r : StateValue) → IsReached a r → r.vars < l.var)). fresh.1 s reached)
        (makes.new root n l (let some = some_node in omega arith) there)

    sums_now : (j : ℕ) (m : Literal) → IsThere u.made root j m → j ≤ n
    sums_now j m has =
        let makes = demanded.makes in
        let some = some_node in ⊎_elim
        (λ (old : IsThere t.made root j m). let most = there_before j m old in omega arith)
        (λ (fresh : IsDemanded u.nodes n root j × ((r : StateValue) → IsReached a r → r.vars < m.var)). ⊎_elim
        (λ (last : (root + 1 ≡ length u.nodes) × IsLeastSum (get_or u.nodes root any_node).terms n j).
        let least : IsLeastSum (ones lits) n j = subst (λ (ts : Terms). IsLeastSum ts n j) (sym (root_is u.nodes any_node some) ∙ terms_now) last.1 in
        least.least n (ones_attain lits n weights (omega arith)) (omega arith))
        (λ inner. absurd (let low = inner.0 in omega arith))
        (fresh.0 any_node))
        (makes.new root j m (omega arith) has)

    abbrev outputs : List Literal
    outputs = c.outputs ++ l ∷ []

    rising_now : AreRising (lits ++ outputs)
    rising_now = subst AreRising (append_assoc lits c.outputs (l ∷ []))
        (pairs_append (λ m j. m.var < j.var) (lits ++ c.outputs) (l ∷ []) so.rising (λ i j d before short. absurd (omega arith))
        (λ i d short. All-cons (λ m. (get_or (lits ++ c.outputs) i d).var < m.var) l []
        (let here = so.variables ready.state ready.reached i d short in let most = here.1 in let above = new ready.state ready.reached in omega arith)
        (All-nil (λ m. (get_or (lits ++ c.outputs) i d).var < m.var))))

    variables_now : HasVariablesNow b (lits ++ outputs)
    variables_now s reached = subst (λ (ls : List Literal). All (λ m. IsVariable s.vars m.var) ls) (append_assoc lits c.outputs (l ∷ []))
        (All-append (λ m. IsVariable s.vars m.var) (lits ++ c.outputs) (l ∷ [])
        (still_variables a b on ready (lits ++ c.outputs) so.variables s reached)
        (All-cons (λ m. IsVariable s.vars m.var) l [] (at s reached).variable (All-nil (λ m. IsVariable s.vars m.var))))

    module _ (whole : b.broken ≡ false) where
      ready_now : IsReady b
      ready_now = ready_later a b ready on whole

      pub has_next : HasNext b lits c l id
      has_next = record {
        few = so.few;
        more = more;
        rising = rising_now;
        from_one = λ i d short. let has = variables_now ready_now.state ready_now.reached i d short in has.0;
        counts = still_live a b on ready c.line (counting lits (map opposite c.outputs)) so.line;
        reaches = reaches;
      }

      module _ (fits : Fits b u) (e : Snapshot) (then : Continues b e) (d : Counted) (has : d.outputs ≡ outputs)
          (line : IsLiveNow e d.line (counting lits (map opposite outputs))) where
        keeps : KeepsOwn b.problem b.lines e.lines
        keeps = own_law b.problem b.lines e.lines (totalizer_lines b e then)

        -- of an output that was there already in b
        stays : (j : ℕ) (m : Literal) (i : ℕ) → IsBound b.problem b.lines (ones lits) (pos j) (At m i) → IsBound e.problem e.lines (ones lits) (pos j) (At m i)
        stays j m i old = subst (λ (p : ProblemValue). IsBound p e.lines (ones lits) (pos j) (At m i)) (sym then.problem)
            (bounds_stay_law b.problem b.lines e.lines ready_now.state (ones lits) (pos j) (At m i) keeps ready_now.reached old)

        stays_first : (j : ℕ) (m : Literal) (i : ℕ) → IsBound a.problem a.lines (ones lits) (pos j) (At m i) → IsBound b.problem b.lines (ones lits) (pos j) (At m i)
        stays_first j m i old = subst (λ (p : ProblemValue). IsBound p b.lines (ones lits) (pos j) (At m i)) (sym on.problem)
            (bounds_stay_law a.problem a.lines b.lines ready.state (ones lits) (pos j) (At m i)
            (own_law a.problem a.lines b.lines (totalizer_lines a b on)) ready.reached old)

        abbrev HasBound : ℕ → Literal → Type 0
        HasBound j m = (i : ℕ) × IsBound e.problem e.lines (ones lits) (pos j) (At m i)

        bounds_now : (i : ℕ) (f : Literal) → i < length outputs → HasBound (i + 2) (get_or outputs i f)
        bounds_now i f short = ⊎_elim
            (λ (early : i < length c.outputs).
            let old = so.bounds i f early in
            subst (HasBound (i + 2)) (sym (get_or_append_left c.outputs (l ∷ []) f i early))
            (old.0, stays (i + 2) (get_or c.outputs i f) old.0 (stays_first (i + 2) (get_or c.outputs i f) old.0 old.1)))
            (λ (late : length c.outputs ≤ i).
            let long = length-append c.outputs (l ∷ []) in
            let here : i ≡ length c.outputs = omega arith in
            let last : get_or outputs i f ≡ l = get_or-append_right c.outputs (l ∷ []) (length c.outputs) i f refl late
            ∙ ap (λ (j : ℕ). get_or (l ∷ []) j f) (let z : i - length c.outputs ≡ 0 = omega arith in z) in
            subst (HasBound (i + 2)) (sym last)
            (subst (λ (j : ℕ). HasBound j l) (let z : n ≡ i + 2 = omega arith in z) (id, stays n l id bound)))
            (cases_lt i (length c.outputs))

        pub counts_now : CountsNow e lits u d
        counts_now = record {
          few = so.few;
          terms = terms_now;
          fits = fitting_stays_law b e ready_now.state u then.problem keeps ready_now.reached fits;
          rising = subst (λ (os : List Literal). AreRising (lits ++ os)) (sym has) rising_now;
          variables = subst (λ (os : List Literal). HasVariablesNow e (lits ++ os)) (sym has)
              (still_variables b e then ready_now (lits ++ outputs) variables_now);
          sums = λ j m long there.
              let most = sums_now j m there in
              let sizes = ap (λ (os : List Literal). length os) has in
              let one = length-append c.outputs (l ∷ []) in
              omega arith;
          bounds = λ i f short. subst (λ (os : List Literal). HasBound (i + 2) (get_or os i f)) (sym has)
              (bounds_now i f (let sizes = ap (λ (os : List Literal). length os) has in omega arith));
          line = subst (λ (os : List Literal). IsLiveNow e d.line (counting lits (map opposite os))) (sym has) line;
        }

    pub adds_output : (d : Counted) → d.outputs ≡ outputs → AddsOutput a c d
    adds_output d has = record { output = l; is = has; new = new }
