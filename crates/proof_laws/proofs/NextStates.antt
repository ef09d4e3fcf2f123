-- The next state is a state, and fits the problem.
use Rattle.std.proofs.Common.{◌≡◌, ◌⊎◌, ℕ, zero, suc, ◌+◌, ◌^◌, ◌<◌, ◌≤◌, ◌==◌, eqb, true, false, not, Option, Some, None, List, [], ◌∷◌, ◌++◌, map, length, get_or, fold, refl, arith, sym, subst, ap, ◌∙◌, inl, inr, ⊎_elim, ℤ}
use Rattle.std.specs.Prelude.{nat_lt, ◌&&◌, option_map}
use Rattle.std.specs.List.{All, AllPairs, find}
use Rattle.std.specs.FinMap.{get, insert, remove, contains_key}
use Rattle.std.proofs.lemmas.Bool.{cases_Bool, cond-true, cond-false, eqb-true, ne_eqb, ltb-true, ltb-false, not-true, not-false, and_parts}
use Rattle.std.proofs.lemmas.List.{length-map, append-nil, get_or-map}
use Rattle.std.proofs.lemmas.List.Elements.{All-nil, All-cons, All-head, All-tail, All-append, All-map}
use Rattle.std.proofs.lemmas.List.Quantifiers.{all_pairs_push}
use Rattle.std.proofs.lemmas.List.Sums.{sum_by-cons}
use Rattle.scut_base.specs.Literal.{Literal}
use Rattle.pb_lin.specs.Constraint.{ConstraintValue, IsNormal, TermsUpTo, opposite, size, total}
use Rattle.pb_lin.specs.Problem.{ProblemValue}
use Rattle.proof_laws.specs.State.{StateValue, IsState, Fits, RowsLive, HasContradiction, IsContradiction}
use Rattle.proof_laws.specs.Steps.{counted, with_live, with_line, with_learned, with_definition, with_solution, without_lines, with_end, term_of, missed_by, reached_if, reached_only_if, clause}
use Rattle.proof_laws.specs.Refusal.{size_fault, is_deletable, deletion_fault, end_fault}
use Rattle.proof_laws.specs.declared.why.Why.TheVariants.{Overflow, NoSuchId, NotContradiction}
use Rattle.proof_laws.proofs.Live.{live_insert}
use Rattle.proof_laws.proofs.Derivations.{unless_none}
use Rattle.proof_laws.proofs.Definitions.{zero_or_more}
use Rattle.proof_laws.proofs.KeptWithin.{insert_rows_live, delete_rows_live}
use Rattle.proof_laws.proofs.NextCovers.{fewer_left}
use Rattle.proof_laws.proofs.NextFits.{live_insert_at}

-- a size that is no fault
pub size_within : (n : ℕ) → size_fault n ≡ None → n ≤ 2 ^ 100
size_within n e = ltb-false (2 ^ 100) n (not-true (nat_lt (2 ^ 100) n) (unless_none (not (nat_lt (2 ^ 100) n)) Overflow e))

-- ---- states

module _ (s : StateValue) (state : IsState s) (short : s.lines < 2 ^ 61) (open' : s.ended ≡ false) where
  never_ended : s.ended ≡ true → ⊥
  never_ended e = cc

  live_ids : (c : ConstraintValue) (i : ℕ) (d : ConstraintValue) → get (insert s.live s.next_id c) i ≡ Some d → (0 < i) × (i < s.next_id + 1)
  live_ids c = live_insert_at (λ i d. (0 < i) × (i < s.next_id + 1)) s.live s.next_id c (let first = state.first_id in (omega arith, omega arith)) (λ i d is. let old = state.ids i d is in (omega arith, omega arith))

  pub line_is_state : (c : ConstraintValue) → IsNormal c.terms c.degree → TermsUpTo s.vars c.terms → IsState (with_line s c)
  line_is_state c normal upto = record {
    ids = live_ids c;
    normal = λ i d is. live_insert (λ e. IsNormal e.terms e.degree) s.live s.next_id c normal state.normal i d is;
    variables = λ i d is. live_insert (λ e. TermsUpTo s.vars e.terms) s.live s.next_id c upto state.variables i d is;
    first_id = omega arith;
    next_id = let old = state.next_id in omega arith;
    vars = let old = state.vars in omega arith;
    learned = let old = state.learned in omega arith;
    lines = omega arith;
    ended = λ e. absurd (never_ended e);
  }

  pub learned_is_state : (c : ConstraintValue) → IsNormal c.terms c.degree → TermsUpTo s.vars c.terms → IsState (with_learned s c)
  learned_is_state c normal upto = let line = line_is_state c normal upto in record {
    ids = line.ids;
    normal = line.normal;
    variables = line.variables;
    first_id = line.first_id;
    next_id = line.next_id;
    vars = line.vars;
    learned = let old = state.learned in omega arith;
    lines = line.lines;
    ended = λ e. absurd (never_ended e);
  }

  pub solution_is_state : (cut : List Literal) (costs : List ℤ) → IsNormal (clause cut).terms (clause cut).degree → TermsUpTo s.vars (clause cut).terms → IsState (with_solution s cut costs)
  solution_is_state cut costs normal upto = let line = line_is_state (clause cut) normal upto in record {
    ids = line.ids;
    normal = line.normal;
    variables = line.variables;
    first_id = line.first_id;
    next_id = line.next_id;
    vars = line.vars;
    learned = line.learned;
    lines = line.lines;
    ended = λ e. absurd (never_ended e);
  }

  pub definition_is_state : (sum : ConstraintValue) → (c d : ConstraintValue) → c ≡ reached_if (s.vars + 1) sum → d ≡ reached_only_if (s.vars + 1) sum → IsNormal c.terms c.degree → IsNormal d.terms d.degree → TermsUpTo (s.vars + 1) c.terms → TermsUpTo (s.vars + 1) d.terms → IsState (with_definition s sum)
  definition_is_state sum c d is_c is_d normal_c normal_d upto_c upto_d =
      subst (λ (e : ConstraintValue). IsState (counted 2 (record (with_live (with_live s s.next_id (reached_if (s.vars + 1) sum)) (s.next_id + 1) e) { vars = s.vars + 1 }))) is_d
      (subst (λ (e : ConstraintValue). IsState (counted 2 (record (with_live (with_live s s.next_id e) (s.next_id + 1) d) { vars = s.vars + 1 }))) is_c (record {
        ids = live_insert_at (λ i e. (0 < i) × (i < s.next_id + 2)) (insert s.live s.next_id c) (s.next_id + 1) d (omega arith, omega arith) (λ i e is. let old = live_ids c i e is in (omega arith, omega arith));
        normal = λ i e is. live_insert (λ f. IsNormal f.terms f.degree) (insert s.live s.next_id c) (s.next_id + 1) d normal_d (live_insert (λ f. IsNormal f.terms f.degree) s.live s.next_id c normal_c state.normal) i e is;
        variables = λ i e is. live_insert (λ f. TermsUpTo (s.vars + 1) f.terms) (insert s.live s.next_id c) (s.next_id + 1) d upto_d
            (live_insert (λ f. TermsUpTo (s.vars + 1) f.terms) s.live s.next_id c upto_c (λ j f found k t less. let old = state.variables j f found k t less in omega arith)) i e is;
        first_id = omega arith;
        next_id = let old = state.next_id in omega arith;
        vars = let old = state.vars in omega arith;
        learned = let old = state.learned in omega arith;
        lines = omega arith;
        ended = λ e. absurd (never_ended e);
      }))

  pub fewer_is_state : (ids : List ℕ) → IsState (without_lines s ids)
  fewer_is_state ids = record {
    ids = λ i d is. let old = state.ids i d (fewer_left ids s.live i d is) in (old.0, omega arith);
    normal = λ i d is. state.normal i d (fewer_left ids s.live i d is);
    variables = λ i d is. state.variables i d (fewer_left ids s.live i d is);
    first_id = let old = state.first_id in omega arith;
    next_id = let old = state.next_id in omega arith;
    vars = let old = state.vars in omega arith;
    learned = let old = state.learned in omega arith;
    lines = omega arith;
    ended = λ e. absurd (never_ended e);
  }

  pub end_is_state : HasContradiction s → IsState (with_end s)
  end_is_state has = record {
    ids = λ i d is. let old = state.ids i d is in (old.0, omega arith);
    normal = state.normal;
    variables = state.variables;
    first_id = let old = state.first_id in omega arith;
    next_id = let old = state.next_id in omega arith;
    vars = let old = state.vars in omega arith;
    learned = let old = state.learned in omega arith;
    lines = omega arith;
    ended = λ e. has;
  }

-- a line that may end the proof is a contradiction
no_terms : (terms : List (Literal × ℕ)) → length terms ≡ 0 → terms ≡ []
no_terms [] e = refl
no_terms (t ∷ terms) e = absurd (omega arith)

contradiction_of : (found : Option ConstraintValue) (id : ℕ) → end_fault found id ≡ None → (c : ConstraintValue) × (found ≡ Some c) × IsContradiction c
contradiction_of None id e = cc
contradiction_of (Some c) id e =
    let both = and_parts (length c.terms == 0) (nat_lt 0 c.degree) (unless_none (length c.terms == 0 && nat_lt 0 c.degree) (NotContradiction id) e) in
    (c, refl, (no_terms c.terms (eqb-true (length c.terms) 0 both.0), ltb-true 0 c.degree both.1))

pub ends_by_contradiction : (s : StateValue) (id : ℕ) → end_fault (get s.live id) id ≡ None → HasContradiction s
ends_by_contradiction s id e = let found = contradiction_of (get s.live id) id e in (id, found.0, found.1, found.2)

-- ---- constraints that lines make

-- a term of the next variable after these
next_rising : (terms : List (Literal × ℕ)) (n : ℕ) (l : Literal) (k : ℕ) → l.var ≡ n + 1 → TermsUpTo n terms → AllPairs (λ s t. s.0.var < t.0.var) terms → AllPairs (λ s t. s.0.var < t.0.var) (terms ++ term_of l k)
next_rising terms n l k var upto rising = ⊎_elim
    (λ (none : k ≡ 0). subst (λ (ts : List (Literal × ℕ)). AllPairs (λ s t. s.0.var < t.0.var) ts) (sym (ap (λ (j : ℕ). terms ++ term_of l j) none ∙ append-nil terms)) rising)
    (λ (more : 0 < k). let one : term_of l k ≡ (l, k) ∷ [] = cond-false (eqb k 0) [] ((l, k) ∷ []) (ne_eqb k 0 (λ e. omega arith)) in
    subst (λ (ts : List (Literal × ℕ)). AllPairs (λ s t. s.0.var < t.0.var) (terms ++ ts)) (sym one) (all_pairs_push (λ s t. s.0.var < t.0.var) terms (l, k) rising (λ i d less. let w = upto i d less in omega arith)))
    (zero_or_more k)

-- what holds of the one term, if it is there
all_term_of : (P : Literal × ℕ → Type 0) (l : Literal) (k : ℕ) → (0 < k → P (l, k)) → All P (term_of l k)
all_term_of P l k holds = ⊎_elim
    (λ (none : k ≡ 0). subst (λ (ts : List (Literal × ℕ)). All P ts) (sym (cond-true (eqb k 0) [] ((l, k) ∷ []) (ap (λ (j : ℕ). eqb j 0) none))) (All-nil P))
    (λ (more : 0 < k). subst (λ (ts : List (Literal × ℕ)). All P ts) (sym (cond-false (eqb k 0) [] ((l, k) ∷ []) (ne_eqb k 0 (λ e. omega arith)))) (All-cons P (l, k) [] (holds more) (All-nil P)))
    (zero_or_more k)

pub joined_normal : (terms : List (Literal × ℕ)) (n : ℕ) (l : Literal) (k degree : ℕ) → l.var ≡ n + 1 → TermsUpTo n terms → All (λ t. 0 < t.1) terms → All (λ t. 0 < t.0.var) terms → AllPairs (λ s t. s.0.var < t.0.var) terms →
    total (terms ++ term_of l k) + degree ≤ 2 ^ 100 → IsNormal (terms ++ term_of l k) degree
joined_normal terms n l k degree var upto positive from_one rising small = record {
  merged = record {
    positive = All-append (λ t. 0 < t.1) terms (term_of l k) positive (all_term_of (λ t. 0 < t.1) l k (λ more. more));
    from_one = All-append (λ t. 0 < t.0.var) terms (term_of l k) from_one (all_term_of (λ t. 0 < t.0.var) l k (λ more. omega arith));
    rising = next_rising terms n l k var upto rising;
  };
  small = small;
}

pub joined_upto : (terms : List (Literal × ℕ)) (n : ℕ) (l : Literal) (k : ℕ) → l.var ≡ n + 1 → TermsUpTo n terms → TermsUpTo (n + 1) (terms ++ term_of l k)
joined_upto terms n l k var upto = All-append (λ t. t.0.var ≤ n + 1) terms (term_of l k) (λ i d less. let w = upto i d less in omega arith) (all_term_of (λ t. t.0.var ≤ n + 1) l k (λ more. omega arith))

-- opposite literals have the same variables
abbrev opposite_term : Literal × ℕ → Literal × ℕ
opposite_term t = (opposite t.0, t.1)

abbrev unit_term : Literal → Literal × ℕ
unit_term l = (l, 1)

abbrev opposites : List (Literal × ℕ) → List (Literal × ℕ)
opposites terms = map (λ t. (opposite t.0, t.1)) terms

opposites_rising : (terms : List (Literal × ℕ)) → AllPairs (λ s t. s.0.var < t.0.var) terms → AllPairs {X = Literal × ℕ} (λ s t. s.0.var < t.0.var) (opposites terms)
opposites_rising terms rising i j d before within =
    let inside : j < length terms = omega (arith, length-map terms opposite_term) in
    let first : (get_or (opposites terms) i d).0.var ≡ (get_or terms i d).0.var = ap (λ (t : Literal × ℕ). t.0.var) (get_or-map opposite_term terms i d d (omega arith)) in
    let second : (get_or (opposites terms) j d).0.var ≡ (get_or terms j d).0.var = ap (λ (t : Literal × ℕ). t.0.var) (get_or-map opposite_term terms j d d inside) in
    let rise = rising i j d before inside in
    omega arith

pub upper_is_normal : (n : ℕ) (sum : ConstraintValue) → IsNormal sum.terms sum.degree → TermsUpTo n sum.terms → size (reached_if (n + 1) sum) ≤ 2 ^ 100 → IsNormal (reached_if (n + 1) sum).terms (reached_if (n + 1) sum).degree
upper_is_normal n sum normal upto small = joined_normal sum.terms n (record { var = n + 1; neg = true }) sum.degree sum.degree refl upto normal.merged.positive normal.merged.from_one normal.merged.rising small

pub lower_is_normal : (n : ℕ) (sum : ConstraintValue) → IsNormal sum.terms sum.degree → TermsUpTo n sum.terms → size (reached_only_if (n + 1) sum) ≤ 2 ^ 100 → IsNormal (reached_only_if (n + 1) sum).terms (reached_only_if (n + 1) sum).degree
lower_is_normal n sum normal upto small = joined_normal (opposites sum.terms) n (record { var = n + 1; neg = false }) (missed_by sum) (missed_by sum) refl
    (All-map (λ t. t.0.var ≤ n) opposite_term sum.terms upto)
    (All-map (λ t. 0 < t.1) opposite_term sum.terms normal.merged.positive)
    (All-map (λ t. 0 < t.0.var) opposite_term sum.terms normal.merged.from_one)
    (opposites_rising sum.terms normal.merged.rising) small

pub upper_upto : (n : ℕ) (sum : ConstraintValue) → TermsUpTo n sum.terms → TermsUpTo (n + 1) (reached_if (n + 1) sum).terms
upper_upto n sum upto = joined_upto sum.terms n (record { var = n + 1; neg = true }) sum.degree refl upto

pub lower_upto : (n : ℕ) (sum : ConstraintValue) → TermsUpTo n sum.terms → TermsUpTo (n + 1) (reached_only_if (n + 1) sum).terms
lower_upto n sum upto = joined_upto (opposites sum.terms) n (record { var = n + 1; neg = false }) (missed_by sum) refl (All-map (λ t. t.0.var ≤ n) opposite_term sum.terms upto)

-- ---- clauses

-- literals of rising variables between m and n are no more than these
rising_count : (m n : ℕ) (lits : List Literal) → All (λ l. (m < l.var) × (l.var ≤ n)) lits → AllPairs (λ l k. l.var < k.var) lits → length lits + m ≤ n ⊎ (lits ≡ [])
rising_count m n [] between rising = inr refl
rising_count m n (l ∷ lits) between rising =
    let here = All-head (λ k. (m < k.var) × (k.var ≤ n)) l lits between in
    let later : All (λ k. (l.var < k.var) × (k.var ≤ n)) lits = λ i d less. (rising 0 (suc i) d (omega arith) (omega arith), (between (suc i) d (omega arith)).1) in
    inl (⊎_elim
    (λ (more : length lits + l.var ≤ n). omega arith)
    (λ (none : lits ≡ []). let zero' = ap length none in omega arith)
    (rising_count l.var n lits later (λ i j d less inside. rising (suc i) (suc j) d (omega arith) (omega arith))))

total-clause : (lits : List Literal) → total (clause lits).terms ≡ length lits
total-clause [] = refl
total-clause (l ∷ lits) =
    let first : total (clause (l ∷ lits)).terms ≡ 1 + total (clause lits).terms = sum_by-cons (λ t. t.1) (l, 1) (map unit_term lits) in
    let rest = total-clause lits in
    omega arith

clause_rising : (lits : List Literal) → AllPairs (λ l k. l.var < k.var) lits → AllPairs {X = Literal × ℕ} (λ s t. s.0.var < t.0.var) (clause lits).terms
clause_rising lits rising i j d before within =
    let inside : j < length lits = omega (arith, length-map lits unit_term) in
    let first : (get_or (clause lits).terms i d).0.var ≡ (get_or lits i d.0).var = ap (λ (t : Literal × ℕ). t.0.var) (get_or-map unit_term lits i d.0 d (omega arith)) in
    let second : (get_or (clause lits).terms j d).0.var ≡ (get_or lits j d.0).var = ap (λ (t : Literal × ℕ). t.0.var) (get_or-map unit_term lits j d.0 d inside) in
    let rise = rising i j d.0 before inside in
    omega arith

pub clause_is_normal : (n : ℕ) (lits : List Literal) → n < 2 ^ 63 → All (λ l. 0 < l.var) lits → All (λ l. l.var ≤ n) lits → AllPairs (λ l k. l.var < k.var) lits → IsNormal (clause lits).terms (clause lits).degree
clause_is_normal n lits few from_one upto rising = record {
  merged = record {
    positive = All-map (λ t. 0 < t.1) unit_term lits (λ i d less. omega arith);
    from_one = All-map (λ t. 0 < t.0.var) unit_term lits from_one;
    rising = clause_rising lits rising;
  };
  small = let whole = total-clause lits in ⊎_elim
      (λ (more : length lits + 0 ≤ n). omega arith)
      (λ (none : lits ≡ []). let zero' = ap length none in omega arith)
      (rising_count 0 n lits (λ i d less. (from_one i d less, upto i d less)) rising);
}

-- ---- what fits a problem

module _ (p : ProblemValue) (s : StateValue) (state : IsState s) (fits : Fits p s) where
  -- the rows have ids below the next
  pub rows_below : length p.rows < s.next_id
  rows_below = below (length p.rows) refl
    where
      below : (n : ℕ) → length p.rows ≡ n → n < s.next_id
      below zero e = state.first_id
      below (suc n) e = let row = fits.rows n (record { terms = []; degree = 0 }) (omega arith) in let ids = state.ids (n + 1) (get_or p.rows n (record { terms = []; degree = 0 })) row in omega arith

  pub line_rows : (c : ConstraintValue) → RowsLive p (with_live s s.next_id c)
  line_rows c = insert_rows_live p s s.next_id c rows_below fits.rows

  pub definition_rows : (c d : ConstraintValue) → RowsLive p (with_live (with_live s s.next_id c) (s.next_id + 1) d)
  definition_rows c d = insert_rows_live p (with_live s s.next_id c) (s.next_id + 1) d (let below = rows_below in omega arith) (line_rows c)

  pub fits_from : (t : StateValue) → RowsLive p t → s.vars ≤ t.vars → All (λ v. length v ≡ length p.costs) t.sols → Fits p t
  fits_from t rows vars sols = record { rows = rows; vars = let old = fits.vars in omega arith; sols = sols }

-- rows aren't among the lines that may be deleted
pub fewer_rows : (p : ProblemValue) (s : StateValue) (ids : List ℕ) → All (λ id. length p.rows < id) ids → RowsLive p s → RowsLive p (record s { live = fold remove s.live ids })
fewer_rows p s [] above rows = rows
fewer_rows p s (id ∷ ids) above rows = fewer_rows p (record s { live = remove s.live id }) ids (All-tail (λ i. length p.rows < i) id ids above) (delete_rows_live p s id (All-head (λ i. length p.rows < i) id ids above) rows)

deletable_none : (p : ProblemValue) (s : StateValue) (ids : List ℕ) → find (λ id. not (is_deletable p s id)) ids ≡ None → All (λ id. length p.rows < id) ids
deletable_none p s [] e = All-nil (λ id. length p.rows < id)
deletable_none p s (id ∷ ids) e = ⊎_elim
    (λ (bad : not (is_deletable p s id) ≡ true). let never : Some id ≡ None = sym (cond-true (not (is_deletable p s id)) (Some id) (find (λ i. not (is_deletable p s i)) ids) bad) ∙ e in cc)
    (λ (fine : not (is_deletable p s id) ≡ false).
    let passes : is_deletable p s id ≡ true = not-false (is_deletable p s id) fine in
    let both = and_parts (nat_lt (length p.rows) id) (contains_key s.live id) passes in
    All-cons (λ i. length p.rows < i) id ids (ltb-true (length p.rows) id both.0)
    (deletable_none p s ids (sym (cond-false (not (is_deletable p s id)) (Some id) (find (λ i. not (is_deletable p s i)) ids) fine) ∙ e)))
    (cases_Bool (not (is_deletable p s id)))

map_none : (o : Option ℕ) → option_map NoSuchId o ≡ None → o ≡ None
map_none None e = refl
map_none (Some v) e = cc

pub deletions_above : (p : ProblemValue) (s : StateValue) (ids : List ℕ) → deletion_fault p s ids ≡ None → All (λ id. length p.rows < id) ids
deletions_above p s ids e = deletable_none p s ids (map_none (find (λ id. not (is_deletable p s id)) ids) e)
