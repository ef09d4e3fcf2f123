-- All lines in order.
use Rattle.std.proofs.Common.{◌≡◌, inl, inr, ℕ, ◌+◌, ◌<◌, ◌≤◌, ◌==◌, Bool, true, false, cond, ◌||◌, if◌then◌else◌, None, Some, List, [], ◌∷◌, ◌++◌, length, get_or, refl, ap, sym, subst, ◌∙◌, ⊎_elim, arith, append-nil}
use Rattle.std.specs.Prelude.{◌^◌}
use Rattle.std.specs.List.{All, AllPairs, list_any}
use Rattle.std.specs.FinMap.{get, insert, get-insert}
use Rattle.std.specs.Cmp.{nat_cmp_total}
use Rattle.std.specs.Ordering.{nat_cmp, eq_by_cmp}
use Rattle.std.proofs.lemmas.Bool.{and_parts, ne_eqb, cases_lt}
use Rattle.std.proofs.lemmas.List.Elements.{All-nil, All-cons}
use Rattle.scut_base.specs.Literal.{Literal}
use Rattle.pb_lin.specs.Constraint.{ConstraintValue, opposite}
use Rattle.pb_lin.specs.Problem.{ProblemValue, IsProblem}
use Rattle.pb_lin.specs.LineMap.{LineMap}
use Rattle.proof_laws.specs.State.{StateValue, numbered}
use Rattle.proof_laws.specs.Steps.{with_line}
use Rattle.proof_laws.specs.WellFormed.{IsWellFormed, IsConstraint, IsSubstitution, AreProofs, IsVariable, IsImage, IsGoal, IsGoalProof, IsToken, IsHint, ComesBefore}
use Rattle.cutting_planes.specs.declared.token.PolToken.TheVariants.{Id, Negated, Add}
use Rattle.hint_rup.specs.declared.hint.Hint.TheVariants.{Denied}
use Rattle.proof_laws.specs.declared.goal.Goal.{Goal}
use Rattle.proof_laws.specs.declared.goal.Goal.TheVariants.{Row, Strict}
use Rattle.proof_laws.specs.declared.goal.GoalProof.{GoalProof}
use Rattle.proof_laws.specs.declared.goal.GoalProof.TheVariants.{Rup as ByRup}
use Rattle.proof_laws.specs.Legal.{IsNext}
use Rattle.proof_laws.specs.declared.line.Line.{Line}
use Rattle.proof_laws.proofs.NextKept.{start_law, next_fits_law}
use Rattle.harden.specs.Hardened.{can_fix, dom_line, falsified, false_image, first_fixed, fixing, in_costs, in_rows, is_fixed, red_line, row_proof, row_proofs, stays_open, strict_proof}
use Rattle.harden.specs.Laws.{TouchesRows, IsHardenedTo, HardeningBegins, HardeningGoesOn, MayBeFixed}
use Rattle.harden.proofs.RowProofs.{Pairs, kept, proofs_of}
use Rattle.std.proofs.lemmas.List.Kept.{AllPairs-cons}
use Rattle.std.proofs.lemmas.List.Folds.{list_any_none}
use Rattle.harden.proofs.Tests.{has_variable}
use Rattle.harden.proofs.Legality.{dom_law}
use Rattle.harden.proofs.Redundance.{red_law}

pub begin_law : HardeningBegins
begin_law p problem =
    let sound = start_law in
    let state = sound.state p problem in
    record {
      state = state;
      fits = sound.fits p;
      unended = refl;
      none_learned = refl;
      few = omega arith;
      lines = λ id c live above. absurd (let ids = state.ids id c live in let most = ids.1 in omega arith);
    }

-- ---- what a log can spell

small_clause : (l : Literal) → 0 < l.var → l.var < 2 ^ 63 → IsConstraint (fixing l)
small_clause l from_one small = record {
  normal = record {
    merged = record {
      positive = All-cons (λ t. 0 < t.1) (opposite l, 1) [] (omega arith) (All-nil (λ t. 0 < t.1));
      from_one = All-cons (λ t. 0 < t.0.var) (opposite l, 1) [] from_one (All-nil (λ t. 0 < t.0.var));
      rising = λ i j d before short. absurd (omega arith);
    };
    small = omega arith;
  };
  variables = All-cons (λ t. IsVariable t.0.var) (opposite l, 1) [] (from_one, small) (All-nil (λ t. IsVariable t.0.var));
}

small_witness : (l : Literal) → 0 < l.var → l.var < 2 ^ 63 → IsSubstitution (falsified l)
small_witness l from_one small = record {
  rising = record {
    from_one = All-cons (λ i. 0 < i.0) (l.var, false_image l.neg) [] from_one (All-nil (λ i. 0 < i.0));
    rising = λ i j d before short. absurd (omega arith);
  };
  images = All-cons (λ i. IsVariable i.0 × IsImage i.1) (l.var, false_image l.neg) [] ((from_one, small), by l.neg) (All-nil (λ i. IsVariable i.0 × IsImage i.1));
}
  where
    by : (b : Bool) → IsImage (false_image b)
    by true = tt
    by false = tt

-- proofs that come after those of rows with lower ids
abbrev ComesAfter : ℕ → Goal × GoalProof → Type 0
ComesAfter n q = (id : ℕ) → id < n → ComesBefore (Row id) q.0

proofs_ordered : (l : Literal) (n : ℕ) (rows : List ConstraintValue) (rest : Pairs) → AllPairs (λ q r. ComesBefore q.0 r.0) rest → ((m : ℕ) → All (ComesAfter m) rest)
    → AllPairs (λ q r. ComesBefore q.0 r.0) (row_proofs l (numbered n rows) ++ rest) × All (ComesAfter n) (row_proofs l (numbered n rows) ++ rest)
proofs_ordered l n [] rest order after = (order, after n)
proofs_ordered l n (c ∷ rows) rest order after = by (stays_open (opposite l) c) (proofs_ordered l (n + 1) rows rest order after)
  where
    by : (b : Bool) → AllPairs (λ q r. ComesBefore q.0 r.0) (row_proofs l (numbered (n + 1) rows) ++ rest) × All (ComesAfter (n + 1)) (row_proofs l (numbered (n + 1) rows) ++ rest)
        → AllPairs (λ q r. ComesBefore q.0 r.0) (proofs_of (cond b ((n, c) ∷ kept l (numbered (n + 1) rows)) (kept l (numbered (n + 1) rows))) ++ rest)
        × All (ComesAfter n) (proofs_of (cond b ((n, c) ∷ kept l (numbered (n + 1) rows)) (kept l (numbered (n + 1) rows))) ++ rest)
    by true more = (
      AllPairs-cons (λ (q r : Goal × GoalProof). ComesBefore q.0 r.0) (row_proof n) (row_proofs l (numbered (n + 1) rows) ++ rest) (λ k d short. more.1 k d short n (omega arith)) more.0,
      All-cons (ComesAfter n) (row_proof n) (row_proofs l (numbered (n + 1) rows) ++ rest) (λ id less. inr (refl, less)) (λ k d short id less. more.1 k d short id (omega arith)),
    )
    by false more = (more.0, λ k d short id less. more.1 k d short id (omega arith))

-- each is a goal with a proof
abbrev IsPair : Goal × GoalProof → Type 0
IsPair q = IsGoal q.0 × IsGoalProof q.1

proofs_small : (l : Literal) (n : ℕ) (rows : List ConstraintValue) (rest : Pairs) → n + length rows < 2 ^ 63 → All IsPair rest → All IsPair (row_proofs l (numbered n rows) ++ rest)
proofs_small l n [] rest small all = all
proofs_small l n (c ∷ rows) rest small all = by (stays_open (opposite l) c) (proofs_small l (n + 1) rows rest (omega arith) all)
  where
    here : IsPair (row_proof n)
    here = (omega arith, ((λ e. cc), All-cons IsToken (Id n) (Negated ∷ Add ∷ []) (omega arith) (All-cons IsToken Negated (Add ∷ []) tt (All-cons IsToken Add [] tt (All-nil IsToken)))))

    by : (b : Bool) → All IsPair (row_proofs l (numbered (n + 1) rows) ++ rest) → All IsPair (proofs_of (cond b ((n, c) ∷ kept l (numbered (n + 1) rows)) (kept l (numbered (n + 1) rows))) ++ rest)
    by true more = All-cons IsPair (row_proof n) (row_proofs l (numbered (n + 1) rows) ++ rest) here more
    by false more = more

proofs_formed : (p : ProblemValue) (l : Literal) (rest : Pairs) → IsProblem p → AllPairs (λ q r. ComesBefore q.0 r.0) rest → ((m : ℕ) → All (ComesAfter m) rest) → All IsPair rest → AreProofs (row_proofs l (numbered 1 p.rows) ++ rest)
proofs_formed p l rest problem order after pairs =
    let count = problem.count in
    let small = proofs_small l 1 p.rows rest (omega arith) pairs in
    let ordered = proofs_ordered l 1 p.rows rest order after in
    record { goals = λ k d short. (small k d short).0; proofs = λ k d short. (small k d short).1; order = ordered.0 }

strict_ordered : AllPairs (λ q r. ComesBefore q.0 r.0) strict_proof
strict_ordered i j d before short = absurd (omega arith)

strict_after : (m : ℕ) → All (ComesAfter m) strict_proof
strict_after m = All-cons (ComesAfter m) (Strict, ByRup (Denied ∷ [])) [] (λ id less. inl (omega arith)) (All-nil (ComesAfter m))

strict_pair : All IsPair strict_proof
strict_pair = All-cons IsPair (Strict, ByRup (Denied ∷ [])) [] (tt, All-cons IsHint Denied [] tt (All-nil IsHint)) (All-nil IsPair)

none_ordered : AllPairs (λ (q r : Goal × GoalProof). ComesBefore q.0 r.0) []
none_ordered i j d before short = absurd (omega arith)

-- ---- a line more

more_lines : (p : ProblemValue) (lines : LineMap) (id : ℕ) (l : Literal) (var : ℕ) → l.var ≡ var
    → ((i : ℕ) (c : ConstraintValue) → get lines i ≡ Some c → length p.rows < i → All (λ t. t.0.var < var) c.terms)
    → (i : ℕ) (c : ConstraintValue) → get (insert lines id (fixing l)) i ≡ Some c → length p.rows < i → All (λ t. t.0.var < var + 1) c.terms
more_lines p lines id l var is before i c live above = by (eq_by_cmp nat_cmp i id) (sym (get-insert nat_cmp_total lines id (fixing l) i) ∙ live)
  where
    by : (b : Bool) → (if b then Some (fixing l) else get lines i) ≡ Some c → All (λ t. t.0.var < var + 1) c.terms
    by true e = let same : fixing l ≡ c = cc in subst (λ (d : ConstraintValue). All (λ t. t.0.var < var + 1) d.terms) same (All-cons (λ t. t.0.var < var + 1) (opposite l, 1) [] (omega arith) (All-nil (λ t. t.0.var < var + 1)))
    by false e = λ k d short. let less = before i c e above k d short in omega arith

module _ (p : ProblemValue) (s : StateValue) (var : ℕ) (problem : IsProblem p) (so : IsHardenedTo p s var) (from_one : 0 < var) (upto : var ≤ p.vars) where
  room : s.lines < 2 ^ 61
  room = let few = so.few in let vars = problem.variables in omega arith

  -- what the substitution touches is a row
  touches_rows : (l : Literal) → l.var ≡ var → TouchesRows p s l
  touches_rows l is id c live touched =
      let ids = so.state.ids id c live in (
        ids.0,
        ⊎_elim
            (λ (above : length p.rows < id). absurd (missing (list_any_none (λ t. t.0.var == l.var) c.terms (λ k d short. ne_eqb (get_or c.terms k d).0.var l.var (λ same. let less = so.lines id c live above k d short in omega arith))) (has_variable l c.terms touched)))
            (λ (most : id ≤ length p.rows). most)
            (cases_lt (length p.rows) id),
      )
    where
      missing : list_any (λ t. t.0.var == l.var) c.terms ≡ false → list_any (λ t. t.0.var == l.var) c.terms ≡ true → ⊥
      missing one other = cc

  dom_formed : (l : Literal) → l.var ≡ var → IsWellFormed (dom_line p l)
  dom_formed l is =
      let vars = problem.variables in
      (small_clause l (omega arith) (omega arith), small_witness l (omega arith) (omega arith), proofs_formed p l strict_proof problem strict_ordered strict_after strict_pair)

  red_formed : (l : Literal) → l.var ≡ var → IsWellFormed (red_line p l)
  red_formed l is =
      let vars = problem.variables in (
        small_clause l (omega arith) (omega arith),
        small_witness l (omega arith) (omega arith),
        subst (λ (qs : Pairs). AreProofs qs) (append-nil (row_proofs l (numbered 1 p.rows))) (proofs_formed p l [] problem none_ordered (λ m. All-nil (ComesAfter m)) (All-nil IsPair)),
      )

  -- where a line is legal and makes the clause, the next state is one for the next variable
  goes_on : (l : Literal) (line : Line) → l.var ≡ var → IsWellFormed line → IsNext p s line (with_line s (fixing l)) → IsHardenedTo p (with_line s (fixing l)) (l.var + 1)
  goes_on l line is formed next =
      let t = with_line s (fixing l) in
      let kept = next_fits_law p s line t (record { problem = problem; state = so.state; fits = so.fits; formed = formed }) next in
      record {
        state = kept.0;
        fits = kept.1;
        unended = so.unended;
        none_learned = so.none_learned;
        few = let few = so.few in omega arith;
        lines = subst (λ (v : ℕ). (i : ℕ) (c : ConstraintValue) → get t.live i ≡ Some c → length p.rows < i → All (λ u. u.0.var < v + 1) c.terms) (sym is) (more_lines p s.live s.next_id l var is so.lines);
      }

  -- the line of a literal
  of_literal : (l : Literal) → l.var ≡ var → can_fix p l ≡ true → MayBeFixed p s l
  of_literal l is can = by (in_costs p l) refl
    where
      Fixes : Line → Type 0
      Fixes line = IsWellFormed line × IsNext p s line (with_line s (fixing l)) × IsHardenedTo p (with_line s (fixing l)) (l.var + 1)

      at_line : (line : Line) → IsWellFormed line → IsNext p s line (with_line s (fixing l)) → Fixes line
      at_line line formed next = (formed, next, goes_on l line is formed next)

      fixes : (b : Bool) → in_costs p l ≡ b → Fixes (if b then dom_line p l else red_line p l)
      fixes true costs = at_line (dom_line p l) (dom_formed l is)
          (record { legal = dom_law p s l problem so.fits so.unended room (let f = from_one in omega arith) (let u = upto in omega arith) can costs; makes = refl })
      fixes false costs = at_line (red_line p l) (red_formed l is)
          (record { legal = red_law p s l problem so.fits so.unended room (let f = from_one in omega arith) (let u = upto in omega arith) can (touches_rows l is); makes = refl })

      by : (b : Bool) → in_costs p l ≡ b → MayBeFixed p s l
      by b costs = let done = subst (λ (d : Bool). Fixes (if d then dom_line p l else red_line p l)) (sym costs) (fixes b costs) in
          record { formed = done.0; next = done.1; hardened = done.2 }

-- the literal that is found is of the variable, and can be fixed
pub fixed_parts : (p : ProblemValue) (var : ℕ) (l : Literal) → first_fixed p var ≡ Some l → (l.var ≡ var) × (is_fixed p l ≡ true)
fixed_parts p var l found = by (is_fixed p positive) (is_fixed p negative) refl refl found
  where
    positive : Literal
    positive = record { var = var; neg = false }

    negative : Literal
    negative = record { var = var; neg = true }

    taken : (m : Literal) → m.var ≡ var → is_fixed p m ≡ true → m ≡ l → (l.var ≡ var) × (is_fixed p l ≡ true)
    taken m is fixes same = (sym (ap (λ (n : Literal). n.var) same) ∙ is, sym (ap (is_fixed p) same) ∙ fixes)

    by : (a b : Bool) → is_fixed p positive ≡ a → is_fixed p negative ≡ b → cond a (Some positive) (cond b (Some negative) None) ≡ Some l → (l.var ≡ var) × (is_fixed p l ≡ true)
    by true b first second e = taken positive refl first cc
    by false true first second e = taken negative refl second cc
    by false false first second e = absurd cc

pub order_law : HardeningGoesOn
order_law p s var l problem so from_one upto found =
    let parts = fixed_parts p var l found in
    of_literal p s var problem so from_one upto l parts.0 (and_parts (can_fix p l) (in_costs p l || in_rows p (opposite l)) parts.1).0
