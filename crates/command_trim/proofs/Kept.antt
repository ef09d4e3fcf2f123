-- The trimmed lines of a proof are one.
use Rattle.std.specs.Prelude.{◌≡◌, ℕ, ◌+◌, ◌^◌, ◌≤◌, Bool, true, false, cond, nat_eq, nat_le, Some, None, if◌then◌else◌, List, [], ◌∷◌, ◌++◌, length, fold, All, Contains, refl}
use Rattle.std.proofs.Common.{sym, ◌∙◌, ap, subst, get_or, inl, inr, arith}
use Rattle.std.specs.FinMap.{get, insert, remove}
use Rattle.std.proofs.lemmas.Bool.{cond-true, eq-eqb, le-leb, leb-true}
use Rattle.std.proofs.lemmas.List.Elements.{All-nil, All-cons, All-head, All-tail, All-weaker}
use Rattle.std.proofs.lemmas.List.Folds.{list_any_at}
use Rattle.pb_lin.specs.Constraint.{ConstraintValue}
use Rattle.pb_lin.specs.LineMap.{LineMap}
use Rattle.pb_lin.specs.Problem.{ProblemValue, IsProblem}
use Rattle.proof_laws.specs.State.{StateValue, IsState, Fits, start}
use Rattle.proof_laws.specs.Steps.{reached_if, reached_only_if, clause}
use Rattle.proof_laws.specs.WellFormed.{IsWellFormed}
use Rattle.proof_laws.specs.Legal.{IsNext, Makes}
use Rattle.proof_laws.specs.Replay.{Leads}
use Rattle.proof_laws.specs.declared.line.Line.{Line}
use Rattle.proof_laws.specs.declared.line.Line.TheVariants.{Pol, Rup, Learn, Def, Red, Dom, Sol, Del, Reduce, End}
use Rattle.proof_laws.proofs.NextCovers.{fewer_left}
use Rattle.proof_laws.proofs.NextFits.{inserted_cases, start_is_state, start_fits_problem}
use Rattle.proof_laws.proofs.NextKept.{next_fits_law}
use Rattle.command_trim.specs.Trimmed.{Renaming, new_id, new_line, is_in, is_needed, needed_ids, needed, stays, kept_lines, renamed_after, no_renaming, ids_named}
use Rattle.proof_laws.specs.Steps.{made}
use Rattle.command_trim.specs.Simulation.{IsRenaming, Simulates, IsCarried, AreCarried, TrimmedReplays}
use Rattle.command_trim.proofs.Live.{with_id, here_id, old_id, longer_renaming}
use Rattle.command_trim.proofs.Next.{kept_next, dropped_next}
use Rattle.command_trim.proofs.Formed.{line_formed}

-- ---- what the rest names is carried

-- where the id is live, it has a new one
abbrev IsReady : Renaming → LineMap → ℕ → Type 0
IsReady r live id = (c : ConstraintValue) → get live id ≡ Some c → (new : ℕ) × (new_id r id ≡ Some new)

abbrev AreReady : Renaming → LineMap → List ℕ → Type 0
AreReady r live ids = All (IsReady r live) ids

prefix : {X : Type 0} (P : X → Type 0) (xs ys : List X) → All P (xs ++ ys) → All P xs
prefix P [] ys all = All-nil P
prefix P (x ∷ xs) ys all = All-cons P x xs (All-head P x (xs ++ ys) all) (prefix P xs ys (All-tail P x (xs ++ ys) all))

suffix : {X : Type 0} (P : X → Type 0) (xs ys : List X) → All P (xs ++ ys) → All P ys
suffix P [] ys all = all
suffix P (x ∷ xs) ys all = suffix P xs ys (All-tail P x (xs ++ ys) all)

module _ (r : Renaming) (s t : StateValue) (sim : Simulates r s t) where
  carried : (ids : List ℕ) → AreReady r s.live ids → AreCarried r s t ids
  carried ids ready = All-weaker (IsReady r s.live) (λ id. (c : ConstraintValue) → get s.live id ≡ Some c → IsCarried r s t id c)
      (λ id one c there. (let new = one c there in record { new = new.0; is = new.1; there = sim.live.kept id new.0 new.1 ∙ there })) ids ready

  abbrev longer : Renaming
  longer = with_id r s.next_id t.next_id

  still_new : (id : ℕ) → ((new : ℕ) × (new_id r id ≡ Some new)) → (new : ℕ) × (new_id longer id ≡ Some new)
  still_new id one = (one.0, old_id r s.next_id t.next_id sim.renaming id one.0 one.1)

  -- after a line that both make
  ready_both : (later : List ℕ) (c : ConstraintValue) → AreReady r s.live later → AreReady longer (insert s.live s.next_id c) later
  ready_both later c ready = All-weaker (IsReady r s.live) (IsReady longer (insert s.live s.next_id c))
      (λ id one d found. elim (inserted_cases s.live s.next_id id c d found) [
        | inl same ↦ (t.next_id, ap (new_id longer) same.0 ∙ here_id r s.next_id t.next_id sim.renaming)
        | inr old ↦ still_new id (one d old)
      ]) later ready

  -- after one that the old proof alone makes, and that nothing names later
  ready_old : (later : List ℕ) (c : ConstraintValue) → is_in s.next_id later ≡ false → AreReady r s.live later → AreReady r (insert s.live s.next_id c) later
  ready_old later c free ready = λ i e short d found. elim (inserted_cases s.live s.next_id (get_or later i e) c d found) [
    | inl same ↦ absurd (let named : is_in s.next_id later ≡ true = list_any_at (nat_eq s.next_id) later i e short (eq-eqb s.next_id (get_or later i e) (sym same.0)) in
        let both : false ≡ true = sym free ∙ named in cc)
    | inr old ↦ ready i e short d old
  ]

  -- after deletions
  ready_fewer : (later ids : List ℕ) → AreReady r s.live later → AreReady r (fold remove s.live ids) later
  ready_fewer later ids ready = All-weaker (IsReady r s.live) (IsReady r (fold remove s.live ids)) (λ id one d found. one d (fewer_left ids s.live id d found)) later ready

-- ---- the next ids

next_ids : (p : ProblemValue) (s : StateValue) (line : Line) (u : StateValue) → Makes p s line u → u.next_id ≡ s.next_id + made line
next_ids p s (Pol tokens) u is = ap (λ (x : StateValue). x.next_id) is.2
next_ids p s (Rup goal hints) u is = ap (λ (x : StateValue). x.next_id) is
next_ids p s (Learn goal hints) u is = ap (λ (x : StateValue). x.next_id) is
next_ids p s (Def var sum) u is = ap (λ (x : StateValue). x.next_id) is
next_ids p s (Red goal w proofs) u is = ap (λ (x : StateValue). x.next_id) is
next_ids p s (Dom goal w proofs) u is = ap (λ (x : StateValue). x.next_id) is
next_ids p s (Sol model cut ids) u is = ap (λ (x : StateValue). x.next_id) is
next_ids p s (Del ids) u is = ap (λ (x : StateValue). x.next_id) is
next_ids p s (Reduce ids) u is = ap (λ (x : StateValue). x.next_id) is
next_ids p s (End id) u is = ap (λ (x : StateValue). x.next_id) is

same_made : (r : Renaming) (line : Line) → made (new_line r line) ≡ made line
same_made r (Pol tokens) = refl
same_made r (Rup goal hints) = refl
same_made r (Learn goal hints) = refl
same_made r (Def var sum) = refl
same_made r (Red goal w proofs) = refl
same_made r (Dom goal w proofs) = refl
same_made r (Sol model cut ids) = refl
same_made r (Del ids) = refl
same_made r (Reduce ids) = refl
same_made r (End id) = refl

-- a line that is dropped is no definition and no end
not_needed : (n m : ℕ) (line : Line) (later : List ℕ) → is_needed n line later ≡ false → is_needed m line [] ≡ false
not_needed n m (Pol tokens) later none = refl
not_needed n m (Rup goal hints) later none = refl
not_needed n m (Learn goal hints) later none = refl
not_needed n m (Def var sum) later none = none
not_needed n m (Red goal w proofs) later none = refl
not_needed n m (Dom goal w proofs) later none = refl
not_needed n m (Sol model cut ids) later none = refl
not_needed n m (Del ids) later none = refl
not_needed n m (Reduce ids) later none = refl
not_needed n m (End id) later none = none

module _ (p : ProblemValue) (r : Renaming) (s t : StateValue) (sim : Simulates r s t) (later : List ℕ) (ready : AreReady r s.live later) where
  abbrev live_after : StateValue → LineMap
  live_after u = u.live

  turned : (q : Renaming) (u v : StateValue) → u ≡ v → AreReady q v.live later → AreReady q u.live later
  turned q u v is all = subst (λ (x : StateValue). AreReady q x.live later) (sym is) all

  -- after a line that is kept
  ready_kept : (line : Line) (u : StateValue) → Makes p s line u → AreReady (renamed_after r line s.next_id t.next_id) u.live later
  ready_kept (Pol tokens) u is = turned (with_id r s.next_id t.next_id) u _ is.2 (ready_both r s t sim later is.0 ready)
  ready_kept (Rup goal hints) u is = turned (with_id r s.next_id t.next_id) u _ is (ready_both r s t sim later goal ready)
  ready_kept (Learn goal hints) u is = turned (with_id r s.next_id t.next_id) u _ is (ready_both r s t sim later goal ready)
  ready_kept (Def var sum) u is =
      let one = ready_both r s t sim later (reached_if (s.vars + 1) sum) ready in
      let first : IsRenaming (with_id r s.next_id t.next_id) (s.next_id + 1) (t.next_id + 1) = longer_renaming r s.next_id t.next_id sim.renaming in
      let longest : Renaming = with_id (with_id r s.next_id t.next_id) (s.next_id + 1) (t.next_id + 1) in
      let half : LineMap = insert s.live s.next_id (reached_if (s.vars + 1) sum) in
      turned longest u _ is (All-weaker (IsReady (with_id r s.next_id t.next_id) half) (IsReady longest (insert half (s.next_id + 1) (reached_only_if (s.vars + 1) sum)))
      (λ id one_id d found. elim (inserted_cases half (s.next_id + 1) id (reached_only_if (s.vars + 1) sum) d found) [
        | inl same ↦ (t.next_id + 1, ap (new_id longest) same.0 ∙ here_id (with_id r s.next_id t.next_id) (s.next_id + 1) (t.next_id + 1) first)
        | inr old ↦ (let new = one_id d old in (new.0, old_id (with_id r s.next_id t.next_id) (s.next_id + 1) (t.next_id + 1) first id new.0 new.1))
      ]) later one)
  ready_kept (Red goal w proofs) u is = turned (with_id r s.next_id t.next_id) u _ is (ready_both r s t sim later goal ready)
  ready_kept (Dom goal w proofs) u is = turned (with_id r s.next_id t.next_id) u _ is (ready_both r s t sim later goal ready)
  ready_kept (Sol model cut ids) u is = turned (with_id r s.next_id t.next_id) u _ is (ready_both r s t sim later (clause cut) ready)
  ready_kept (Del ids) u is = turned r u _ is (ready_fewer r s t sim later ids ready)
  ready_kept (Reduce ids) u is = turned r u _ is (ready_fewer r s t sim later ids ready)
  ready_kept (End id) u is = turned r u _ is ready

  -- after one that is dropped
  ready_dropped : (line : Line) (u : StateValue) → stays r (is_needed s.next_id line later) line ≡ false → Makes p s line u → AreReady r u.live later
  ready_dropped (Pol tokens) u none is = turned r u _ is.2 (ready_old r s t sim later is.0 none ready)
  ready_dropped (Rup goal hints) u none is = turned r u _ is (ready_old r s t sim later goal none ready)
  ready_dropped (Learn goal hints) u none is = turned r u _ is (ready_old r s t sim later goal none ready)
  ready_dropped (Def var sum) u none is = let never : true ≡ false = none in cc
  ready_dropped (Red goal w proofs) u none is = turned r u _ is (ready_old r s t sim later goal none ready)
  ready_dropped (Dom goal w proofs) u none is = turned r u _ is (ready_old r s t sim later goal none ready)
  ready_dropped (Sol model cut ids) u none is = turned r u _ is (ready_old r s t sim later (clause cut) none ready)
  ready_dropped (Del ids) u none is = turned r u _ is (ready_fewer r s t sim later ids ready)
  ready_dropped (Reduce ids) u none is = turned r u _ is (ready_fewer r s t sim later ids ready)
  ready_dropped (End id) u none is = let never : true ≡ false = none in cc

-- what a line that is kept names is carried
named_ready : (r : Renaming) (live : LineMap) (n : ℕ) (line : Line) (later : List ℕ) → stays r (is_needed n line later) line ≡ true → AreReady r live ((if is_needed n line later then ids_named line else []) ++ later) → AreReady r live (ids_named line)
named_ready r live n (Pol tokens) later kept ready = by (is_in n later) kept ready
  where
    by : (b : Bool) → b ≡ true → AreReady r live ((if b then ids_named (Pol tokens) else []) ++ later) → AreReady r live (ids_named (Pol tokens))
    by true e all = prefix (IsReady r live) (ids_named (Pol tokens)) later all
    by false e all = cc
named_ready r live n (Rup goal hints) later kept ready = by (is_in n later) kept ready
  where
    by : (b : Bool) → b ≡ true → AreReady r live ((if b then ids_named (Rup goal hints) else []) ++ later) → AreReady r live (ids_named (Rup goal hints))
    by true e all = prefix (IsReady r live) (ids_named (Rup goal hints)) later all
    by false e all = cc
named_ready r live n (Learn goal hints) later kept ready = by (is_in n later) kept ready
  where
    by : (b : Bool) → b ≡ true → AreReady r live ((if b then ids_named (Learn goal hints) else []) ++ later) → AreReady r live (ids_named (Learn goal hints))
    by true e all = prefix (IsReady r live) (ids_named (Learn goal hints)) later all
    by false e all = cc
named_ready r live n (Def var sum) later kept ready = All-nil (IsReady r live)
named_ready r live n (Red goal w proofs) later kept ready = by (is_in n later) kept ready
  where
    by : (b : Bool) → b ≡ true → AreReady r live ((if b then ids_named (Red goal w proofs) else []) ++ later) → AreReady r live (ids_named (Red goal w proofs))
    by true e all = prefix (IsReady r live) (ids_named (Red goal w proofs)) later all
    by false e all = cc
named_ready r live n (Dom goal w proofs) later kept ready = by (is_in n later) kept ready
  where
    by : (b : Bool) → b ≡ true → AreReady r live ((if b then ids_named (Dom goal w proofs) else []) ++ later) → AreReady r live (ids_named (Dom goal w proofs))
    by true e all = prefix (IsReady r live) (ids_named (Dom goal w proofs)) later all
    by false e all = cc
named_ready r live n (Sol model cut ids) later kept ready = by (is_in n later) kept ready
  where
    by : (b : Bool) → b ≡ true → AreReady r live ((if b then ids_named (Sol model cut ids) else []) ++ later) → AreReady r live (ids_named (Sol model cut ids))
    by true e all = prefix (IsReady r live) (ids_named (Sol model cut ids)) later all
    by false e all = cc
named_ready r live n (Del ids) later kept ready = All-nil (IsReady r live)
named_ready r live n (Reduce ids) later kept ready = All-nil (IsReady r live)
named_ready r live n (End id) later kept ready = prefix (IsReady r live) (id ∷ []) later ready

-- ---- the whole list

-- what the trimmed rest comes to
record IsRest (p : ProblemValue) (u : StateValue) (t : StateValue) (lines : List Line) : Type 0 where
  state : StateValue
  formed : All IsWellFormed lines
  leads : Leads p t lines state
  ended : state.ended ≡ u.ended
  sols : All (Contains u.sols) state.sols

-- what is so before each line
record IsBefore (p : ProblemValue) (r : Renaming) (s t : StateValue) : Type 0 where
  sim : Simulates r s t
  old : IsState s
  old_fits : Fits p s
  new : IsState t
  new_fits : Fits p t
  rows : length p.rows ≡ r.rows

same_rows : (r : Renaming) (line : Line) (n k : ℕ) → (renamed_after r line n k).rows ≡ r.rows
same_rows r (Pol tokens) n k = refl
same_rows r (Rup goal hints) n k = refl
same_rows r (Learn goal hints) n k = refl
same_rows r (Def var sum) n k = refl
same_rows r (Red goal w proofs) n k = refl
same_rows r (Dom goal w proofs) n k = refl
same_rows r (Sol model cut ids) n k = refl
same_rows r (Del ids) n k = refl
same_rows r (Reduce ids) n k = refl
same_rows r (End id) n k = refl

small_ids : (s : StateValue) → IsState s → s.next_id ≤ 2 ^ 63
small_ids s state = omega (arith, state.next_id, state.lines)

module _ (p : ProblemValue) (problem : IsProblem p) (u : StateValue) where
  go : (lines : List Line) (r : Renaming) (s t : StateValue) → IsBefore p r s t → All IsWellFormed lines → AreReady r s.live (needed_ids s.next_id lines) → Leads p s lines u → IsRest p u t (kept_lines r s.next_id t.next_id (needed s.next_id lines) lines)
  unfolding kept_lines needed needed_ids
  go [] r s t before formed ready led =
      record {
        state = t;
        formed = All-nil IsWellFormed;
        leads = refl;
        ended = before.sim.ended ∙ sym (ap (λ (x : StateValue). x.ended) led);
        sols = subst (λ (x : StateValue). All (Contains x.sols) t.sols) (sym led) before.sim.sols;
      }
  go (line ∷ lines) r s t before formed ready led =
      by_test (stays r (is_needed s.next_id line (needed_ids (s.next_id + made line) lines)) line) refl
      (λ r' t' after ready'. go lines r' led.0 t' after (All-tail IsWellFormed line lines formed) ready' led.2)
    where
      by_test : (b : Bool) → stays r (is_needed s.next_id line (needed_ids (s.next_id + made line) lines)) line ≡ b
          → ((r' : Renaming) (t' : StateValue) → IsBefore p r' led.0 t' → AreReady r' led.0.live (needed_ids led.0.next_id lines) → IsRest p u t' (kept_lines r' led.0.next_id t'.next_id (needed led.0.next_id lines) lines))
          → IsRest p u t (if b then new_line r line ∷ kept_lines (renamed_after r line s.next_id t.next_id) (s.next_id + made line) (t.next_id + made line) (needed (s.next_id + made line) lines) lines else kept_lines r (s.next_id + made line) t.next_id (needed (s.next_id + made line) lines) lines)
      by_test true kept rest =
          let later : List ℕ = needed_ids (s.next_id + made line) lines in
          let next : IsNext p s line led.0 = led.1 in
          let names = carried r s t before.sim (ids_named line) (named_ready r s.live s.next_id line later kept ready) in
          let after = kept_next p r s t led.0 before.sim before.old before.rows line names next in
          let own : IsWellFormed line = All-head IsWellFormed line lines formed in
          let new : IsWellFormed (new_line r line) = line_formed r s.next_id t.next_id before.sim.renaming (small_ids t before.new) line (is_needed s.next_id line later) kept own in
          let old_state = next_fits_law p s line led.0 (record { problem = problem; state = before.old; fits = before.old_fits; formed = own }) next in
          let new_state = next_fits_law p t (new_line r line) after.state (record { problem = problem; state = before.new; fits = before.new_fits; formed = new }) after.next in
          let one : led.0.next_id ≡ s.next_id + made line = next_ids p s line led.0 next.makes in
          let two : after.state.next_id ≡ t.next_id + made line = next_ids p t (new_line r line) after.state after.next.makes ∙ ap (λ (m : ℕ). t.next_id + m) (same_made r line) in
          let all = suffix (IsReady r s.live) (if is_needed s.next_id line later then ids_named line else []) later ready in
          let ready' = ready_kept p r s t before.sim later all line led.0 next.makes in
          let r' : Renaming = renamed_after r line s.next_id t.next_id in
          let done = rest r' after.state (record { sim = after.sim; old = old_state.0; old_fits = old_state.1; new = new_state.0; new_fits = new_state.1; rows = before.rows ∙ sym (same_rows r line s.next_id t.next_id) })
          (subst (λ (n : ℕ). AreReady r' led.0.live (needed_ids n lines)) (sym one) ready') in
          let same : kept_lines r' led.0.next_id after.state.next_id (needed led.0.next_id lines) lines ≡ kept_lines r' (s.next_id + made line) (t.next_id + made line) (needed (s.next_id + made line) lines) lines =
          ap (λ (n : ℕ). kept_lines r' n after.state.next_id (needed n lines) lines) one ∙ ap (λ (k : ℕ). kept_lines r' (s.next_id + made line) k (needed (s.next_id + made line) lines) lines) two in
          let it : IsRest p u after.state (kept_lines r' (s.next_id + made line) (t.next_id + made line) (needed (s.next_id + made line) lines) lines) = subst (IsRest p u after.state) same done in
          record {
            state = it.state;
            formed = All-cons IsWellFormed (new_line r line) (kept_lines r' (s.next_id + made line) (t.next_id + made line) (needed (s.next_id + made line) lines) lines) new it.formed;
            leads = (after.state, after.next, it.leads);
            ended = it.ended;
            sols = it.sols;
          }
      by_test false none rest =
          let later : List ℕ = needed_ids (s.next_id + made line) lines in
          let next : IsNext p s line led.0 = led.1 in
          let after = dropped_next p r s t led.0 before.sim before.old before.rows line (is_needed s.next_id line later) (not_needed s.next_id s.next_id line later) none next in
          let own : IsWellFormed line = All-head IsWellFormed line lines formed in
          let old_state = next_fits_law p s line led.0 (record { problem = problem; state = before.old; fits = before.old_fits; formed = own }) next in
          let one : led.0.next_id ≡ s.next_id + made line = next_ids p s line led.0 next.makes in
          let all = suffix (IsReady r s.live) (if is_needed s.next_id line later then ids_named line else []) later ready in
          let ready' = ready_dropped p r s t before.sim later all line led.0 none next.makes in
          let done = rest r t (record { sim = after; old = old_state.0; old_fits = old_state.1; new = before.new; new_fits = before.new_fits; rows = before.rows }) (subst (λ (n : ℕ). AreReady r led.0.live (needed_ids n lines)) (sym one) ready') in
          subst (IsRest p u t) (ap (λ (n : ℕ). kept_lines r n t.next_id (needed n lines) lines) one) done

-- ---- the start

module _ (p : ProblemValue) where
  row_id : (id new : ℕ) → new_id (no_renaming p) id ≡ Some new → (id ≤ length p.rows) × (new ≡ id)
  row_id id new is = by_test (nat_le id (length p.rows)) refl is
    where
      by_test : (b : Bool) → nat_le id (length p.rows) ≡ b → cond b (Some id) None ≡ Some new → (id ≤ length p.rows) × (new ≡ id)
      by_test true test found = (leb-true id (length p.rows) test, (let same : new ≡ id = cc in same))
      by_test false test found = cc

  of_row : (id : ℕ) → id ≤ length p.rows → new_id (no_renaming p) id ≡ Some id
  of_row id low = cond-true (nat_le id (length p.rows)) (Some id) _ (le-leb id (length p.rows) low)

  start_simulates : IsProblem p → Simulates (no_renaming p) (start p) (start p)
  start_simulates problem = record {
    renaming = record {
      rows = (omega arith, omega arith);
      old = λ id new is. (let row = row_id id new is in let low = row.0 in omega arith);
      new = λ id new is. (let row = row_id id new is in let low = row.0 in let same = row.1 in omega arith);
      rising = λ i j a b at_i at_j less. (let one = (row_id i a at_i).1 in let two = (row_id j b at_j).1 in omega arith);
    };
    live = record {
      kept = λ id new is. ap (get (start p).live) (row_id id new is).1;
      known = λ new c there. (new, of_row new (let low = ((start_is_state p problem).ids new c there).1 in omega arith));
    };
    vars = refl;
    ended = refl;
    lines = omega arith;
    sols = All-nil (Contains []);
  }

  start_ready : IsProblem p → (ids : List ℕ) → AreReady (no_renaming p) (start p).live ids
  start_ready problem ids = λ i e short c there. (get_or ids i e, of_row (get_or ids i e) (let low = ((start_is_state p problem).ids (get_or ids i e) c there).1 in omega arith))

pub trimmed_law : TrimmedReplays
trimmed_law p lines s problem formed replay =
    let state = start_is_state p problem in
    let fits = start_fits_problem p in
    let it = go p problem s lines (no_renaming p) (start p) (start p) (record { sim = start_simulates p problem; old = state; old_fits = fits; new = state; new_fits = fits; rows = refl }) formed (start_ready p problem (needed_ids (length p.rows + 1) lines)) replay in
    (it.state, record { formed = it.formed; replay = it.leads; ended = it.ended; sols = it.sols })
