-- What a solver holds, from line to line.
use Rattle.std.proofs.Common.{◌≡◌, ◌↔◌, ◌==◌, ◌&&◌, ℕ, ◌+◌, ◌<◌, ◌≤◌, Bool, true, Option, Some, None, List, [], ◌∷◌, ◌++◌, length, fold, refl, arith, sym, ap, ◌∙◌, subst}
use Rattle.std.specs.List.{list_all}
use Rattle.std.proofs.lemmas.Bool.{eq-eqb}
use Rattle.std.proofs.lemmas.List.Elements.{All-head, All-tail}
use Rattle.scut_base.specs.Literal.{Literal}
use Rattle.std.specs.FinMap.{get, remove, empty}
use Rattle.pb_lin.specs.Constraint.{ConstraintValue, AreOnes, literals, ones}
use Rattle.pb_lin.specs.Problem.{ProblemValue}
use Rattle.pb_lin.specs.LineMap.{LineMap}
use Rattle.proof_laws.specs.State.{StateValue, IsState, Fits}
use Rattle.proof_laws.specs.Steps.{clause}
use Rattle.proof_laws.specs.Legal.{IsNext}
use Rattle.proof_laws.specs.Refusal.{is_clause}
use Rattle.proof_laws.specs.Replay.{IsReplay}
use Rattle.proof_laws.specs.declared.line.Line.{Line}
use Rattle.proof_laws.specs.declared.line.Line.TheVariants.{Pol, Rup, Learn, Def, Red, Dom, Sol, Del, Reduce, End}
use Rattle.proof_laws.proofs.Replays.{replay_before}
use Rattle.cdcl_laws.specs.StoredLines.{IsStored, deleted}
use Rattle.cdcl_laws.proofs.Stored.{deleting_law}
use Rattle.cdcl_core.specs.Ledgers.{LedgerValue, IsLedger, ledger_after}
use Rattle.proof_rules.specs.Recording.{Snapshot}
use Rattle.cdcl_laws.proofs.Fitting.{fits_law}
use Rattle.cdcl_core.specs.Work.{SolverValue, IsHeld}
use Rattle.cdcl_core.proofs.LedgerLines.{ledger_added}

same_vars : (s t u : StateValue) → t ≡ u → u.vars ≡ s.vars → s.vars ≤ t.vars
same_vars s t u is same = let e : t.vars ≡ s.vars = ap (λ (x : StateValue). x.vars) is ∙ same in omega arith

-- no line takes variables away
pub vars_rise : (p : ProblemValue) (s t : StateValue) (line : Line) → IsNext p s line t → s.vars ≤ t.vars
vars_rise p s t (Pol tokens) next = same_vars s t _ next.makes.2 refl
vars_rise p s t (Rup goal hints) next = same_vars s t _ next.makes refl
vars_rise p s t (Learn goal hints) next = same_vars s t _ next.makes refl
vars_rise p s t (Def var sum) next = let e : t.vars ≡ s.vars + 1 = ap (λ (x : StateValue). x.vars) next.makes in omega arith
vars_rise p s t (Red goal w proofs) next = same_vars s t _ next.makes refl
vars_rise p s t (Dom goal w proofs) next = same_vars s t _ next.makes refl
vars_rise p s t (Sol model cut ids) next = same_vars s t _ next.makes refl
vars_rise p s t (Del ids) next = same_vars s t _ next.makes refl
vars_rise p s t (Reduce ids) next = same_vars s t _ next.makes refl
vars_rise p s t (End id) next = same_vars s t _ next.makes refl

none_at_zero : (s : StateValue) → IsState s → (o : Option ConstraintValue) → get s.live 0 ≡ o → get s.live 0 ≡ None
none_at_zero s is None found = found
none_at_zero s is (Some c) found = absurd (let ids = is.ids 0 c found in omega arith)

-- at first nothing is held
pub held_nothing : {R : Type 0} (seen : R → Snapshot) (v : SolverValue R) (s : StateValue)
    → IsReplay (seen v.recorder).problem (seen v.recorder).lines s → IsState s → v.rows ≡ length (seen v.recorder).problem.rows → v.search.store ≡ empty → v.search.trail.vars ≡ 0 → v.next ≡ 1
    → IsLedger (seen v.recorder).problem (seen v.recorder).lines 1 v.ledger
    → ((p : ProblemValue) (s : StateValue) (next : ℕ) (store : LineMap) → IsStored p s next store → get s.live next ≡ None → next < s.next_id → IsStored p s (next + 1) store)
    → ((p : ProblemValue) (s : StateValue) → IsStored p s 0 empty) → IsHeld seen v
held_nothing seen v s replay is count none vars first told passed nothing =
    let p = (seen v.recorder).problem in
    record {
      state = s;
      replay = replay;
      fits = fits_law p (seen v.recorder).lines s replay;
      is = is;
      row_count = count;
      positive = omega (arith, first);
      stored = subst (λ (n : ℕ). IsStored p s n v.search.store) (sym first)
          (subst (IsStored p s 1) (sym none) (passed p s 0 empty (nothing p s) (none_at_zero s is (get s.live 0) refl) is.first_id));
      vars = omega (arith, vars);
      listed = subst (λ (n : ℕ). IsLedger p (seen v.recorder).lines n v.ledger) (sym first) told;
    }

-- after a line
pub held_added : {R : Type 0} (seen : R → Snapshot) (a b : SolverValue R) (line : Line) (t : StateValue)
    → IsHeld seen a → (seen b.recorder).problem ≡ (seen a.recorder).problem → (seen b.recorder).lines ≡ (seen a.recorder).lines ++ line ∷ []
    → IsReplay (seen b.recorder).problem (seen b.recorder).lines t → IsState t → b.next ≡ a.next → b.rows ≡ a.rows
    → b.search.store ≡ fold remove a.search.store (deleted line) → b.search.trail.vars ≡ a.search.trail.vars → b.ledger ≡ ledger_after a.ledger line → IsHeld seen b
held_added seen a b line t held same added replay is next rows store vars ledger =
    let p = (seen a.recorder).problem in
    let new = (seen b.recorder).lines in
    let replayed : IsReplay p ((seen a.recorder).lines ++ line ∷ []) t = subst (λ (ls : List Line). IsReplay p ls t) added (subst (λ (r : ProblemValue). IsReplay r new t) same replay) in
    let step = replay_before p (seen a.recorder).lines line held.state t held.replay replayed in
    let rise = vars_rise p held.state t line step in
    record {
      state = t;
      replay = replay;
      fits = fits_law (seen b.recorder).problem new t replay;
      is = is;
      row_count = rows ∙ held.row_count ∙ ap (λ (r : ProblemValue). length r.rows) (sym same);
      positive = let old = held.positive in omega (arith, old, next);
      stored = subst (λ (r : ProblemValue). IsStored r t b.next b.search.store) (sym same) (subst (λ (n : ℕ). IsStored p t n b.search.store) (sym next)
          (subst (IsStored p t a.next) (sym store) (deleting_law p held.state t line a.next a.search.store held.is held.stored step)));
      vars = let old = held.vars in omega (arith, old, rise, vars);
      listed = subst (λ (r : ProblemValue). IsLedger r new b.next b.ledger) (sym same) (subst (λ (n : ℕ). IsLedger p new n b.ledger) (sym next)
          (subst (IsLedger p new a.next) (sym ledger) (ledger_added p (seen a.recorder).lines new line a.next a.ledger added held.listed)));
    }

-- by a solver that is seen as before
pub held_seen : {R : Type 0} (seen : R → Snapshot) (a b : SolverValue R) → IsHeld seen a → seen b.recorder ≡ seen a.recorder
    → b ≡ record { recorder = b.recorder; limit = b.limit; broken = b.broken; search = a.search; next = a.next; rows = a.rows; ledger = a.ledger } → IsHeld seen b
held_seen seen a b held same is = subst (IsHeld seen) (sym is) (record {
  state = held.state;
  replay = subst (λ (x : Snapshot). IsReplay x.problem x.lines held.state) (sym same) held.replay;
  fits = subst (λ (x : Snapshot). Fits x.problem held.state) (sym same) held.fits;
  is = held.is;
  row_count = held.row_count ∙ ap (λ (x : Snapshot). length x.problem.rows) (sym same);
  positive = held.positive;
  stored = subst (λ (x : Snapshot). IsStored x.problem held.state a.next a.search.store) (sym same) held.stored;
  vars = held.vars;
  listed = subst (λ (x : Snapshot). IsLedger x.problem x.lines a.next a.ledger) (sym same) held.listed;
})

ones_tested : (terms : List (Literal × ℕ)) → AreOnes terms → list_all (λ t. t.1 == 1) terms ≡ true
ones_tested [] ones = refl
ones_tested (t ∷ terms) ones =
    ap (λ (b : Bool). b && list_all (λ u. u.1 == 1) terms) (eq-eqb t.1 1 (All-head (λ u. u.1 ≡ 1) t terms ones))
    ∙ ones_tested terms (All-tail (λ u. u.1 ≡ 1) t terms ones)

-- what a test of clauses says
pub clause_test : (c : ConstraintValue) (b : Bool) → (b ≡ true ↔ (AreOnes c.terms × (c.degree ≡ 1))) → b ≡ true → is_clause c ≡ true
clause_test c b told test =
    let is = told.0 test in
    ap (λ (b : Bool). b && (c.degree == 1)) (ones_tested c.terms is.0) ∙ eq-eqb c.degree 1 is.1

ones_literals : (terms : List (Literal × ℕ)) → AreOnes terms → ones (literals terms) ≡ terms
ones_literals [] all = refl
ones_literals (t ∷ terms) all =
    ap (λ (n : ℕ). (t.0, n) ∷ ones (literals terms)) (sym (All-head (λ u. u.1 ≡ 1) t terms all))
    ∙ ap (λ (ts : List (Literal × ℕ)). t ∷ ts) (ones_literals terms (All-tail (λ u. u.1 ≡ 1) t terms all))

-- a clause is that of its literals
pub clause_of_literals : (c : ConstraintValue) (b : Bool) (lits : List Literal) → (b ≡ true ↔ (AreOnes c.terms × (c.degree ≡ 1))) → b ≡ true → literals c.terms ≡ lits → c ≡ clause lits
clause_of_literals c b lits told test same =
    let is = told.0 test in
    ap (λ (n : ℕ). record { terms = c.terms; degree = n }) is.1
    ∙ ap (λ (ts : List (Literal × ℕ)). record { terms = ts; degree = 1 }) (sym (ones_literals c.terms is.0) ∙ ap ones same)
