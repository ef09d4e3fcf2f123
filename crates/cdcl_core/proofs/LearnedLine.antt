-- The line of a learned clause: it is legal, it is new, and what is so after it.
use Rattle.std.proofs.Common.{◌≡◌, ◌≢◌, ℕ, ◌+◌, ◌^◌, ◌<◌, ◌≤◌, Option, Some, None, List, [], ◌∷◌, ◌++◌, false, length, All, refl, arith, sym, ap, ◌∙◌, subst, inl, inr}
use Rattle.std.specs.FinMap.{insert}
use Rattle.scut_base.specs.Literal.{Literal}
use Rattle.pb_lin.specs.Problem.{ProblemValue}
use Rattle.pb_lin.specs.LineMap.{LineMap}
use Rattle.proof_laws.specs.State.{StateValue, IsState}
use Rattle.proof_laws.specs.Steps.{clause, with_learned}
use Rattle.proof_laws.specs.Legal.{IsNext}
use Rattle.proof_laws.specs.Earned.{IsEarned, HasMore, IsNewClause, IsUnitUnder}
use Rattle.proof_laws.specs.Replay.{IsReplay}
use Rattle.proof_laws.specs.WellFormed.{IsWellFormed}
use Rattle.proof_laws.specs.declared.line.Line.{Line}
use Rattle.proof_laws.specs.declared.line.Line.TheVariants.{Learn}
use Rattle.proof_laws.proofs.Replays.{replay_before, replay_once}
use Rattle.proof_rules.specs.Recording.{MayBeAdded, Snapshot}
use Rattle.oracle.specs.Solving.{IsWithin}
use Rattle.clause_prop.specs.Steps.{TrailValue, AreSteps, partial, last_level, with_step}
use Rattle.clause_prop.specs.Propagating.{IsClosedFor}
use Rattle.clause_prop.specs.declared.step.Step.{Step}
use Rattle.cdcl_trail.specs.Learning.{AreHints, IsAsserting, IsFalseBy, asserted}
use Rattle.cdcl_trail.proofs.Jumps.{shorter_law, closed_law, unit_law}
use Rattle.cdcl_trail.proofs.Truths.{var_within}
use Rattle.cdcl_laws.specs.StoredLines.{IsStored}
use Rattle.cdcl_laws.specs.SearchLines.{AddsLearned}
use Rattle.cdcl_laws.proofs.Earned.{new_law, learned_law as earned_law}
use Rattle.cdcl_laws.proofs.Hinted.{formed_law, learned_law as legal_law}
use Rattle.cdcl_laws.proofs.NeverLong.{short_law}
use Rattle.cdcl_laws.proofs.SearchLines.{learned_law as adds_law}
use Rattle.cdcl_laws.proofs.Stored.{learned_law as stored_law}
use Rattle.cdcl_laws.proofs.Fitting.{fits_law}
use Rattle.cdcl_state.specs.Searching.{SearchValue}
use Rattle.cdcl_core.specs.Ledgers.{IsLedger, with_id}
use Rattle.cdcl_core.specs.Work.{SolverValue, IsWorking}
use Rattle.cdcl_core.specs.Learnable.{IsLearnable, MayLearn}
use Rattle.cdcl_core.proofs.LedgerLines.{ledger_learned}

-- ---- the clause's variables

-- a literal that a step makes false is of a variable of the trail
false_within : (t : TrailValue) (P : Step → Type 0) (l : Literal) → AreSteps t.vars t.steps → IsFalseBy t P l → (0 < l.var) × (l.var ≤ t.vars)
false_within t P l steps f =
    let range = var_within t.vars t.steps f.place f.step steps f.there in
    let same : f.step.lit.var ≡ l.var = ap (λ (m : Literal). m.var) f.is in
    (omega (arith, range.0, same), omega (arith, range.1, same))

asserting_within : (t : TrailValue) (top level : ℕ) (lits : List Literal) (l : Literal) → AreSteps t.vars t.steps → IsAsserting t top level lits l → All (λ m. (0 < m.var) × (m.var ≤ t.vars)) lits
asserting_within t top level lits l steps asserting = λ k d short. elim (asserting.others k d short) [
  | inl same ↦ subst (λ (m : Literal). (0 < m.var) × (m.var ≤ t.vars)) (sym same) (false_within t (λ s. s.level ≡ top) l steps asserting.at_top)
  | inr f ↦ false_within t (λ s. s.level ≤ level) _ steps f
]

-- ---- before the line, and after it

module _ {R : Type 0} (seen : R → Snapshot) (v : SolverValue R) (level : ℕ) (l : Literal) (line : Line) (work : IsWorking seen v) (can : IsLearnable v.search level l line) where
  abbrev p : ProblemValue
  p = (seen v.recorder).problem

  abbrev lines : List Line
  lines = (seen v.recorder).lines

  abbrev state : StateValue
  state = work.taken.held.state

  abbrev search : SearchValue
  search = v.search

  abbrev trail : TrailValue
  trail = search.trail

  all_stored : IsStored p state state.next_id search.store
  all_stored = subst (λ n. IsStored p state n search.store) work.taken.all work.taken.held.stored

  hinted : AreHints search.store state.vars can.lits can.hints
  hinted = subst (λ n. AreHints search.store n can.lits can.hints) work.taken.vars can.proved

  within : All (λ m. (0 < m.var) × (m.var ≤ state.vars)) can.lits
  within = subst (λ n. All (λ m. (0 < m.var) × (m.var ≤ n)) can.lits) (can.ready.vars ∙ work.taken.vars)
      (asserting_within can.before (last_level can.before.steps) level can.lits l can.ready.search.steps can.ready.asserting)

  closed : IsClosedFor search.store trail
  closed = let back = can.ready.back in
      subst (λ (t : TrailValue). IsClosedFor search.store t) (sym back.is)
      (closed_law search.store can.before level back.keep can.ready.search back.up_to
      (shorter_law can.before (last_level can.before.steps) level back.keep can.lits l can.ready.asserting back.up_to))

  unit : IsUnitUnder (partial trail) (clause can.lits)
  unit = let back = can.ready.back in
      subst (λ (t : TrailValue). IsUnitUnder (partial t) (clause can.lits)) (sym back.is)
      (unit_law search.store can.before (last_level can.before.steps) level back.keep can.lits l can.ready.search can.ready.asserting back.up_to)

  new_clause : IsNewClause p state (clause can.lits) can.hints
  new_clause = new_law p state search.store trail can.lits can.hints work.taken.held.fits work.taken.held.is all_stored work.taken.vars closed unit hinted

  formed_here : IsWellFormed (Learn (clause can.lits) can.hints)
  formed_here = formed_law p state v.next search.store can.lits can.hints work.taken.held.is work.taken.held.stored can.ready.asserting.rising within hinted

  pub formed : IsWellFormed line
  formed = subst IsWellFormed (sym can.learns) formed_here

  may_add : MayBeAdded p lines (Learn (clause can.lits) can.hints)
  may_add = legal_law p lines state v.next search.store can.lits can.hints work.taken.held.is work.taken.held.replay work.taken.unended
      work.taken.held.stored can.ready.asserting.rising within hinted

  pub legal : MayBeAdded p lines line
  legal = subst (λ (x : Line). MayBeAdded p lines x) (sym can.learns) may_add

  -- where there is room for a line, one more clause could be learned
  pub has_more : (s : StateValue) → IsReplay p lines s → s.lines < 2 ^ 61 → HasMore p lines
  has_more s replay room =
      let same = replay_once p lines s state replay work.taken.held.replay in
      let room_here : state.lines < 2 ^ 61 = subst (λ (u : StateValue). u.lines < 2 ^ 61) same room in
      let legal_here = short_law p lines state (Learn (clause can.lits) can.hints) work.taken.held.replay may_add room_here in (
        work.earned.0,
        work.earned.1,
        clause can.lits,
        can.hints,
        formed_here,
        earned_law p lines work.earned.0 state (with_learned state (clause can.lits)) (clause can.lits) can.hints
            work.earned.1 work.taken.held.replay new_clause (record { legal = legal_here; makes = refl }),
      )

  module _ (new : List Line) (added : new ≡ lines ++ line ∷ []) where
    same_lines : new ≡ lines ++ Learn (clause can.lits) can.hints ∷ []
    same_lines = added ∙ ap (λ (x : Line). lines ++ x ∷ []) can.learns

    step_to : (t : StateValue) → IsReplay p new t → IsNext p state (Learn (clause can.lits) can.hints) t
    step_to t replay = replay_before p lines (Learn (clause can.lits) can.hints) state t work.taken.held.replay (subst (λ (ls : List Line). IsReplay p ls t) same_lines replay)

    pub adds : AddsLearned p lines new
    adds = subst (λ (ls : List Line). AddsLearned p lines ls) (sym same_lines) (adds_law p lines (clause can.lits) can.hints)

    pub still_within : MayLearn v.limit p lines → IsWithin v.limit p new
    still_within may = within_after v.limit work.within may
      where
        within_after : (most : Option ℕ) → IsWithin most p lines → MayLearn most p lines → IsWithin most p new
        within_after None old may = tt
        within_after (Some m) old may = λ t replay.
            let count : t.learned ≡ state.learned + 1 = ap (λ (u : StateValue). u.learned) (step_to t replay).makes in
            let low = old state work.taken.held.replay in
            let other : m ≢ state.learned = λ same. may state work.taken.held.replay (ap Some same) in
            omega (arith, count, low, other)

    pub at_work : (b : SolverValue R) (t : StateValue) (id : ℕ) → (seen b.recorder).broken ≡ false → (seen b.recorder).problem ≡ p → (seen b.recorder).lines ≡ new
        → IsReplay (seen b.recorder).problem (seen b.recorder).lines t → IsState t → id ≡ state.next_id → MayLearn v.limit p lines
        → b.search ≡ record { store = insert search.store id (clause can.lits); trail = with_step search.trail (asserted l level id) } → b.ledger ≡ with_id v.ledger id
        → b ≡ record { recorder = b.recorder; limit = v.limit; broken = v.broken; search = b.search; next = id + 1; rows = v.rows; ledger = b.ledger } → IsWorking seen b
    at_work b t id whole same now replayed is named may made entered is_b =
        let replay : IsReplay p new t = subst (λ (ls : List Line). IsReplay p ls t) now (subst (λ (r : ProblemValue). IsReplay r (seen b.recorder).lines t) same replayed) in
        let step = step_to t replay in
        let held = work.taken.held in
        let next_is : t.next_id ≡ state.next_id + 1 = ap (λ (u : StateValue). u.next_id) step.makes in
        let vars_are : t.vars ≡ state.vars = ap (λ (u : StateValue). u.vars) step.makes in
        let same_vars : b.search.trail.vars ≡ search.trail.vars = ap (λ (x : SearchValue). x.trail.vars) made in
        let old_vars = work.taken.vars in
        let stored = stored_law p state t (clause can.lits) can.hints search.store held.is held.fits all_stored step in
        let earned = earned_law p lines work.earned.0 state t (clause can.lits) can.hints work.earned.1 held.replay new_clause step in
        let listed = ledger_learned p lines new state (clause can.lits) can.hints v.next id v.ledger same_lines held.replay held.fits held.is work.taken.all named held.listed in
        subst (IsWorking seen) (sym is_b) (record {
          begun = work.begun;
          whole = whole;
          taken = record {
            held = record {
              state = t;
              replay = replayed;
              fits = fits_law (seen b.recorder).problem (seen b.recorder).lines t replayed;
              is = is;
              row_count = held.row_count ∙ ap (λ (r : ProblemValue). length r.rows) (sym same);
              positive = omega arith;
              stored = subst (λ (r : ProblemValue). IsStored r t (id + 1) b.search.store) (sym same) (subst (λ n. IsStored p t n b.search.store) (omega (arith, next_is, named))
                  (subst (λ (m : LineMap). IsStored p t t.next_id m) (ap (λ n. insert search.store n (clause can.lits)) (sym named) ∙ sym (ap (λ (x : SearchValue). x.store) made)) stored));
              vars = omega (arith, vars_are, same_vars, old_vars);
              listed = subst (λ (r : ProblemValue). IsLedger r (seen b.recorder).lines (id + 1) b.ledger) (sym same)
                  (subst (λ (ls : List Line). IsLedger p ls (id + 1) b.ledger) (sym now) (subst (IsLedger p new (id + 1)) (sym entered) listed));
            };
            all = omega (arith, next_is, named);
            vars = omega (arith, vars_are, same_vars, old_vars);
            unended = ap (λ (u : StateValue). u.ended) step.makes ∙ work.taken.unended;
          };
          earned = (
            work.earned.0 + 1,
            subst (λ (r : ProblemValue). IsEarned r (seen b.recorder).lines (work.earned.0 + 1)) (sym same)
                (subst (λ (ls : List Line). IsEarned p ls (work.earned.0 + 1)) (sym (now ∙ same_lines)) earned),
          );
          within = subst (λ (r : ProblemValue). IsWithin v.limit r (seen b.recorder).lines) (sym same) (subst (λ (ls : List Line). IsWithin v.limit p ls) (sym now) (still_within may));
        })
