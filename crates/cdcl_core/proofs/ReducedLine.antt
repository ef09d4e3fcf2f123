-- The line of a reduction: it may stand directly after a learned line, and what is so after it.
use Rattle.std.proofs.Common.{◌≡◌, ◌≢◌, ◌⊎◌, inl, inr, ℕ, ◌+◌, ◌-◌, ◌*◌, ◌^◌, ◌<◌, ◌&&◌, Bool, true, false, not, Option, Some, None, List, [], ◌∷◌, ◌++◌, length, All, refl, arith, sym, ap, ◌∙◌, subst}
use Rattle.std.specs.Prelude.{IfSome, IsSome, is_some, nat_lt, option_map, fold}
use Rattle.std.specs.List.{count_by, find}
use Rattle.std.specs.FinMap.{get, remove, contains_key}
use Rattle.std.proofs.lemmas.Bool.{cond-false, lt-ltb}
use Rattle.std.proofs.lemmas.List.Elements.{All-head, All-tail, All-weaker}
use Rattle.pb_lin.specs.Constraint.{ConstraintValue}
use Rattle.pb_lin.specs.Problem.{ProblemValue}
use Rattle.proof_laws.specs.State.{StateValue, IsState}
use Rattle.proof_laws.specs.Steps.{without_lines}
use Rattle.proof_laws.specs.Legal.{IsLegal, IsNext, IsRefused}
use Rattle.proof_laws.specs.Refusal.{FirstOf, fault_unless, is_deletable, IsRuleFault}
use Rattle.proof_laws.specs.Replay.{IsReplay}
use Rattle.proof_laws.specs.Earned.{IsEarned, IsLearnedId, IsReduction, is_reduce}
use Rattle.proof_laws.specs.WellFormed.{IsId, IsWellFormed}
use Rattle.proof_laws.specs.declared.line.Line.{Line}
use Rattle.proof_laws.specs.declared.line.Line.TheVariants.{Reduce}
use Rattle.proof_laws.specs.declared.why.Why.{Why}
use Rattle.proof_laws.specs.declared.why.Why.TheVariants.{AfterEnd, LogLong, NoSuchId}
use Rattle.proof_laws.proofs.Replays.{replay_before, replay_once}
use Rattle.proof_rules.specs.Recording.{MayBeAdded, Snapshot}
use Rattle.oracle.specs.Solving.{IsWithin, Reaches}
use Rattle.cdcl_laws.specs.SearchLines.{AddsLearned}
use Rattle.cdcl_laws.proofs.Earned.{reduction_law}
use Rattle.cdcl_laws.proofs.Counts.{counted_law}
use Rattle.cdcl_laws.proofs.SearchLines.{reduced_law}
use Rattle.cdcl_state.specs.Searching.{SearchValue}
use Rattle.cdcl_core.specs.Ledgers.{LedgerValue, EndsLearned, IsDue, IsPart, ledger_after, with_ids}
use Rattle.cdcl_core.specs.Work.{SolverValue, IsHeld, IsWorking}
use Rattle.cdcl_core.proofs.HeldLines.{held_added}
use Rattle.cdcl_core.proofs.LedgerLines.{ledger_part, part_all}
use Rattle.cdcl_core.proofs.Working.{with_ledger, working_listed}

-- ---- conditions without a fault

no_first : (o : Option Why) (Rest : Option Why → Type 0) (f : Option Why) → o ≡ None → Rest f → FirstOf o Rest f
no_first o Rest f none rest = subst (λ (first : Option Why). FirstOf first Rest f) (sym none) rest

-- a deletion without a fault of its own may follow where the proof hasn't ended
may_follow : (p : ProblemValue) (s : StateValue) (ids : List ℕ) → s.ended ≡ false → IsRuleFault p s (Reduce ids) None → IsLegal p s (Reduce ids) ⊎ IsRefused p s (Reduce ids) LogLong
may_follow p s ids running rule = by (nat_lt s.lines (2 ^ 61)) refl
  where
    started : fault_unless (not s.ended) AfterEnd ≡ None
    started = ap (λ (b : Bool). fault_unless (not b) AfterEnd) running

    long : Option Why → Type 0
    long = FirstOf (fault_unless (nat_lt s.lines (2 ^ 61)) LogLong) (IsRuleFault p s (Reduce ids))

    by : (b : Bool) → nat_lt s.lines (2 ^ 61) ≡ b → IsLegal p s (Reduce ids) ⊎ IsRefused p s (Reduce ids) LogLong
    by true short = inl (no_first (fault_unless (not s.ended) AfterEnd) long None started
        (no_first (fault_unless (nat_lt s.lines (2 ^ 61)) LogLong) (IsRuleFault p s (Reduce ids)) None (ap (λ (b : Bool). fault_unless b LogLong) short) rule))
    by false full = inr (no_first (fault_unless (not s.ended) AfterEnd) long (Some LogLong) started
        (subst (λ (b : Bool). FirstOf (fault_unless b LogLong) (IsRuleFault p s (Reduce ids)) (Some LogLong)) (sym full) refl))

none_found : (test : ℕ → Bool) (ids : List ℕ) → All (λ id. test id ≡ true) ids → find (λ id. not (test id)) ids ≡ None
none_found test [] all = refl
none_found test (id ∷ ids) all =
    cond-false (not (test id)) (Some id) (find (λ i. not (test i)) ids) (ap not (All-head (λ i. test i ≡ true) id ids all))
    ∙ none_found test ids (All-tail (λ i. test i ≡ true) id ids all)

value_of_some : (o : Option ConstraintValue) → IsSome o → (c : ConstraintValue) × (o ≡ Some c)
value_of_some None some = cc
value_of_some (Some c) some = (c, refl)

-- ---- before the line

module _ {R : Type 0} (seen : R → Snapshot) (v : SolverValue R) (named : List ℕ)
    (work : IsWorking seen v) (part : IsPart named v.ledger.ids) (live : All (λ id. IsSome (get v.search.store id)) named) where
  abbrev p : ProblemValue
  p = (seen v.recorder).problem

  abbrev lines : List Line
  lines = (seen v.recorder).lines

  abbrev state : StateValue
  state = work.taken.held.state

  abbrev search : SearchValue
  search = v.search

  abbrev ledger : LedgerValue
  ledger = v.ledger

  between : All (λ id. (length p.rows < id) × (id < v.next)) named
  between = part_all (λ id. (length p.rows < id) × (id < v.next)) named ledger.ids part work.taken.held.listed.between

  ids_small : All IsId named
  ids_small = All-weaker (λ (id : ℕ). (length p.rows < id) × (id < v.next)) IsId
      (λ id within. let held = work.taken.held in omega (arith, within.1, held.stored.within, held.is.next_id, held.is.lines)) named between

  pub formed : named ≢ [] → IsWellFormed (Reduce named)
  formed some = (some, ids_small, part.rising work.taken.held.listed.rising)

  deletable : (id : ℕ) → (length p.rows < id) × (id < v.next) → IsSome (get search.store id) → is_deletable p state id ≡ true
  deletable id within some =
      let line = value_of_some (get search.store id) some in
      let there : get state.live id ≡ Some line.0 = (work.taken.held.stored.live id line.0 line.1).1 in
      ap (λ (b : Bool). b && contains_key state.live id) (lt-ltb (length p.rows) id within.0) ∙ ap is_some there

  all_deletable : All (λ id. is_deletable p state id ≡ true) named
  all_deletable = λ k d less. deletable _ (between k d less) (live k d less)

  pub legal : MayBeAdded p lines (Reduce named)
  legal s replay = subst (λ (u : StateValue). IsLegal p u (Reduce named) ⊎ IsRefused p u (Reduce named) LogLong) (replay_once p lines state s work.taken.held.replay replay)
      (may_follow p state named work.taken.unended (sym (ap (option_map NoSuchId) (none_found (is_deletable p state) named all_deletable))))

  pub is_reduction : EndsLearned lines → Reaches p lines (λ s. IsDue ledger.reductions s.learned) → IsReduction p lines named
  is_reduction last due = by ledger.reductions refl
    where
      held : IsHeld seen v
      held = work.taken.held

      by : (o : Option ℕ) → ledger.reductions ≡ o → IsReduction p lines named
      by None none = absurd (subst (λ (o : Option ℕ). IsDue o state.learned) none (due state held.replay))
      by (Some n) some =
          let is = subst (λ (o : Option ℕ). IsDue o state.learned) some (due state held.replay) in
          let count : count_by is_reduce lines ≡ n = subst (λ (o : Option ℕ). IfSome o (λ m. count_by is_reduce lines ≡ m)) some held.listed.counted in
          record {
            number = subst (λ m. m < 40) (sym count) is.0;
            place = last;
            learned = sym (counted_law p lines state held.replay) ∙ is.1 ∙ ap (λ m. 1000 * (2 ^ (m + 1) - 1)) (sym count);
            named = part_all (IsLearnedId p lines) named ledger.ids part held.listed.learned;
          }

  -- ---- after the line

  module _ (new : List Line) (added : new ≡ lines ++ Reduce named ∷ []) where
    pub adds : AddsLearned p lines new
    adds = subst (λ (ls : List Line). AddsLearned p lines ls) (sym added) (reduced_law p lines named (part_all (IsLearnedId p lines) named ledger.ids part work.taken.held.listed.learned))

    step_to : (t : StateValue) → IsReplay p new t → IsNext p state (Reduce named) t
    step_to t replay = replay_before p lines (Reduce named) state t work.taken.held.replay (subst (λ (ls : List Line). IsReplay p ls t) added replay)

    pub still_within : IsWithin v.limit p new
    still_within = within_after v.limit work.within
      where
        within_after : (most : Option ℕ) → IsWithin most p lines → IsWithin most p new
        within_after None old = tt
        within_after (Some m) old = λ t replay.
            let count : t.learned ≡ state.learned = ap (λ (u : StateValue). u.learned) (step_to t replay).makes in
            let low = old state work.taken.held.replay in
            omega (arith, count, low)

    -- the ledger keeps these clauses alone
    pub at_work : EndsLearned lines → Reaches p lines (λ s. IsDue ledger.reductions s.learned) → (b : SolverValue R) (t : StateValue) (kept : List ℕ)
        → (seen b.recorder).broken ≡ false → (seen b.recorder).problem ≡ p → (seen b.recorder).lines ≡ new → IsReplay (seen b.recorder).problem (seen b.recorder).lines t → IsState t
        → b.search.store ≡ fold remove search.store named → b.search.trail.vars ≡ search.trail.vars → IsPart kept ledger.ids → b.ledger ≡ with_ids (ledger_after ledger (Reduce named)) kept
        → b ≡ record { recorder = b.recorder; limit = v.limit; broken = v.broken; search = b.search; next = v.next; rows = v.rows; ledger = b.ledger } → IsWorking seen b
    at_work last due b t kept whole same now replayed is store vars among ledger_is is_b =
        let noted_ledger : LedgerValue = ledger_after ledger (Reduce named) in
        let noted_solver : SolverValue R = record { recorder = b.recorder; limit = v.limit; broken = v.broken; search = b.search; next = v.next; rows = v.rows; ledger = noted_ledger } in
        let replay : IsReplay p new t = subst (λ (ls : List Line). IsReplay p ls t) now (subst (λ (r : ProblemValue). IsReplay r (seen b.recorder).lines t) same replayed) in
        let step = step_to t replay in
        let held = held_added seen v noted_solver (Reduce named) t work.taken.held same (now ∙ added) replayed is refl refl store vars refl in
        let same_state : held.state ≡ t = replay_once (seen b.recorder).problem (seen b.recorder).lines held.state t held.replay replayed in
        let makes : held.state ≡ without_lines state named = same_state ∙ step.makes in
        let next_is : held.state.next_id ≡ state.next_id + 0 = ap (λ (u : StateValue). u.next_id) makes in
        let vars_are : held.state.vars ≡ state.vars = ap (λ (u : StateValue). u.vars) makes in
        let all = work.taken.all in
        let old_vars = work.taken.vars in
        let earned = reduction_law p lines work.earned.0 state t named work.earned.1 work.taken.held.replay (is_reduction last due) step in
        let working : IsWorking seen noted_solver = record {
          begun = work.begun;
          whole = whole;
          taken = record {
            held = held;
            all = omega (arith, next_is, all);
            vars = omega (arith, vars_are, vars, old_vars);
            unended = ap (λ (u : StateValue). u.ended) makes ∙ work.taken.unended;
          };
          earned = (
            work.earned.0,
            subst (λ (r : ProblemValue). IsEarned r (seen b.recorder).lines work.earned.0) (sym same)
                (subst (λ (ls : List Line). IsEarned p ls work.earned.0) (sym (now ∙ added)) earned),
          );
          within = subst (λ (r : ProblemValue). IsWithin v.limit r (seen b.recorder).lines) (sym same) (subst (λ (ls : List Line). IsWithin v.limit p ls) (sym now) still_within);
        } in
        let listed = ledger_part (seen b.recorder).problem (seen b.recorder).lines v.next noted_ledger kept among held.listed in
        subst (IsWorking seen) (sym (is_b ∙ ap (λ (l : LedgerValue). with_ledger seen noted_solver l) ledger_is))
        (working_listed seen noted_solver (with_ids noted_ledger kept) listed working)
