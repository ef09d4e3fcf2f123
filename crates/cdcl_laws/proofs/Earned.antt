-- Lines that earn, and clauses that are new.
use Rattle.std.proofs.Common.{◌≡◌, ◌⊎◌, inl, inr, ⊎_elim, ℕ, ◌+◌, Bool, true, Option, Some, None, List, [], ◌∷◌, ◌++◌, All, get_or, refl, arith, add-zero, ap, sym, subst, ◌∙◌}
use Rattle.std.specs.Prelude.{IsSome}
use Rattle.std.specs.FinMap.{get}
use Rattle.std.proofs.lemmas.List.Elements.{All-weaker}
use Rattle.std.proofs.lemmas.List.Sums.{sum_by_push}
use Rattle.scut_base.specs.Literal.{Literal}
use Rattle.pb_lin.specs.Constraint.{ConstraintValue}
use Rattle.pb_lin.specs.LineMap.{LineMap}
use Rattle.pb_lin.specs.Problem.{ProblemValue}
use Rattle.pb_lin.specs.Propagation.{IsClosedUnder}
use Rattle.hint_rup.specs.declared.hint.Hint.{Hint}
use Rattle.hint_rup.specs.declared.hint.Hint.TheVariants.{Id as IdHint}
use Rattle.proof_laws.specs.State.{StateValue, IsState, Fits, start}
use Rattle.proof_laws.specs.Steps.{clause}
use Rattle.proof_laws.specs.Refusal.{is_clause}
use Rattle.proof_laws.specs.Legal.{IsNext}
use Rattle.proof_laws.specs.Replay.{IsReplay}
use Rattle.proof_laws.specs.Earned.{IsEarned, IsNewClause, IsReduction, IsRowOrClause, IsUnitUnder, IsLearnedId, Splits}
use Rattle.proof_laws.specs.declared.line.Line.{Line}
use Rattle.proof_laws.specs.declared.line.Line.TheVariants.{Learn, Del, Reduce}
use Rattle.proof_laws.proofs.Replays.{leads_further, replay_once}
use Rattle.clause_prop.specs.Steps.{TrailValue, partial}
use Rattle.clause_prop.specs.Propagating.{IsClosedFor}
use Rattle.clause_prop.proofs.Assigned.{length-assigned}
use Rattle.cdcl_trail.specs.Learning.{AreHints}
use Rattle.cdcl_laws.specs.StoredLines.{IsStored}
use Rattle.cdcl_laws.proofs.Places.{at_end}
use Rattle.cdcl_laws.proofs.Counts.{learns}

-- what a learned line, a deletion and a reduction have to be, after these lines
abbrev IsNewAt : ProblemValue → List Line → Line → Type 0
IsNewAt p before (Learn goal hints) = (s : StateValue) → IsReplay p before s → IsNewClause p s goal hints
IsNewAt p before (Del ids) = All (λ id. IsLearnedId p before id → ⊥) ids
IsNewAt p before (Reduce ids) = IsReduction p before ids
IsNewAt p before line = Unit {0}

module _ (p : ProblemValue) (lines : List Line) (n : ℕ) (s t : StateValue) (line : Line) (earned : IsEarned p lines n) (replay : IsReplay p lines s) (step : IsNext p s line t) (new : IsNewAt p lines line) where
  -- a place is that of the line, or a place before
  place : (before after : List Line) (y : Line) → Splits (lines ++ line ∷ []) before y after → IsNewAt p before y ⊎ ((rest : List Line) × Splits lines before y rest)
  place before after y splits = ⊎_elim
      (λ (last : (line ≡ y) × (before ≡ lines)). inl (subst (λ (l : Line). IsNewAt p before l) last.0 (subst (λ (ls : List Line). IsNewAt p ls line) (sym last.1) new)))
      (λ (early : (rest : List Line) × (lines ≡ before ++ (y ∷ rest))). inr early)
      (at_end lines before after line y splits)

  line_earns : IsEarned p (lines ++ line ∷ []) (n + learns line)
  line_earns = record {
    replays = (t, leads_further p lines (start p) s t line replay step);
    learned = sum_by_push learns lines line ∙ ap (λ (k : ℕ). k + learns line) earned.learned;
    new = λ before goal hints after u splits replayed. ⊎_elim
        (λ (last : IsNewAt p before (Learn goal hints)). last u replayed)
        (λ (early : (rest : List Line) × Splits lines before (Learn goal hints) rest). earned.new before goal hints early.0 u early.1 replayed)
        (place before after (Learn goal hints) splits);
    kept = λ before ids after splits. ⊎_elim
        (λ (last : IsNewAt p before (Del ids)). last)
        (λ (early : (rest : List Line) × Splits lines before (Del ids) rest). earned.kept before ids early.0 early.1)
        (place before after (Del ids) splits);
    reductions = λ before ids after splits. ⊎_elim
        (λ (last : IsNewAt p before (Reduce ids)). last)
        (λ (early : (rest : List Line) × Splits lines before (Reduce ids) rest). earned.reductions before ids early.0 early.1)
        (place before after (Reduce ids) splits);
  }

pub learned_law : (p : ProblemValue) (lines : List Line) (n : ℕ) (s t : StateValue) (goal : ConstraintValue) (hints : List Hint) → IsEarned p lines n → IsReplay p lines s → IsNewClause p s goal hints → IsNext p s (Learn goal hints) t → IsEarned p (lines ++ Learn goal hints ∷ []) (n + 1)
learned_law p lines n s t goal hints earned replay new step =
    line_earns p lines n s t (Learn goal hints) earned replay step (λ u replayed. subst (λ (v : StateValue). IsNewClause p v goal hints) (replay_once p lines s u replay replayed) new)

pub reduction_law : (p : ProblemValue) (lines : List Line) (n : ℕ) (s t : StateValue) (ids : List ℕ) → IsEarned p lines n → IsReplay p lines s → IsReduction p lines ids → IsNext p s (Reduce ids) t → IsEarned p (lines ++ Reduce ids ∷ []) n
reduction_law p lines n s t ids earned replay new step =
    subst (λ (k : ℕ). IsEarned p (lines ++ Reduce ids ∷ []) k) (add-zero n) (line_earns p lines n s t (Reduce ids) earned replay step new)

-- ---- clauses that are new

pub value_of_some : (o : Option ConstraintValue) → IsSome o → (c : ConstraintValue) × (o ≡ Some c)
value_of_some None some = cc
value_of_some (Some c) some = (c, refl)

module _ (p : ProblemValue) (s : StateValue) (store : LineMap) (held : IsStored p s s.next_id store) where
  source_of : (h : Hint) → (id : ℕ) × (h ≡ IdHint id) × IsSome (get store id) → (id : ℕ) × (h ≡ IdHint id) × IsRowOrClause p s id
  source_of h source = let line = value_of_some (get store source.0) source.2 in (source.0, source.1, (held.live source.0 line.0 line.1).2)

  rows_closed : Fits p s → IsState s → (q : List (Option Bool)) → ((id : ℕ) (c : ConstraintValue) → get store id ≡ Some c → IsClosedUnder q c) → All (IsClosedUnder q) p.rows
  rows_closed fits state q closed k d short =
      let row = get_or p.rows k d in
      let live = fits.rows k d short in
      let ids = state.ids (k + 1) row live in
      closed (k + 1) row (held.all (k + 1) row ids.1 live (inl (ids.0, omega (arith, short))))

  clauses_closed : IsState s → (q : List (Option Bool)) → ((id : ℕ) (c : ConstraintValue) → get store id ≡ Some c → IsClosedUnder q c) → (id : ℕ) (c : ConstraintValue) → get s.live id ≡ Some c → is_clause c ≡ true → IsClosedUnder q c
  clauses_closed state q closed id c live clause = closed id c (held.all id c (state.ids id c live).1 live (inr (c, live, clause)))

pub new_law : (p : ProblemValue) (s : StateValue) (store : LineMap) (t : TrailValue) (lits : List Literal) (hints : List Hint) → Fits p s → IsState s → IsStored p s s.next_id store → t.vars ≡ s.vars → IsClosedFor store t → IsUnitUnder (partial t) (clause lits) → AreHints store s.vars lits hints → IsNewClause p s (clause lits) hints
new_law p s store t lits hints fits state held vars closed unit given = record {
  sources = All-weaker (λ (h : Hint). (id : ℕ) × (h ≡ IdHint id) × IsSome (get store id)) (λ (h : Hint). (id : ℕ) × (h ≡ IdHint id) × IsRowOrClause p s id) (source_of p s store held) hints given.ids;
  unit = (
    partial t,
    record {
      long = length-assigned t.vars t.steps ∙ vars;
      rows = rows_closed p s store held fits state (partial t) closed;
      clauses = clauses_closed p s store held state (partial t) closed;
    },
    unit,
  );
}
