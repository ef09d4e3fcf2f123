-- Clauses that stored hints prove are legal lines.
use Rattle.std.proofs.Common.{◌≡◌, ◌⊎◌, ℕ, suc, ◌+◌, ◌^◌, ◌<◌, ◌≤◌, false, Option, None, Some, List, [], ◌∷◌, length, All, AllPairs, refl, arith, ap, sym, subst, ◌∙◌, Ok, replicate}
use Rattle.std.specs.Prelude.{IsSome}
use Rattle.std.specs.FinMap.{get}
use Rattle.std.proofs.lemmas.List.{length-map}
use Rattle.std.proofs.lemmas.List.Elements.{All-head, All-tail, All-map, All-weaker}
use Rattle.scut_base.specs.Literal.{Literal}
use Rattle.pb_lin.specs.Constraint.{ConstraintValue, negation, size, ones, total}
use Rattle.pb_lin.specs.Given.{Given}
use Rattle.pb_lin.specs.LineMap.{LineMap}
use Rattle.pb_lin.specs.Problem.{ProblemValue}
use Rattle.pb_lin.proofs.Ones.{total_ones, AreOnes-ones}
use Rattle.pb_lin.proofs.OppositeTerms.{total-opposite}
use Rattle.hint_rup.specs.Hints.{line_of, before, named}
use Rattle.hint_rup.specs.Propagation.{Conflicts}
use Rattle.hint_rup.specs.declared.hint.Hint.{Hint}
use Rattle.hint_rup.specs.declared.hint.Hint.TheVariants.{Id as IdHint}
use Rattle.proof_laws.specs.State.{StateValue, IsState}
use Rattle.proof_laws.specs.Steps.{clause}
use Rattle.proof_laws.specs.Refusal.{fault_unless, given_in, is_clause, range_fault, size_fault, term_variables, IsHintsFault, IsRupFault}
use Rattle.proof_laws.specs.Replay.{IsReplay}
use Rattle.proof_laws.specs.Legal.{IsLegal, IsRefused}
use Rattle.proof_laws.specs.WellFormed.{IsWellFormed, IsConstraint, IsHint, IsVariable}
use Rattle.proof_laws.specs.declared.line.Line.{Line}
use Rattle.proof_laws.specs.declared.line.Line.TheVariants.{Learn, Rup}
use Rattle.proof_laws.specs.declared.why.Why.TheVariants.{LogLong, NotClause, RupOpen}
use Rattle.proof_laws.proofs.Conditions.{no_first, no_fault, no_size_fault, no_range_fault, clause_tested, may_follow}
use Rattle.proof_laws.proofs.NextStates.{clause_is_normal}
use Rattle.proof_laws.proofs.Replays.{replay_once}
use Rattle.proof_rules.specs.Recording.{MayBeAdded}
use Rattle.cdcl_trail.specs.Learning.{AreHints, stored}
use Rattle.cdcl_laws.specs.StoredLines.{IsStored}
use Rattle.cdcl_laws.proofs.Earned.{value_of_some}

-- a hint that names a stored line
abbrev IsStoredId : LineMap → Hint → Type 0
IsStoredId store h = (id : ℕ) × (h ≡ IdHint id) × IsSome (get store id)

-- ---- the clause

-- literals of rising variables between m and n are no more than these
rising_few : (m n : ℕ) (lits : List Literal) → m ≤ n → All (λ l. (m < l.var) × (l.var ≤ n)) lits → AllPairs (λ l k. l.var < k.var) lits → length lits + m ≤ n
rising_few m n [] le between rising = omega (arith, le)
rising_few m n (l ∷ lits) le between rising =
    let here = All-head (λ k. (m < k.var) × (k.var ≤ n)) l lits between in
    let rest = rising_few l.var n lits here.1
    (λ i d less. (rising 0 (suc i) d (omega arith) (omega (arith, less)), (between (suc i) d (omega (arith, less))).1))
    (λ i j d less inside. rising (suc i) (suc j) d (omega (arith, less)) (omega (arith, inside))) in
    omega (arith, rest, here.0)

-- ---- the hints

lines_same : (one other : Given) (hints : List Hint) → All (λ h. line_of one h ≡ line_of other h) hints → named one hints ≡ named other hints
unfolding named
lines_same one other [] all = refl
lines_same one other (h ∷ hints) all =
    ap (λ (o : Option ConstraintValue). before o (named one hints)) (All-head (λ g. line_of one g ≡ line_of other g) h hints all)
    ∙ ap (before (line_of other h)) (lines_same one other hints (All-tail (λ g. line_of one g ≡ line_of other g) h hints all))

module _ (p : ProblemValue) (s : StateValue) (next : ℕ) (store : LineMap) (lits : List Literal) (hints : List Hint) (state : IsState s) (held : IsStored p s next store) (rising : AllPairs (λ l m. l.var < m.var) lits) (within : All (λ l. (0 < l.var) × (l.var ≤ s.vars)) lits) (given : AreHints store s.vars lits hints) where
  from_one : All (λ l. 0 < l.var) lits
  from_one = All-weaker (λ (l : Literal). (0 < l.var) × (l.var ≤ s.vars)) (λ (l : Literal). 0 < l.var) (λ l w. w.0) lits within

  upto : All (λ l. l.var ≤ s.vars) lits
  upto = All-weaker (λ (l : Literal). (0 < l.var) × (l.var ≤ s.vars)) (λ (l : Literal). l.var ≤ s.vars) (λ l w. w.1) lits within

  few : s.vars < 2 ^ 63
  few = omega (arith, state.vars, state.lines)

  is_constraint : IsConstraint (clause lits)
  is_constraint = record {
    normal = clause_is_normal s.vars lits few from_one upto rising;
    variables = All-map (λ (t : Literal × ℕ). IsVariable t.0.var) (λ l. (l, 1)) lits
        (All-weaker (λ (l : Literal). (0 < l.var) × (l.var ≤ s.vars)) (λ (l : Literal). IsVariable l.var) (λ l w. (w.0, omega (arith, w.1, few))) lits within);
  }

  is_hint : (h : Hint) → IsStoredId store h → IsHint h
  is_hint h source =
      let line = value_of_some (get store source.0) source.2 in
      let below = (held.live source.0 line.0 line.1).0 in
      subst IsHint (sym source.1) (omega (arith, below, held.within, state.next_id, state.lines))

  pub formed : IsWellFormed (Learn (clause lits) hints)
  formed = (is_constraint, All-weaker (IsStoredId store) IsHint is_hint hints given.ids)

  -- the lines that the hints name are live
  line_is_live : (negated : ConstraintValue) (h : Hint) → IsStoredId store h → line_of (stored store) h ≡ line_of (given_in s (Some negated) None) h
  line_is_live negated h source =
      let line = value_of_some (get store source.0) source.2 in
      ap (line_of (stored store)) source.1 ∙ line.1 ∙ sym (held.live source.0 line.0 line.1).1 ∙ ap (line_of (given_in s (Some negated) None)) (sym source.1)

  leads_to_conflict : IsHintsFault s (negation (clause lits)) None hints RupOpen None
  leads_to_conflict =
      let negated = negation (clause lits) in
      let same = lines_same (stored store) (given_in s (Some negated) None) hints
      (All-weaker (IsStoredId store) (λ h. line_of (stored store) h ≡ line_of (given_in s (Some negated) None) h) (line_is_live negated) hints given.ids) in
      (Ok tt, subst (λ (cs : List ConstraintValue). Conflicts (replicate s.vars None) (negated ∷ cs)) same given.conflict, refl)

  negation_small : size (negation (clause lits)) ≤ 2 ^ 100
  negation_small =
      let count : total (ones lits) ≡ length (ones lits) = total_ones (ones lits) (AreOnes-ones lits) in
      let long : length (ones lits) ≡ length lits = length-map lits (λ l. (l, 1)) in
      let opposites = total-opposite (ones lits) in
      let short = rising_few 0 s.vars lits (omega arith) within rising in
      omega (arith, count, long, opposites, short, few)

  follows : IsRupFault s (clause lits) hints None
  follows = no_first (size_fault (size (negation (clause lits)))) (IsHintsFault s (negation (clause lits)) None hints RupOpen) None (no_size_fault (size (negation (clause lits))) negation_small) leads_to_conflict

  written_within : range_fault s.vars (term_variables (ones lits)) ≡ None
  written_within = no_range_fault s.vars (term_variables (ones lits)) (All-map (λ v. v ≤ s.vars) (λ t. t.0.var) (ones lits) (All-map (λ t. t.0.var ≤ s.vars) (λ l. (l, 1)) lits upto))

  learned_here : s.ended ≡ false → IsLegal p s (Learn (clause lits) hints) ⊎ IsRefused p s (Learn (clause lits) hints) LogLong
  learned_here running = may_follow p s (Learn (clause lits) hints) running written_within
      (no_first (fault_unless (is_clause (clause lits)) NotClause) (IsRupFault s (clause lits) hints) None (no_fault (is_clause (clause lits)) NotClause (clause_tested lits)) follows)

  implied_here : s.ended ≡ false → IsLegal p s (Rup (clause lits) hints) ⊎ IsRefused p s (Rup (clause lits) hints) LogLong
  implied_here running = may_follow p s (Rup (clause lits) hints) running written_within follows

-- what may follow in the one state that lines reach may be added to them
may_be_added : (p : ProblemValue) (lines : List Line) (s : StateValue) (line : Line) → IsReplay p lines s → IsLegal p s line ⊎ IsRefused p s line LogLong → MayBeAdded p lines line
may_be_added p lines s line replay may t replayed = subst (λ (u : StateValue). IsLegal p u line ⊎ IsRefused p u line LogLong) (replay_once p lines s t replay replayed) may

pub formed_law : (p : ProblemValue) (s : StateValue) (next : ℕ) (store : LineMap) (lits : List Literal) (hints : List Hint) → IsState s → IsStored p s next store → AllPairs (λ l m. l.var < m.var) lits → All (λ l. (0 < l.var) × (l.var ≤ s.vars)) lits → AreHints store s.vars lits hints → IsWellFormed (Learn (clause lits) hints)
formed_law p s next store lits hints state held rising within given = formed p s next store lits hints state held rising within given

pub learned_law : (p : ProblemValue) (lines : List Line) (s : StateValue) (next : ℕ) (store : LineMap) (lits : List Literal) (hints : List Hint) → IsState s → IsReplay p lines s → s.ended ≡ false → IsStored p s next store → AllPairs (λ l m. l.var < m.var) lits → All (λ l. (0 < l.var) × (l.var ≤ s.vars)) lits → AreHints store s.vars lits hints → MayBeAdded p lines (Learn (clause lits) hints)
learned_law p lines s next store lits hints state replay running held rising within given = may_be_added p lines s (Learn (clause lits) hints) replay (learned_here p s next store lits hints state held rising within given running)

pub implied_law : (p : ProblemValue) (lines : List Line) (s : StateValue) (next : ℕ) (store : LineMap) (lits : List Literal) (hints : List Hint) → IsState s → IsReplay p lines s → s.ended ≡ false → IsStored p s next store → AllPairs (λ l m. l.var < m.var) lits → All (λ l. (0 < l.var) × (l.var ≤ s.vars)) lits → AreHints store s.vars lits hints → MayBeAdded p lines (Rup (clause lits) hints)
implied_law p lines s next store lits hints state replay running held rising within given = may_be_added p lines s (Rup (clause lits) hints) replay (implied_here p s next store lits hints state held rising within given running)
