-- What every legal line keeps: that the state is one, that it fits the problem, and that every model is covered.
use Rattle.std.proofs.Common.{◌≡◌, ℕ, ◌+◌, ◌^◌, ◌<◌, ◌≤◌, false, not, None, List, [], ◌∷◌, ◌++◌, length, refl, arith, sym, subst}
use Rattle.std.specs.Prelude.{nat_lt}
use Rattle.std.specs.List.{All, flat_map}
use Rattle.std.proofs.lemmas.Bool.{ltb-true, not-true}
use Rattle.std.proofs.lemmas.List.{length-map}
use Rattle.std.proofs.lemmas.List.Elements.{All-nil, All-cons, All-head, All-tail, All-map, All-push}
use Rattle.scut_base.specs.Literal.{Literal}
use Rattle.pb_lin.specs.Constraint.{ConstraintValue, IsNormal, TermsUpTo, size}
use Rattle.pb_lin.specs.CostRow.{row_cost}
use Rattle.pb_lin.specs.Problem.{ProblemValue, IsProblem, problem_costs}
use Rattle.pb_lin.specs.Given.{GivenWithin}
use Rattle.cutting_planes.specs.Stack.{TokenUpTo}
use Rattle.cutting_planes.specs.declared.token.PolToken.{PolToken}
use Rattle.cutting_planes.specs.declared.token.PolToken.TheVariants.{Id, Axiom, Negated, Denied, Add, Mul, Div, Saturate, Weaken}
use Rattle.proof_laws.specs.WellFormed.{IsWellFormed, IsConstraint, IsToken}
use Rattle.proof_laws.specs.State.{StateValue, IsState, Fits, CoversAll, start}
use Rattle.proof_laws.specs.Steps.{with_line, with_learned, with_definition, with_solution, without_lines, with_end, clause, reached_if, reached_only_if}
use Rattle.proof_laws.specs.Refusal.{given_in, image_variables, proof_variables, token_variables, assignment_of, deletion_fault}
use Rattle.proof_laws.specs.Legal.{IsNext}
use Rattle.proof_laws.specs.Replay.{Leads, IsReplay}
use Rattle.proof_laws.specs.Laws.{StartIsSound, ReplayIsSound, NextFits, NextCovers, ReplaysAreSound, EndedIsEmpty}
use Rattle.proof_laws.specs.declared.line.Line.{Line}
use Rattle.proof_laws.specs.declared.line.Line.TheVariants.{Pol, Rup, Learn, Def, Red, Dom, Sol, Del, Reduce, End}
use Rattle.proof_laws.specs.declared.why.Why.TheVariants.{AfterEnd, LogLong}
use Rattle.cutting_planes.proofs.Within.{value_is_within}
use Rattle.proof_laws.proofs.Semantics.{AreWithin}
use Rattle.proof_laws.proofs.Derivations.{unless_none}
use Rattle.proof_laws.proofs.CoverSteps.{start_is_covered, nothing_satisfies}
use Rattle.proof_laws.proofs.Ranges.{range_bounds, all_prefix, all_suffix, def_parts, terms_upto, literals_upto}
use Rattle.proof_laws.proofs.Solutions.{sol_parts}
use Rattle.proof_laws.proofs.NextCovers.{legal_parts, LegalParts, goal_within, goal_alone_within, next_keeps}
use Rattle.proof_laws.proofs.NextFits.{fits_within, start_is_state, start_fits_problem}
use Rattle.proof_laws.proofs.NextStates.{size_within, line_is_state, learned_is_state, solution_is_state, definition_is_state, fewer_is_state, end_is_state, ends_by_contradiction, upper_is_normal, lower_is_normal, upper_upto, lower_upto, clause_is_normal, line_rows, definition_rows, fits_from, fewer_rows, deletions_above}

upto_from_within : (n : ℕ) (terms : List (Literal × ℕ)) → AreWithin n terms → TermsUpTo n terms
upto_from_within n terms within i t less = (within i t less).1

token_upto : (n : ℕ) (t : PolToken) → IsToken t → All (λ v. v ≤ n) (token_variables t) → TokenUpTo n t
token_upto n (Id id) formed upto = tt
token_upto n (Axiom l) formed upto = (formed.0, All-head (λ v. v ≤ n) l.var [] upto)
token_upto n Negated formed upto = tt
token_upto n Denied formed upto = tt
token_upto n Add formed upto = tt
token_upto n (Mul k) formed upto = tt
token_upto n (Div k) formed upto = tt
token_upto n Saturate formed upto = tt
token_upto n (Weaken var) formed upto = tt

tokens_upto : (n : ℕ) (tokens : List PolToken) → All IsToken tokens → All (λ v. v ≤ n) (flat_map token_variables tokens) → All (TokenUpTo n) tokens
tokens_upto n [] formed upto = All-nil (TokenUpTo n)
tokens_upto n (t ∷ tokens) formed upto = All-cons (TokenUpTo n) t tokens
    (token_upto n t (All-head IsToken t tokens formed) (all_prefix (λ v. v ≤ n) (token_variables t) (flat_map token_variables tokens) upto))
    (tokens_upto n tokens (All-tail IsToken t tokens formed) (all_suffix (λ v. v ≤ n) (token_variables t) (flat_map token_variables tokens) upto))

module _ (p : ProblemValue) (s : StateValue) (problem : IsProblem p) (state : IsState s) (fits : Fits p s) where
  abbrev StateFits : StateValue → Type 0
  StateFits t = IsState t × Fits p t

  is_open : (line : Line) → LegalParts p s line → s.ended ≡ false
  is_open line parts = not-true s.ended (unless_none (not s.ended) AfterEnd parts.open')

  is_short : (line : Line) → LegalParts p s line → s.lines < 2 ^ 61
  is_short line parts = ltb-true s.lines (2 ^ 61) (unless_none (nat_lt s.lines (2 ^ 61)) LogLong parts.short)

  -- after a line that makes this constraint
  line_fits : (line : Line) → LegalParts p s line → (c : ConstraintValue) → IsNormal c.terms c.degree → TermsUpTo s.vars c.terms → StateFits (with_line s c)
  line_fits line parts c normal upto = (
    line_is_state s state (is_short line parts) (is_open line parts) c normal upto,
    fits_from p s state fits (with_line s c) (line_rows p s state fits c) (omega arith) fits.sols,
  )

  substituted_fits : (line : Line) → LegalParts p s line → (goal : ConstraintValue) → IsConstraint goal → AreWithin s.vars goal.terms → StateFits (with_line s goal)
  substituted_fits line parts goal formed within = line_fits line parts goal formed.normal (upto_from_within s.vars goal.terms within)

  fewer_fits : (line : Line) → LegalParts p s line → (ids : List ℕ) → deletion_fault p s ids ≡ None → StateFits (without_lines s ids)
  fewer_fits line parts ids e = (
    fewer_is_state s state (is_short line parts) (is_open line parts) ids,
    fits_from p s state fits (without_lines s ids) (fewer_rows p s ids (deletions_above p s ids e) fits.rows) (omega arith) fits.sols,
  )

  pub next_fits_all : (line : Line) (t : StateValue) → IsWellFormed line → IsNext p s line t → StateFits t
  next_fits_all (Pol tokens) t formed next =
      let line : Line = Pol tokens in
      let parts = legal_parts p s line next.legal in
      let made = next.makes in
      let given : GivenWithin s.vars (given_in s None None) = record { lines = λ id c is. record { normal = state.normal id c is; upto = state.variables id c is }; negated = tt; denied = tt } in
      let own = value_is_within (given_in s None None) tokens made.0 s.vars given (tokens_upto s.vars tokens formed.1 (range_bounds s.vars (flat_map token_variables tokens) parts.range)) made.1 in
      subst StateFits (sym made.2) (line_fits line parts made.0 own.normal own.upto)
  next_fits_all (Rup goal hints) t formed next =
      let parts = legal_parts p s (Rup goal hints) next.legal in
      subst StateFits (sym next.makes) (substituted_fits (Rup goal hints) parts goal formed.0 (goal_alone_within s goal formed.0 parts.range))
  next_fits_all (Learn goal hints) t formed next =
      let line : Line = Learn goal hints in
      let parts = legal_parts p s line next.legal in
      let upto = upto_from_within s.vars goal.terms (goal_alone_within s goal formed.0 parts.range) in
      subst StateFits (sym next.makes) (
        learned_is_state s state (is_short line parts) (is_open line parts) goal formed.0.normal upto,
        fits_from p s state fits (with_learned s goal) (line_rows p s state fits goal) (omega arith) fits.sols,
      )
  next_fits_all (Def var sum) t formed next =
      let line : Line = Def var sum in
      let parts = legal_parts p s line next.legal in
      let defines = def_parts s var sum (sym parts.rule) in
      let normal = formed.1.normal in
      let upto : TermsUpTo s.vars sum.terms = terms_upto s.vars sum.terms defines.range in
      let upper = upper_is_normal s.vars sum normal upto (subst (λ (v : ℕ). size (reached_if v sum) ≤ 2 ^ 100) defines.fresh (size_within (size (reached_if var sum)) defines.upper)) in
      let lower = lower_is_normal s.vars sum normal upto (subst (λ (v : ℕ). size (reached_only_if v sum) ≤ 2 ^ 100) defines.fresh (size_within (size (reached_only_if var sum)) defines.lower)) in
      subst StateFits (sym next.makes) (
        definition_is_state s state (is_short line parts) (is_open line parts) sum (reached_if (s.vars + 1) sum) (reached_only_if (s.vars + 1) sum) refl refl upper lower (upper_upto s.vars sum upto) (lower_upto s.vars sum upto),
        fits_from p s state fits (with_definition s sum) (definition_rows p s state fits (reached_if (s.vars + 1) sum) (reached_only_if (s.vars + 1) sum)) (omega arith) fits.sols,
      )
  next_fits_all (Red goal w proofs) t formed next =
      let line : Line = Red goal w proofs in
      let parts = legal_parts p s line next.legal in
      subst StateFits (sym next.makes) (substituted_fits line parts goal formed.0 (goal_within s goal (flat_map image_variables w ++ flat_map (λ q. proof_variables q.1) proofs) formed.0 parts.range))
  next_fits_all (Dom goal w proofs) t formed next =
      let line : Line = Dom goal w proofs in
      let parts = legal_parts p s line next.legal in
      subst StateFits (sym next.makes) (substituted_fits line parts goal formed.0 (goal_within s goal (flat_map image_variables w ++ flat_map (λ q. proof_variables q.1) proofs) formed.0 parts.range))
  next_fits_all (Sol model cut ids) t formed next =
      let line : Line = Sol model cut ids in
      let parts = legal_parts p s line next.legal in
      let costs = problem_costs p (assignment_of model) in
      let upto : All (λ l. l.var ≤ s.vars) cut = literals_upto s.vars cut (sol_parts p s model cut ids parts.rule).2 in
      let few : s.vars < 2 ^ 63 = let v = state.vars in let l = state.lines in omega arith in
      let normal = clause_is_normal s.vars cut few (λ i d less. (formed.1.0 i d less).0) upto formed.1.1 in
      subst StateFits (sym next.makes) (
        solution_is_state s state (is_short line parts) (is_open line parts) cut costs normal (All-map (λ t. t.0.var ≤ s.vars) (λ l. (l, 1)) cut upto),
        fits_from p s state fits (with_solution s cut costs) (line_rows p s state fits (clause cut)) (omega arith) (All-push (λ v. length v ≡ length p.costs) s.sols costs fits.sols (length-map p.costs (row_cost (assignment_of model)))),
      )
  next_fits_all (Del ids) t formed next =
      let parts = legal_parts p s (Del ids) next.legal in
      subst StateFits (sym next.makes) (fewer_fits (Del ids) parts ids (sym parts.rule))
  next_fits_all (Reduce ids) t formed next =
      let parts = legal_parts p s (Reduce ids) next.legal in
      subst StateFits (sym next.makes) (fewer_fits (Reduce ids) parts ids (sym parts.rule))
  next_fits_all (End id) t formed next =
      let line : Line = End id in
      let parts = legal_parts p s line next.legal in
      subst StateFits (sym next.makes) (
        end_is_state s state (is_short line parts) (is_open line parts) (ends_by_contradiction s id (sym parts.rule)),
        fits_from p s state fits (with_end s) fits.rows (omega arith) fits.sols,
      )

  pub next_covers_all : (line : Line) (t : StateValue) → IsWellFormed line → IsNext p s line t → CoversAll p s → CoversAll p t
  next_covers_all line t formed next covers = next_keeps p s (fits_within p s problem state fits) fits covers line t formed next

-- ---- replays

pub start_kept : (p : ProblemValue) → IsProblem p → ReplayIsSound p (start p)
start_kept p problem = record { state = start_is_state p problem; fits = start_fits_problem p; covers = start_is_covered p }

pub lines_keep : (p : ProblemValue) → IsProblem p → (lines : List Line) (s t : StateValue) → All IsWellFormed lines → Leads p s lines t → ReplayIsSound p s → ReplayIsSound p t
lines_keep p problem [] s t formed leads kept = subst (λ (u : StateValue). ReplayIsSound p u) (sym leads) kept
lines_keep p problem (line ∷ lines) s t formed leads kept =
    let own = All-head IsWellFormed line lines formed in
    let both = next_fits_all p s problem kept.state kept.fits line leads.0 own leads.1 in
    lines_keep p problem lines leads.0 t (All-tail IsWellFormed line lines formed) leads.2
    (record { state = both.0; fits = both.1; covers = next_covers_all p s problem kept.state kept.fits line leads.0 own leads.1 kept.covers })

pub replay_keeps : (p : ProblemValue) → IsProblem p → (lines : List Line) (s : StateValue) → All IsWellFormed lines → IsReplay p lines s → ReplayIsSound p s
replay_keeps p problem lines s formed replay = lines_keep p problem lines (start p) s formed replay (start_kept p problem)

-- ---- the laws

pub start_law : StartIsSound
start_law = record { state = start_is_state; fits = start_fits_problem; covers = start_is_covered }

pub next_fits_law : NextFits
next_fits_law p s line t before next = next_fits_all p s before.problem before.state before.fits line t before.formed next

pub next_covers_law : NextCovers
next_covers_law p s line t before next covers = next_covers_all p s before.problem before.state before.fits line t before.formed next covers

pub replay_law : ReplaysAreSound
replay_law p lines s problem formed replay = replay_keeps p problem lines s formed replay

pub ended_law : EndedIsEmpty
ended_law p s state ended x sat = let has = state.ended ended in nothing_satisfies p s has.0 has.1 has.2 has.3.0 has.3.1 x sat
