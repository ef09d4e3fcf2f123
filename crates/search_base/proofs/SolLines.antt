-- The line that logs a model is legal.
use Rattle.std.proofs.Common.{◌≡◌, ◌⊎◌, inl, inr, ℕ, ◌+◌, ◌<◌, ◌≤◌, ◌^◌, Bool, false, Option, None, Some, List, [], ◌∷◌, map, refl, sym, ap, ◌∙◌, subst, arith}
use Rattle.std.specs.Prelude.{nat_lt, option_map, MatchOption}
use Rattle.std.specs.List.{All, AllZip, Contains, position_from}
use Rattle.std.proofs.lemmas.Bool.{cond-false, le-ltb}
use Rattle.std.proofs.lemmas.List.Elements.{All-head, All-tail, All-map, All-weaker, All-contains_itself, All-nil, All-cons}
use Rattle.scut_base.specs.Literal.{Literal}
use Rattle.scut_base.proofs.Lists.{Contains-from_map, Contains-map, Contains-head, Contains-cons}
use Rattle.pb_lin.specs.Constraint.{ConstraintValue, Holds, IsVariable, opposite, value}
use Rattle.pb_lin.specs.CostRow.{CostRowValue}
use Rattle.pb_lin.specs.Problem.{ProblemValue, IsProblem, IsProblemModel}
use Rattle.proof_laws.specs.State.{StateValue, IsState}
use Rattle.proof_laws.specs.Legal.{IsLegal, IsRefused}
use Rattle.proof_laws.specs.Refusal.{IsCutFault, IsSolFault, Bounds, assignment_of, broken_row, literals_at, misplaced, range_fault}
use Rattle.proof_laws.specs.Replay.{IsReplay}
use Rattle.proof_laws.specs.WellFormed.{IsWellFormed, IsId, IsVariable as IsLogVariable}
use Rattle.proof_laws.specs.declared.line.Line.{Line}
use Rattle.proof_laws.specs.declared.line.Line.TheVariants.{Sol}
use Rattle.proof_laws.specs.declared.why.Why.TheVariants.{CutOpen, LogLong, NoSuchId, SolRow, VarRange}
use Rattle.proof_laws.proofs.Conditions.{no_first, no_range_fault, may_follow}
use Rattle.proof_laws.proofs.ModelLiterals.{assignment_again, in_place, model_variables}
use Rattle.proof_laws.proofs.Replays.{replay_once}
use Rattle.proof_rules.proofs.Cuts.{opposites_distinct}
use Rattle.proof_rules.specs.Recording.{MayBeAdded}
use Rattle.totalizer.specs.Meaning.{AreTruthsWith, IsOwnOrNone}
use Rattle.totalizer.specs.declared.bound.Bound.{Bound}
use Rattle.totalizer.specs.declared.bound.Bound.TheVariants.{Always, Never, At}
use Rattle.search_base.specs.Cutting.{AreThese, IsAnswerAt, IsCutOf, IsModelLine, answered_line, answered_literals}
use Rattle.search_base.proofs.Answered.{row_of}
use Rattle.search_base.proofs.Cuts.{opposite_twice}

-- no row is broken where all hold
none_broken : (x : List Bool) (i : ℕ) (rows : List ConstraintValue) → All (Holds x) rows →
    position_from (λ c. nat_lt (value x c.terms) c.degree) i rows ≡ None
none_broken x i [] all = refl
none_broken x i (c ∷ rows) all =
    cond-false (nat_lt (value x c.terms) c.degree) (Some i)
    (position_from (λ d. nat_lt (value x d.terms) d.degree) (i + 1) rows)
    (le-ltb (value x c.terms) c.degree (All-head (Holds x) c rows all))
    ∙ none_broken x (i + 1) rows (All-tail (Holds x) c rows all)

-- ---- the cut

module _ (p : ProblemValue) (lines : List Line) (s : StateValue) (x : List Bool) (lits cut : List Literal)
    (these : AreThese lits (map opposite cut)) where
  -- what is asked of the line of an id for a row, where the rest has no fault
  abbrev JudgesRow : ℕ → CostRowValue → ℕ → Type 0 → Option ConstraintValue → Type 0
  JudgesRow i r id Rest found = MatchOption found (None ≡ Some (NoSuchId id))
      (λ c. (Bounds cut x c r × Rest) ⊎ ((Bounds cut x c r → ⊥) × (None ≡ Some (CutOpen i))))

  -- the lines that the answers name bound the rows at their values
  no_cut_fault : (i : ℕ) (rows : List CostRowValue) (answers : List Bound) →
      AllZip (IsAnswerAt p lines s x lits) rows answers →
      ((l : Literal) → Contains (answered_literals answers) l → AreTruthsWith l (map opposite cut)) →
      IsCutFault s.live cut x i rows (map answered_line answers) None
  no_cut_fault i [] [] zip truths = refl
  no_cut_fault i [] (b ∷ bs) zip truths = absurd zip
  no_cut_fault i (r ∷ rows) [] zip truths = absurd zip
  no_cut_fault i (r ∷ rows) (Always id ∷ bs) zip truths =
      let covers = zip.0.covers in
      subst (JudgesRow i r id (IsCutFault s.live cut x (i + 1) rows (map answered_line bs) None)) (sym covers.1)
      (inl (covers.2 (map opposite cut) these (value x r.terms) refl, no_cut_fault (i + 1) rows bs zip.1 truths))
  no_cut_fault i (r ∷ rows) (Never ∷ bs) zip truths = absurd zip.0
  no_cut_fault i (r ∷ rows) (At l id ∷ bs) zip truths =
      let covers = zip.0.covers in
      subst (JudgesRow i r id (IsCutFault s.live cut x (i + 1) rows (map answered_line bs) None)) (sym covers.1)
      (inl (
        covers.2 (map opposite cut) (truths l (Contains-head l (answered_literals bs))) (value x r.terms) refl,
        no_cut_fault (i + 1) rows bs zip.1
            (λ m there. truths m (Contains-cons l m (answered_literals bs) there)),
      ))

  small : IsState s → (n : ℕ) → IsOwnOrNone p lines s n → n < 2 ^ 63
  small state n (inl none) = omega arith
  small state n (inr (c, own)) = let live = own.0 in let w = state.ids n c live in let next = state.next_id in
      let most = state.lines in omega arith

  -- what the answers name is there
  ids_small : IsState s → (rows : List CostRowValue) (answers : List Bound) →
      AllZip (IsAnswerAt p lines s x lits) rows answers → All IsId (map answered_line answers)
  ids_small state [] [] zip = All-nil IsId
  ids_small state [] (b ∷ bs) zip = absurd zip
  ids_small state (r ∷ rows) [] zip = absurd zip
  ids_small state (r ∷ rows) (Always id ∷ bs) zip =
      All-cons IsId id (map answered_line bs) (small state id zip.0.own) (ids_small state rows bs zip.1)
  ids_small state (r ∷ rows) (Never ∷ bs) zip = absurd zip.0
  ids_small state (r ∷ rows) (At l id ∷ bs) zip =
      All-cons IsId id (map answered_line bs) (small state id zip.0.own) (ids_small state rows bs zip.1)

module _ (p : ProblemValue) (lines : List Line) (s : StateValue) (x : List Bool) (answers : List Bound)
    (cut : List Literal) (zip : AllZip (IsAnswerAt p lines s x (answered_literals answers)) p.costs answers)
    (exact : IsCutOf answers cut) where
  pub cut_variable : (l : Literal) → Contains cut l → IsVariable s.vars l.var
  cut_variable l there =
      let from = Contains-from_map opposite (answered_literals answers) l ((exact.same l).0 there) in
      let has = row_of p lines s x (answered_literals answers) p.costs answers from.0 zip from.1 in
      let same : from.0.var ≡ l.var = ap (λ (m : Literal). m.var) from.2 in
      subst (λ (v : ℕ). IsVariable s.vars v) same has.bound.variable

  pub cut_variables : All (λ l. IsVariable s.vars l.var) cut
  cut_variables = All-weaker (Contains cut) (λ (l : Literal). IsVariable s.vars l.var) cut_variable cut
      (All-contains_itself cut)

  truths_with : (l : Literal) → Contains (answered_literals answers) l → AreTruthsWith l (map opposite cut)
  truths_with l there = record {
    apart = opposites_distinct cut exact.rising;
    there = subst (Contains (map opposite cut)) (opposite_twice l)
        (Contains-map opposite cut (opposite l)
        ((exact.same (opposite l)).1 (Contains-map opposite (answered_literals answers) l there)));
  }

  -- the literals that the cut makes true are those that were answered
  these : AreThese (answered_literals answers) (map opposite cut)
  these = record {
    apart = opposites_distinct cut exact.rising;
    same = λ l. (
      λ there.
          let one = Contains-from_map opposite cut l there in
          let two = Contains-from_map opposite (answered_literals answers) one.0 ((exact.same one.0).0 one.1) in
          subst (Contains (answered_literals answers)) (sym (opposite_twice two.0) ∙ ap opposite two.2 ∙ one.2) two.1,
      λ there. let with' = truths_with l there in with'.there,
    );
  }

  cut_within : range_fault s.vars (map (λ l. l.var) cut) ≡ None
  cut_within = no_range_fault s.vars (map (λ l. l.var) cut)
      (All-map (λ v. v ≤ s.vars) (λ (l : Literal). l.var) cut
      (All-weaker (λ (l : Literal). IsVariable s.vars l.var) (λ (l : Literal). l.var ≤ s.vars) (λ l is. is.1) cut
      cut_variables))

  no_sol_fault : IsProblemModel p x → IsSolFault p s (literals_at 1 x) cut (map answered_line answers) None
  no_sol_fault model =
      let size = model.variables in
      let again : assignment_of (literals_at 1 x) ≡ x = assignment_again 1 x in
      no_first (option_map VarRange (misplaced 1 p.vars (literals_at 1 x))) _ None
      (ap (option_map VarRange) (in_place p.vars 1 x (omega arith)))
      (no_first (option_map SolRow (broken_row (assignment_of (literals_at 1 x)) p.rows)) _ None
      (ap (λ (a : List Bool). option_map SolRow (broken_row a p.rows)) again ∙ ap (option_map SolRow)
      (none_broken x 1 p.rows model.rows))
      (no_first (range_fault s.vars (map (λ l. l.var) cut)) _ None cut_within
      (subst (λ (a : List Bool). IsCutFault s.live cut a 1 p.costs (map answered_line answers) None) (sym again)
      (no_cut_fault p lines s x (answered_literals answers) cut these 1 p.costs answers zip truths_with))))

  pub sol_may : s.ended ≡ false → IsProblemModel p x →
      IsLegal p s (Sol (literals_at 1 x) cut (map answered_line answers)) ⊎
      IsRefused p s (Sol (literals_at 1 x) cut (map answered_line answers)) LogLong
  sol_may running model =
      may_follow p s (Sol (literals_at 1 x) cut (map answered_line answers)) running refl (no_sol_fault model)

  pub sol_formed : IsState s → IsProblem p → IsProblemModel p x →
      IsWellFormed (Sol (literals_at 1 x) cut (map answered_line answers))
  sol_formed state problem model =
      let size = model.variables in
      let most = problem.variables in
      let vars = state.vars in
      let count = state.lines in (
        model_variables 1 x (omega arith) (omega arith),
        (
          All-weaker (λ (l : Literal). IsVariable s.vars l.var) (λ (l : Literal). IsLogVariable l.var)
              (λ l is. (is.0, omega arith)) cut cut_variables,
          exact.rising,
        ),
        ids_small p lines s x (answered_literals answers) cut these state p.costs answers zip,
      )

-- ---- the line

pub line_may : (p : ProblemValue) (lines : List Line) (s : StateValue) (x : List Bool) (answers : List Bound)
    (line : Line) → IsModelLine x answers line → AllZip (IsAnswerAt p lines s x (answered_literals answers)) p.costs answers →
    IsReplay p lines s → s.ended ≡ false → IsProblemModel p x → MayBeAdded p lines line
line_may p lines s x answers line is zip reached running model t other =
    subst (λ (u : StateValue). IsLegal p u line ⊎ IsRefused p u line LogLong) (replay_once p lines s t reached other)
    (subst (λ (l : Line). IsLegal p s l ⊎ IsRefused p s l LogLong) (sym is.is)
    (sol_may p lines s x answers is.cut zip is.exact running model))

pub line_formed : (p : ProblemValue) (lines : List Line) (s : StateValue) (x : List Bool) (answers : List Bound)
    (line : Line) → IsModelLine x answers line → AllZip (IsAnswerAt p lines s x (answered_literals answers)) p.costs answers → IsState s →
    IsProblem p → IsProblemModel p x → IsWellFormed line
line_formed p lines s x answers line is zip state problem model =
    subst IsWellFormed (sym is.is) (sol_formed p lines s x answers is.cut zip is.exact state problem model)
