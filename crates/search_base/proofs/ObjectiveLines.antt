-- What the lines for outputs say of an objective.
use Rattle.std.proofs.Common.{◌≡◌, ◌≢◌, ◌⊎◌, inl, inr, ⊎_elim, ℕ, ◌+◌, ◌-◌, ◌<◌, ◌≤◌, ◌==◌, ◌^◌, false, Option, Some, List, [], ◌∷◌, length, ap, sym, subst, ◌∙◌, arith, ℤ, pos, ◌+ℤ◌, ◌≤ℤ◌}
use Rattle.std.specs.FinMap.{get}
use Rattle.std.proofs.lemmas.Bool.{cond-false, ne_eqb}
use Rattle.std.proofs.lemmas.Int.{ints}
use Rattle.scut_base.specs.Literal.{Literal}
use Rattle.pb_lin.specs.Constraint.{ConstraintValue, size}
use Rattle.pb_lin.specs.CostRow.{CostRowValue}
use Rattle.cutting_planes.proofs.Terms.{Terms}
use Rattle.proof_laws.specs.State.{StateValue, IsState}
use Rattle.proof_laws.specs.Steps.{reached_if}
use Rattle.proof_laws.specs.Refusal.{line_or_none}
use Rattle.proof_rules.specs.Recording.{Snapshot}
use Rattle.sum_outputs.specs.Adding.{IsOwn, IsReached}
use Rattle.sum_outputs.specs.Totals.{IsLeastSum}
use Rattle.sum_outputs.proofs.Glue.{value-le-total}
use Rattle.sum_outputs.proofs.ReplayIds.{replay_ids}
use Rattle.totalizer.specs.Meaning.{AreTruthsWith, IsBoundAt, IsDefinedFor, IsOwnOrNone}
use Rattle.totalizer.specs.Reforming.{IsLowerLine, IsReformOf}
use Rattle.search_base.specs.CostBounds.{BoundsRow, CoversCost, IsObjectiveLine, LineCovers, StandsFor}
use Rattle.search_base.specs.OneBound.{IsObjectiveLineAt, IsOutputAt, IsSumFor}
use Rattle.search_base.specs.declared.objective_bound.ObjectiveLine.{ObjectiveLine}
use Rattle.search_base.specs.declared.objective_bound.ObjectiveBound.{ObjectiveBound}
use Rattle.search_base.proofs.BoundLines.{gap, gap_is, leaf_reaches, lower_size, named_normal, output_cases, output_reaches, output_size, reaches_covers, sum_reaches}

value_at : (k n g : ℕ) (low high : ℤ) → high ≡ pos g +ℤ low → k ≤ n → (pos k +ℤ high) ≤ℤ (pos (g + n) +ℤ low)
value_at k n g low high is le = omega (arith, ints)

-- a live line by its id
named_live : (s : StateValue) (id : ℕ) (c : ConstraintValue) → id ≢ 0 → get s.live id ≡ Some c →
    line_or_none s.live id ≡ Some c
named_live s id c some is =
    cond-false (id == 0) (Some (record { terms = []; degree = 0 })) (get s.live id) (ne_eqb id 0 some) ∙ is

-- what covers a value covers each below it
covers_less : (row : CostRowValue) (k n : ℕ) (offset : ℤ) (c : ConstraintValue) (truths : List Literal) → k ≤ n →
    row.offset ≤ℤ offset → CoversCost row (pos n +ℤ offset) c truths → CoversCost row (pos k +ℤ offset) c truths
covers_less row k n offset c truths le low covers m is x =
    let more : (pos n +ℤ offset) ≡ pos (m + (n - k)) +ℤ row.offset = omega (arith, ints) in
    let here = covers (m + (n - k)) more x in
    omega arith

module _ (a : Snapshot) (s : StateValue) (reached : IsReached a s) (row : CostRowValue) (o : ObjectiveBound) (k : ℕ)
    (l : Literal) (id : ℕ) (is : BoundsRow a row o) (out : IsOutputAt a o k l id) where
  reform : IsReformOf a.problem a.lines s row o.reform
  reform = is.reform s reached

  at : IsBoundAt a.problem a.lines s o.reform.terms k l id
  at = out.at s reached

  some_id : (c : ConstraintValue) → get s.live id ≡ Some c → id ≢ 0
  some_id c live none = let w = (replay_ids a.problem a.lines s reached).ids id c live in omega arith

  -- the literal is that of the only term, or was defined
  abbrev Cases : Type 0
  Cases = ((weight : ℕ) × (o.reform.terms ≡ (l, weight) ∷ []) × (id ≡ 0) × (k ≤ weight)) ⊎
      ((1 < length o.reform.terms) × IsDefinedFor a.problem s o.reform.terms k l id)

  pub cases : Cases
  cases = output_cases a.problem s o.reform.terms k l id out.some out.most at.output

  -- ---- no line of its own

  module _ (state : IsState s) where
    leaf_line : (weight : ℕ) → o.reform.terms ≡ (l, weight) ∷ [] → k ≤ weight →
        LineCovers s row (pos k +ℤ o.reform.offset) o.reform.lower_line (AreTruthsWith l)
    leaf_line weight one most =
        let r = reform in
        let lower = r.lower in
        let variable = at.variable in (
          lower.0,
          lower.1,
          λ truths are. reaches_covers row l
              (gap row o.reform.offset o.reform.terms lower.0 r.offset lower.2 + weight) lower.0
              (pos k +ℤ o.reform.offset) truths is.weights
              (named_normal s state o.reform.lower_line lower.0 lower.1) variable.0
              (leaf_reaches row o.reform.offset o.reform.terms lower.0 r.offset lower.2 l weight one)
              (value_at k weight (gap row o.reform.offset o.reform.terms lower.0 r.offset lower.2) row.offset
              o.reform.offset (gap_is row o.reform.offset o.reform.terms lower.0 r.offset lower.2) most) are,
        )

    output_line : o.reform.lower_line ≡ 0 → IsDefinedFor a.problem s o.reform.terms k l id →
        LineCovers s row (pos k +ℤ o.reform.offset) id (AreTruthsWith l)
    output_line none defined =
        let r = reform in
        let lower = r.lower in
        let nothing : ConstraintValue = record { terms = []; degree = 0 } in
        let named : line_or_none s.live o.reform.lower_line ≡ Some nothing = ap (line_or_none s.live) none in
        let same : ◌≡◌ {A = Option ConstraintValue} (Some lower.0) (Some nothing) = sym lower.1 ∙ named in
        let is_none : lower.0 ≡ nothing = cc in
        let below : IsLowerLine row o.reform.offset o.reform.terms nothing =
        subst (IsLowerLine row o.reform.offset o.reform.terms) is_none lower.2 in
        let variable = at.variable in
        let least = defined.least in
        let line = reached_if l.var defined.sum in
        let g = gap row o.reform.offset o.reform.terms nothing r.offset below in (
          line,
          named_live s id line (some_id line defined.line) defined.line,
          λ truths are. reaches_covers row l (g + defined.sum.degree) line (pos k +ℤ o.reform.offset) truths is.weights
              (state.normal id line defined.line) variable.0
              (output_reaches o.reform.terms defined.sum l defined.order defined.positive row o.reform.offset r.offset
              below)
              (value_at k defined.sum.degree g row.offset o.reform.offset
              (gap_is row o.reform.offset o.reform.terms nothing r.offset below) least.reaches) are,
        )

    -- by the line of the output, where the objective has its own terms
    pub own_line_covers : o.reform.lower_line ≡ 0 → IsObjectiveLineAt a row (pos k +ℤ o.reform.offset) l id s
    own_line_covers none = record {
      own = at.own;
      covers = ⊎_elim
          (λ (leaf : (weight : ℕ) × (o.reform.terms ≡ (l, weight) ∷ []) × (id ≡ 0) × (k ≤ weight)).
          subst (λ (i : ℕ). LineCovers s row (pos k +ℤ o.reform.offset) i (AreTruthsWith l)) (none ∙ sym leaf.2)
          (leaf_line leaf.0 leaf.1 leaf.3))
          (λ (defined : (1 < length o.reform.terms) × IsDefinedFor a.problem s o.reform.terms k l id).
          output_line none defined.1)
          cases;
    }

    -- by that of the reform, where there is one term
    pub leaf_line_covers : id ≡ 0 → IsObjectiveLineAt a row (pos k +ℤ o.reform.offset) l o.reform.lower_line s
    leaf_line_covers none = record {
      own = reform.own;
      covers = ⊎_elim
          (λ (leaf : (weight : ℕ) × (o.reform.terms ≡ (l, weight) ∷ []) × (id ≡ 0) × (k ≤ weight)).
          leaf_line leaf.0 leaf.1 leaf.3)
          (λ (defined : (1 < length o.reform.terms) × IsDefinedFor a.problem s o.reform.terms k l id).
          absurd (some_id _ defined.1.line none))
          cases;
    }

  -- where an output has a line, there is more than one term
  pub defined_here : id ≢ 0 → (1 < length o.reform.terms) × IsDefinedFor a.problem s o.reform.terms k l id
  defined_here some = ⊎_elim
      (λ (leaf : (weight : ℕ) × (o.reform.terms ≡ (l, weight) ∷ []) × (id ≡ 0) × (k ≤ weight)).
      absurd (some leaf.2))
      (λ (defined : (1 < length o.reform.terms) × IsDefinedFor a.problem s o.reform.terms k l id). defined)
      cases

  -- and where there is more than one term, the literal was defined
  pub defined_long : 1 < length o.reform.terms → IsDefinedFor a.problem s o.reform.terms k l id
  defined_long long = ⊎_elim
      (λ (leaf : (weight : ℕ) × (o.reform.terms ≡ (l, weight) ∷ []) × (id ≡ 0) × (k ≤ weight)).
      let one = ap (λ (ts : Terms). length ts) leaf.1 in absurd (omega arith))
      (λ (defined : (1 < length o.reform.terms) × IsDefinedFor a.problem s o.reform.terms k l id). defined.1)
      cases

  pub has_line : 1 < length o.reform.terms → id ≢ 0
  has_line long = let defined = defined_long long in some_id _ defined.line

  -- the literal stands for the least sum of at least k
  pub stands_for : 1 < length o.reform.terms → (defined : IsDefinedFor a.problem s o.reform.terms k l id) →
      StandsFor o defined.sum.degree l
  stands_for long defined =
      let sizes = ap (λ (ts : Terms). length ts) is.terms in
      out.answered (omega arith) defined.sum.degree
      (subst (λ (ts : Terms). IsLeastSum ts k defined.sum.degree) (sym is.terms) defined.least)

  -- ---- by a line that was made

  pub made_line_covers : (c : ObjectiveLine) → id ≢ 0 → IsObjectiveLine a.problem a.lines s row o c → c.var ≡ l.var →
      IsObjectiveLineAt a row (pos k +ℤ o.reform.offset) l c.line s
  made_line_covers c some made var =
      let defined = defined_here some in
      let least = defined.1.least in
      let positive : l ≡ record { var = l.var; neg = false } = defined.1.positive in
      let same : ◌≡◌ {A = Literal} (record { var = c.var; neg = false }) l =
      ap (λ (v : ℕ). let m : Literal = record { var = v; neg = false } in m) var ∙ sym positive in
      let stands : StandsFor o made.sum l = subst (StandsFor o made.sum) same made.there in
      let sums : made.sum ≡ defined.1.sum.degree =
      is.once l made.sum defined.1.sum.degree stands (stands_for defined.0 defined.1) in
      let covers = made.covers in
      let above = reform.offset in
      let reaches = least.reaches in
      record {
        own = made.own;
        covers = (
          covers.0,
          covers.1,
          λ truths are. covers_less row k made.sum o.reform.offset covers.0 truths (omega arith) above
              (covers.2 truths (subst (λ (m : Literal). AreTruthsWith m truths) (sym same) are)),
        );
      }

  -- ---- by a new line

  module _ (long : 1 < length o.reform.terms) (defined : IsDefinedFor a.problem s o.reform.terms k l id)
      (some : o.reform.lower_line ≢ 0) where
    lower_own : IsOwnOrNone a.problem a.lines s o.reform.lower_line →
        IsOwn a.problem a.lines s o.reform.lower_line reform.lower.0
    lower_own (inl none) = absurd (some none)
    lower_own (inr (c, own)) =
        let r = reform in
        let line = cond-false (o.reform.lower_line == 0) (Some (record { terms = []; degree = 0 }))
        (get s.live o.reform.lower_line) (ne_eqb o.reform.lower_line 0 some) in
        (sym line ∙ r.lower.1, own.1)

    abbrev output : ConstraintValue
    output = reached_if l.var defined.sum

    output_own : IsOwnOrNone a.problem a.lines s id → IsOwn a.problem a.lines s id output
    output_own (inl none) = absurd (some_id output defined.line none)
    output_own (inr (c, own)) = (defined.line, own.1)

    sizes : IsState s → size reform.lower.0 + size output ≤ 2 ^ 100
    sizes state =
        let r = reform in
        let lower = r.lower in
        let normal = named_normal s state o.reform.lower_line lower.0 lower.1 in
        let first = lower_size row o.reform.offset o.reform.terms lower.0 r.offset lower.2 is.weights r.weights r.small
        normal in
        let least = defined.least in
        let attained = least.attainable in
        let at_most = value-le-total attained.0 o.reform.terms in
        let exact = attained.1 in
        let second = output_size o.reform.terms defined.sum l defined.order defined.positive (omega arith) in
        let weights = r.weights in
        let small = weights.small in
        omega arith

    pub sum_lines : IsState s → (c : ConstraintValue) × (d : ConstraintValue)
        × IsOwn a.problem a.lines s o.reform.lower_line c × IsOwn a.problem a.lines s id d × (size c + size d ≤ 2 ^ 100)
    sum_lines state = (reform.lower.0, output, lower_own reform.own, output_own at.own, sizes state)

    module _ (b : Snapshot) (line : ℕ) (made : IsSumFor a b o.reform.lower_line id line) (t : StateValue)
        (after : IsReached b t) where
      -- the sum of both lines covers each value up to that of the output's sum
      pub sum_line_covers : (j : ℕ) → j ≤ defined.sum.degree → IsObjectiveLineAt b row (pos j +ℤ o.reform.offset) l line t
      sum_line_covers j most =
          let r = reform in
          let lower = r.lower in
          let sum = made s t lower.0 output reached after (lower_own r.own) (output_own at.own) in
          let normal = sum.2.normal in
          let variable = at.variable in
          let g = gap row o.reform.offset o.reform.terms lower.0 r.offset lower.2 in
          let ids = replay_ids b.problem b.lines t after in
          record {
            own = inr (sum.0, sum.1);
            covers = (
              sum.0,
              named_live t line sum.0 (λ none. let w = ids.ids line sum.0 sum.1.0 in omega arith) sum.1.0,
              λ truths are. reaches_covers row l (g + defined.sum.degree) sum.0 (pos j +ℤ o.reform.offset) truths
                  is.weights normal variable.0
                  (sum_reaches o.reform.terms defined.sum l defined.order defined.positive row o.reform.offset lower.0
                  sum.0 r.offset lower.2 sum.2)
                  (value_at j defined.sum.degree g row.offset o.reform.offset
                  (gap_is row o.reform.offset o.reform.terms lower.0 r.offset lower.2) most) are,
            );
          }

      -- and is kept for it
      pub sum_objective_line : IsObjectiveLine b.problem b.lines t row o (record { var = l.var; line = line })
      sum_objective_line =
          let here = sum_line_covers defined.sum.degree (omega arith) in
          let positive : l ≡ record { var = l.var; neg = false } = defined.positive in
          record {
            sum = defined.sum.degree;
            there = subst (StandsFor o defined.sum.degree) positive (stands_for long defined);
            own = here.own;
            covers = subst (λ (m : Literal). LineCovers t row (pos defined.sum.degree +ℤ o.reform.offset) line
                (AreTruthsWith m)) positive here.covers;
          }
