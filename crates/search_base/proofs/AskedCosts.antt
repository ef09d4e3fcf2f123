-- What is answered for an objective's cost, by what a totalizer answers for its reform's terms.
use Rattle.std.proofs.Common.{◌≡◌, inl, inr, ⊎_elim, ℕ, ◌-◌, ◌<◌, ◌≤◌, [], ◌∷◌, length, ap, refl, sym, subst, ◌∙◌, arith, ℤ, pos, ◌+ℤ◌, ◌-ℤ◌, ◌≤ℤ◌, ◌<ℤ◌}
use Rattle.std.specs.List.{All}
use Rattle.std.proofs.lemmas.Int.{ints}
use Rattle.scut_base.specs.Literal.{Literal}
use Rattle.pb_lin.specs.Constraint.{Holds, total, value}
use Rattle.pb_lin.specs.CostRow.{CostRowValue, row_cost}
use Rattle.pb_lin.specs.Problem.{ProblemValue}
use Rattle.cutting_planes.proofs.Terms.{Terms}
use Rattle.proof_laws.specs.State.{StateValue, IsState}
use Rattle.proof_laws.proofs.Replays.{replay_once}
use Rattle.proof_rules.specs.Recording.{Snapshot}
use Rattle.sum_outputs.specs.Adding.{Continues, IsLater, IsReached, KeptHold}
use Rattle.sum_outputs.proofs.Glue.{value-le-total}
use Rattle.totalizer.specs.Demanding.{AddsFor, IsAnswered, IsThere, MakesDemanded}
use Rattle.totalizer.specs.Keeping.{FittingStays, OwnLinesStay, ReformStays}
use Rattle.totalizer.specs.Meaning.{AreTruthsWith, IsBound, IsBoundAt, IsDefinedFor}
use Rattle.totalizer.specs.Totalizing.{TotalizerValue, Fits, terms_of}
use Rattle.totalizer.specs.declared.bound.Bound.TheVariants.{Always, Never, At}
use Rattle.totalizer.specs.declared.reform.Reform.{Reform}
use Rattle.search_base.specs.CostBounds.{AddsBound, BoundsRow, IsAnswerFor, IsCostBound, LineCovers, StandsFor}
use Rattle.search_base.specs.OneBound.{HasOwnLiteral, IsObjectiveLineAt, IsOutputAt, KeepsBut, MakesObjectiveLine}
use Rattle.search_base.specs.declared.objective_bound.ObjectiveBound.{ObjectiveBound}
use Rattle.search_base.proofs.AskedRows.{row_asked}
use Rattle.search_base.proofs.BoundLines.{always_covers, named_normal}
use Rattle.search_base.proofs.ObjectiveLines.{cases, stands_for}
use Rattle.totalizer.proofs.LaterLines.{held_before}
use Rattle.search_base.proofs.RowStays.{row_stays}
use Rattle.search_base.proofs.TurnLines.{own_law, totalizer_lines}

-- ---- values

over_offset : (v k offset : ℤ) → k ≡ v -ℤ offset → k ≤ℤ pos 0 → v ≤ℤ offset
over_offset v k offset is le = omega (arith, ints)

over_all : (v k offset : ℤ) (t : ℕ) → k ≡ v -ℤ offset → pos t <ℤ k → (offset +ℤ pos t) <ℤ v
over_all v k offset t is less = omega (arith, ints)

pub value_is : (v k offset : ℤ) (n : ℕ) → k ≡ v -ℤ offset → k ≡ pos n → v ≡ pos n +ℤ offset
value_is v k offset n is same = omega (arith, ints)

between : (v offset : ℤ) (n t : ℕ) → v ≡ pos n +ℤ offset → 0 < n → n ≤ t →
    (offset <ℤ v) × (v ≤ℤ (offset +ℤ pos t))
between v offset n t is some most = (omega (arith, ints), omega (arith, ints))

same_number : (m n : ℕ) → pos m ≡ pos n → m ≡ n
same_number m n e = omega (arith, ints)

reached_by : (v c offset : ℤ) (n w : ℕ) → v ≡ pos n +ℤ offset → v ≤ℤ c → c ≤ℤ (offset +ℤ pos w) → n ≤ w
reached_by v c offset n w is le upper = omega (arith, ints)

below_all : (v c offset : ℤ) (w t : ℕ) → c ≤ℤ (offset +ℤ pos w) → w ≤ t → (offset +ℤ pos t) <ℤ v → c <ℤ v
below_all v c offset w t upper le less = omega (arith, ints)

-- ---- which answer it is

module _ (o : ObjectiveBound) (m : Snapshot) (v k : ℤ) (above : k ≡ v -ℤ o.reform.offset)
    (terms : terms_of o.totalizer ≡ o.reform.terms) where
  pub always_answer : (id : ℕ) → IsBound m.problem m.lines (terms_of o.totalizer) k (Always id) →
      IsAnswerFor o.reform v (Always o.reform.lower_line)
  always_answer id is = (over_offset v k o.reform.offset above is.0, refl)

  pub never_answer : IsBound m.problem m.lines (terms_of o.totalizer) k Never → IsAnswerFor o.reform v Never
  never_answer is = over_all v k o.reform.offset (total o.reform.terms) above
      (subst (λ (ts : Terms). pos (total ts) <ℤ k) terms is)

  pub at_answer : (l : Literal) (id line : ℕ) → IsBound m.problem m.lines (terms_of o.totalizer) k (At l id) →
      IsAnswerFor o.reform v (At l line)
  at_answer l id line (n, at, some, most, each) =
      between v o.reform.offset n (total o.reform.terms) (value_is v k o.reform.offset n above at) some
      (subst (λ (ts : Terms). n ≤ total ts) terms most)

-- ---- what it says of the cost

module _ (m : Snapshot) (row : CostRowValue) (o : ObjectiveBound) (is : BoundsRow m row o) (v : ℤ) where
  pub always_over : v ≤ℤ o.reform.offset → ((s : StateValue) → IsReached m s → IsState s) →
      IsCostBound m.problem m.lines row v (Always o.reform.lower_line)
  always_over low states s reached =
      let r = is.reform s reached in
      let lower = r.lower in
      record {
        own = r.own;
        covers = (
          lower.0,
          lower.1,
          λ truths are. always_covers row o.reform.offset o.reform.terms lower.0 r.offset lower.2 is.weights
              (named_normal s (states s reached) o.reform.lower_line lower.0 lower.1) v low truths are,
        );
      }

  pub never_over : (o.reform.offset +ℤ pos (total o.reform.terms)) <ℤ v → IsCostBound m.problem m.lines row v Never
  never_over high s reached = λ x rows hold.
      let r = is.reform s reached in
      below_all v (row_cost x row) o.reform.offset (value x o.reform.terms) (total o.reform.terms)
      (r.upper x rows hold) (value-le-total x o.reform.terms) high

  -- after the line was made
  pub over_at : (b : Snapshot) (s : StateValue) → Continues m b → IsReached m s → (n : ℕ) (l : Literal) (id line : ℕ) →
      IsOutputAt m o n l id → v ≡ pos n +ℤ o.reform.offset →
      ((t : StateValue) → IsReached b t → IsObjectiveLineAt b row (pos n +ℤ o.reform.offset) l line t) →
      IsCostBound b.problem b.lines row v (At l line)
  over_at b s on reached n l id line out same covered t after =
      let has = on.states s reached in
      let once : has.state ≡ t = replay_once b.problem b.lines has.state t has.reached after in
      let later : IsLater m.problem m.lines s b.lines t =
      subst (λ (u : StateValue). IsLater m.problem m.lines s b.lines u) once has.later in
      let at = out.at s reached in
      let here = covered t after in
      let r = is.reform s reached in
      record {
        variable = let w = at.variable in let more = later.vars in (w.0, omega arith);
        own = here.own;
        follows = λ x rows hold reaches.
            let before : KeptHold m.problem m.lines s x = held_before m.problem m.lines b.lines s t later x
            (subst (λ (p : ProblemValue). KeptHold p b.lines t x) on.problem hold) in
            let model : All (Holds x) m.problem.rows =
            subst (λ (p : ProblemValue). All (Holds x) p.rows) on.problem rows in
            at.follows x before
            (reached_by v (row_cost x row) o.reform.offset n (value x o.reform.terms) same reaches
            (r.upper x model before));
        covers = subst (λ (z : ℤ). LineCovers t row z line (AreTruthsWith l)) (sym same) here.covers;
      }

-- ---- a totalizer's output

module _ (own : OwnLinesStay) (fitting : FittingStays) (reforms : ReformStays) (a m : Snapshot) (s : StateValue)
    (reached : IsReached a s) (on : Continues a m) (o : ObjectiveBound) (t : TotalizerValue) (k : ℤ)
    (nodes : t.nodes ≡ o.totalizer.nodes) (fits : Fits m t) where
  abbrev asked : ObjectiveBound
  asked = record { reform = o.reform; totalizer = t; objective_lines = o.objective_lines }

  -- nothing was added
  pub same_row : (row : CostRowValue) → t ≡ o.totalizer → BoundsRow a row o → BoundsRow m row asked
  same_row row same is =
      subst (λ (u : TotalizerValue). BoundsRow m row (record { reform = o.reform; totalizer = u; objective_lines = o.objective_lines }))
      (sym same)
      (row_stays own fitting reforms a m s on.problem (own_law a.problem a.lines m.lines (totalizer_lines a m on)) reached
      row o is)

  module _ (l : Literal) (id : ℕ) (added : AddsFor a m k o.totalizer t (At l id)) where
    pub asked_row : (row : CostRowValue) → BoundsRow a row o → BoundsRow m row asked
    asked_row row is = let demanded = added.2 in
        row_asked own fitting reforms a m s reached on row o is t added.0 nodes fits demanded.makes

    pub asked_output : terms_of o.totalizer ≡ o.reform.terms →
        (bound : IsBound m.problem m.lines (terms_of o.totalizer) k (At l id)) → IsOutputAt m asked bound.0 l id
    asked_output terms (n, at, some, most, each) =
        let demanded = added.2 in
        let same : added.0 ≡ n = same_number added.0 n (sym added.1 ∙ at) in
        record {
          some = some;
          most = subst (λ (ts : Terms). n ≤ total ts) terms most;
          at = λ u after. subst (λ (ts : Terms). IsBoundAt m.problem m.lines u ts n l id) terms (each u after);
          answered = subst (λ (j : ℕ). IsAnswered t j l) same demanded.answered;
        }

    -- with the line
    pub adds_cost : (b : Snapshot) (q : ObjectiveBound) (v : ℤ) (line : ℕ) → k ≡ v -ℤ o.reform.offset →
        KeepsBut asked q → MakesObjectiveLine m b asked q l → AddsBound a b v o q (At l line)
    adds_cost b q v line above kept makes =
        let demanded = added.2 in
        let made = demanded.makes in
        let same : t ≡ q.totalizer = sym kept.totalizer in (
          added.0,
          value_is v k o.reform.offset added.0 above added.1,
          record {
            makes = subst (λ (u : TotalizerValue). MakesDemanded a b added.0 o.totalizer u) same (record {
              all = made.all;
              stay = made.stay;
              new = made.new;
              defined = let d = made.defined in let e = makes.defined in omega arith;
            });
            known = record {
              answered = subst (λ (u : TotalizerValue). IsAnswered u added.0 l) same demanded.answered;
              line = λ long some.
                  let reform = kept.reform in
                  makes.there (subst (λ (r : Reform). 1 < length r.terms) reform long)
                  (λ none. some (ap (λ (r : Reform). r.lower_line) reform ∙ none));
            };
            again = λ known. makes.again (λ long some. known.line long some) ∙ demanded.again known.answered;
          },
        )

-- ---- the literal

pub own_literal : (m : Snapshot) (s : StateValue) → IsReached m s → (row : CostRowValue) (o q : ObjectiveBound)
    (n : ℕ) (l : Literal) (id line : ℕ) → BoundsRow m row o → IsOutputAt m o n l id → KeepsBut o q →
    HasOwnLiteral q (At l line)
own_literal m s reached row o q n l id line is out kept = ⊎_elim
    (λ (leaf : (weight : ℕ) × (o.reform.terms ≡ (l, weight) ∷ []) × (id ≡ 0) × (n ≤ weight)).
    inl (leaf.0, ap (λ (r : Reform). r.terms) kept.reform ∙ leaf.1))
    (λ (defined : (1 < length o.reform.terms) × IsDefinedFor m.problem s o.reform.terms n l id).
    let stands : StandsFor o defined.1.sum.degree l =
    stands_for m s reached row o n l id is out defined.0 defined.1 in
    inr (
      subst (λ (r : Reform). 1 < length r.terms) (sym kept.reform) defined.0,
      defined.1.positive,
      defined.1.sum.degree,
      subst (λ (t : TotalizerValue). IsThere t.made (length t.nodes - 1) defined.1.sum.degree l) (sym kept.totalizer)
          stands,
    ))
    (cases m s reached row o n l id is out)

-- of one row there is one state
pub states_of : (m : Snapshot) (s : StateValue) → IsReached m s → IsState s → (t : StateValue) → IsReached m t → IsState t
states_of m s reached state t after = subst IsState (replay_once m.problem m.lines s t reached after) state
