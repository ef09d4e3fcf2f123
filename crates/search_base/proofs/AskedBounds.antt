-- The bounds of all objectives after one was asked.
use Rattle.std.proofs.Common.{◌≡◌, inl, inr, ℕ, zero, suc, ◌-◌, ◌<◌, List, [], ◌∷◌, length, get_or, ap, sym, subst, ◌∙◌, arith, ℤ, pos}
use Rattle.std.proofs.Math.ListN.{set}
use Rattle.std.specs.List.{All, AllZip}
use Rattle.std.proofs.lemmas.List.{get_or-set_other}
use Rattle.std.proofs.lemmas.List.Elements.{All-cons, All-head, All-nil, All-tail}
use Rattle.pb_lin.specs.Constraint.{IsVariable}
use Rattle.pb_lin.specs.CostRow.{CostRowValue}
use Rattle.pb_lin.specs.Problem.{ProblemValue}
use Rattle.cutting_planes.proofs.Terms.{Terms}
use Rattle.proof_laws.specs.State.{StateValue}
use Rattle.proof_rules.specs.Recording.{Snapshot}
use Rattle.sum_outputs.specs.Adding.{Continues, IsReached}
use Rattle.totalizer.specs.Keeping.{FittingStays, OwnLinesStay, ReformStays}
use Rattle.totalizer.specs.Totalizing.{terms_of}
use Rattle.totalizer.specs.declared.bound.Bound.{Bound}
use Rattle.totalizer.specs.declared.bound.Bound.TheVariants.{Always, Never, At}
use Rattle.totalizer.specs.declared.reform.Reform.{Reform}
use Rattle.totalizer.proofs.Roots.{root_is, some_nodes}
use Rattle.search_base.specs.CostBounds.{AddsBound, AreMadeOutside, BoundsRow, FitBounds, HasLiteral, KeepsOthers, reforms_of}
use Rattle.search_base.specs.OneBound.{HasOwnLiteral, KeepsRow}
use Rattle.search_base.specs.declared.objective_bound.ObjectiveBound.{ObjectiveBound}
use Rattle.search_base.proofs.AskedRows.{asked_outside}
use Rattle.search_base.proofs.BoundRows.{any_node, bound_at, bounds_later, row_set}
use Rattle.search_base.proofs.TurnLines.{own_law, totalizer_lines}

-- ---- the reforms

-- their variables are the state's
reforms_within : (a : Snapshot) (s : StateValue) (rows : List CostRowValue) (bounds : List ObjectiveBound) →
    IsReached a s → AllZip (BoundsRow a) rows bounds →
    All (λ r. All (λ t. IsVariable s.vars t.0.var) r.terms) (reforms_of bounds)
reforms_within a s [] [] reached zip = All-nil (λ r. All (λ t. IsVariable s.vars t.0.var) r.terms)
reforms_within a s [] (b ∷ bounds) reached zip = absurd zip
reforms_within a s (row ∷ rows) [] reached zip = absurd zip
reforms_within a s (row ∷ rows) (b ∷ bounds) reached zip =
    let is = zip.0.reform s reached in
    All-cons (λ r. All (λ t. IsVariable s.vars t.0.var) r.terms) b.reform (reforms_of bounds) is.variables
    (reforms_within a s rows bounds reached zip.1)

pub reforms_set : (bounds : List ObjectiveBound) (i : ℕ) (o q : ObjectiveBound) → i < length bounds →
    o ≡ get_or bounds i o → q.reform ≡ o.reform → reforms_of (set bounds i q) ≡ reforms_of bounds
reforms_set [] i o q short is same = absurd (omega arith)
reforms_set (b ∷ bounds) zero o q short is same =
    ap (λ (r : Reform). r ∷ reforms_of bounds) (same ∙ ap (λ (p : ObjectiveBound). p.reform) is)
reforms_set (b ∷ bounds) (suc i) o q short is same =
    ap (λ (rs : List Reform). b.reform ∷ rs) (reforms_set bounds i o q (omega arith) is same)

all_set : {X : Type 0} (P : X → Type 0) (xs : List X) (i : ℕ) (x : X) → All P xs → P x → All P (set xs i x)
all_set P [] i x all new = All-nil P
all_set P (y ∷ ys) zero x all new = All-cons P x ys new (All-tail P y ys all)
all_set P (y ∷ ys) (suc i) x all new = All-cons P y (set ys i x) (All-head P y ys all)
    (all_set P ys i x (All-tail P y ys all) new)

-- ---- one was asked

module _ (a b : Snapshot) (s : StateValue) (reached : IsReached a s) (bounds : List ObjectiveBound) (i : ℕ)
    (o q : ObjectiveBound) (fit : FitBounds a bounds) (there : i < length a.problem.costs)
    (short : i < length bounds) (is : o ≡ get_or bounds i o) (reform : q.reform ≡ o.reform) where
  any_row : CostRowValue
  any_row = record { terms = []; offset = pos 0 }

  row_before : BoundsRow a (get_or a.problem.costs i any_row) o
  row_before = bound_at a bounds i any_row o fit there is

  outside_before : AreMadeOutside (reforms_of bounds) o
  outside_before = subst (AreMadeOutside (reforms_of bounds)) (sym is) (fit.outside i o short)

  -- the variables of its outputs are still in no term of a reform
  pub outside_after : (v : ℤ) (bound : Bound) → q.totalizer.nodes ≡ o.totalizer.nodes → AddsBound a b v o q bound →
      AreMadeOutside (reforms_of bounds) q
  outside_after v (Always id) nodes added = subst (AreMadeOutside (reforms_of bounds)) (sym added.1) outside_before
  outside_after v Never nodes added = subst (AreMadeOutside (reforms_of bounds)) (sym added.1) outside_before
  outside_after v (At l id) nodes added =
      let adds = added.2 in
      let row = row_before in
      asked_outside a b s reached added.0 o.totalizer q.totalizer row.fits nodes adds.makes (reforms_of bounds)
      (reforms_within a s a.problem.costs bounds reached fit.rows) outside_before

  pub others_kept : KeepsOthers i bounds (set bounds i q)
  others_kept = record {
    reforms = reforms_set bounds i o q short is reform;
    others = λ j d other. get_or-set_other bounds i j q d (λ e. other e);
  }

  module _ (own : OwnLinesStay) (fitting : FittingStays) (reforms : ReformStays) (on : Continues a b)
      (keeps : KeepsRow a b o q) (outside : AreMadeOutside (reforms_of bounds) q) where
    -- all may still be asked
    pub fit_asked : FitBounds b (set bounds i q)
    fit_asked =
        let lines = own_law a.problem a.lines b.lines (totalizer_lines a b on) in
        let later : FitBounds b bounds = bounds_later own fitting reforms a b s bounds on.problem lines reached fit in
        let sizes : length b.problem.costs ≡ length a.problem.costs =
        ap (λ (p : ProblemValue). length p.costs) on.problem in
        let still : i < length b.problem.costs = omega arith in
        let row : BoundsRow b (get_or b.problem.costs i any_row) q =
        subst (λ (p : ProblemValue). BoundsRow b (get_or p.costs i any_row) q) (sym on.problem)
        (keeps (get_or a.problem.costs i any_row) row_before) in
        record {
          rows = row_set b b.problem.costs bounds i any_row q later.rows still row;
          outside = subst (λ (rs : List Reform). All (AreMadeOutside rs) (set bounds i q))
              (sym (reforms_set bounds i o q short is reform))
              (all_set (AreMadeOutside (reforms_of bounds)) bounds i q fit.outside outside);
        }

    -- the literal that is answered is as it is said
    pub has_literal : (bound : Bound) → HasOwnLiteral q bound → HasLiteral (reforms_of bounds) o.reform bound
    has_literal (Always id) has = tt
    has_literal Never has = tt
    has_literal (At l id) (inl leaf) = inl (leaf.0, sym (ap (λ (r : Reform). r.terms) reform) ∙ leaf.1)
    has_literal (At l id) (inr (long, positive, n, stands)) =
        let row = keeps (get_or a.problem.costs i any_row) row_before in
        let sizes : length (terms_of q.totalizer) ≡ length q.reform.terms = ap (λ (ts : Terms). length ts) row.terms in
        let some = some_nodes q.totalizer.nodes (omega arith) in
        let root = ap (λ (ts : Terms). length ts) (root_is q.totalizer.nodes any_node some) in
        inr (
          subst (λ (r : Reform). 1 < length r.terms) reform long,
          positive,
          outside (length q.totalizer.nodes - 1) n any_node l (omega arith) (omega arith) stands,
        )
