-- The bounds of objectives, one by one.
use lib.Signed.{lt_z}
use mir.Val.{SFits}
use mir.Syntax.{w64}
use Rattle.std.proofs.Common.{◌≡◌, ⊎_elim, false, ℕ, zero, suc, ◌-◌, ◌<◌, ◌≤◌, ◌^◌, List, [], ◌∷◌, length, get_or, ap, refl, sym, subst, ◌∙◌, arith, ℤ, pos, negsuc, ◌<ℤ◌}
use Rattle.std.proofs.Math.ListN.{set}
use Rattle.std.specs.List.{All, AllPairs, AllZip, Contains}
use Rattle.std.proofs.lemmas.Bool.{cases_lt}
use Rattle.std.proofs.lemmas.Int.{ints}
use Rattle.std.proofs.lemmas.List.{get_or_past, get_or-map, length-map}
use Rattle.std.proofs.lemmas.List.Elements.{All-cons, All-head, All-tail, All-nil}
use Rattle.std.proofs.lemmas.Slice.Zip.{AllZip-long}
use Rattle.scut_base.specs.Literal.{Literal}
use Rattle.scut_base.proofs.Lists.{Contains-nil}
use Rattle.pb_lin.specs.Constraint.{total}
use Rattle.pb_lin.specs.CostRow.{CostRowValue, IsCostRow}
use Rattle.pb_lin.specs.Problem.{ProblemValue}
use Rattle.proof_laws.specs.State.{StateValue}
use Rattle.proof_rules.specs.Recording.{Snapshot}
use Rattle.sum_outputs.specs.Tree.{IsTree}
use Rattle.sum_outputs.specs.Adding.{IsReached, IsReady}
use Rattle.sum_outputs.specs.declared.node.Node.{Node}
use Rattle.sum_outputs.specs.declared.sum_output.SumOutput.{SumOutput}
use Rattle.totalizer.specs.Keeping.{FittingStays, KeepsOwn, OwnLinesStay, ReformStays}
use Rattle.totalizer.specs.Reforming.{IsReformOf}
use Rattle.totalizer.specs.Totalizing.{TotalizerValue, Fits, first_outputs, root_terms, terms_of}
use Rattle.totalizer.specs.declared.reform.Reform.{Reform}
use Rattle.search_base.specs.CostBounds.{AreMadeOutside, AreReforms, BoundsRow, FitBounds, FitSome, IsObjectiveLine, StandsFor, reforms_of}
use Rattle.search_base.specs.OneBound.{IsNewBound}
use Rattle.search_base.specs.declared.objective_bound.ObjectiveLine.{ObjectiveLine}
use Rattle.search_base.specs.declared.objective_bound.ObjectiveBound.{ObjectiveBound}
use Rattle.search_base.proofs.RowStays.{row_stays}

-- ---- new bounds

-- the only output that a node of a new totalizer may have is that of its only term
first_only : (terms : List (Literal × ℕ)) (o q : SumOutput) → Contains (first_outputs terms) o →
    Contains (first_outputs terms) q → o ≡ q
first_only [] o q one other = absurd (Contains-nil o one)
first_only (t ∷ []) o q (zero, short, one) (zero, within, other) = sym one ∙ other
first_only (t ∷ []) o q (suc i, short, one) other = absurd (omega arith)
first_only (t ∷ []) o q one (suc j, within, other) = absurd (omega arith)
first_only (t ∷ u ∷ ts) o q one other = absurd (Contains-nil o one)

-- and none where there are more
first_none : (terms : List (Literal × ℕ)) (o : SumOutput) → 1 < length terms → Contains (first_outputs terms) o → ⊥
first_none [] o long has = absurd (omega arith)
first_none (t ∷ []) o long has = absurd (omega arith)
first_none (t ∷ u ∷ ts) o long has = Contains-nil o has

abbrev pub any_node : Node
any_node = record { terms = []; total = 0; first = 0; second = 0 }

module _ (r : Reform) (o : ObjectiveBound) (is : IsNewBound r o) where
  outputs_at : (i : ℕ) (d : List SumOutput) → i < length o.totalizer.nodes →
      get_or o.totalizer.made i d ≡ first_outputs (get_or o.totalizer.nodes i any_node).terms
  outputs_at i d short =
      let made = is.built.made in
      ap (λ (m : List (List SumOutput)). get_or m i d) made
      ∙ get_or-map (λ (n : Node). first_outputs n.terms) o.totalizer.nodes i any_node d short

  none_past : (i : ℕ) → length o.totalizer.nodes ≤ i → get_or o.totalizer.made i [] ≡ []
  none_past i past =
      let made = is.built.made in
      let sizes = length-map o.totalizer.nodes (λ (n : Node). first_outputs n.terms) in
      let size : length o.totalizer.made ≡ length o.totalizer.nodes = ap length made ∙ sizes in
      get_or_past o.totalizer.made i [] (omega arith)

  new_once : (l : Literal) (m n : ℕ) → StandsFor o m l → StandsFor o n l → m ≡ n
  new_once l m n one other = ⊎_elim
      (λ (short : length o.totalizer.nodes - 1 < length o.totalizer.nodes).
      let first = one [] in
      let second = other [] in
      let at = outputs_at (length o.totalizer.nodes - 1) [] short in
      let same = first_only _ first.0 second.0 (subst (λ (os : List SumOutput). Contains os first.0) at first.1)
      (subst (λ (os : List SumOutput). Contains os second.0) at second.1) in
      sym first.3 ∙ ap (λ (q : SumOutput). q.sum) same ∙ second.3)
      (λ (past : length o.totalizer.nodes ≤ length o.totalizer.nodes - 1).
      let first = one [] in
      absurd (Contains-nil first.0 (subst (λ (os : List SumOutput). Contains os first.0)
      (none_past (length o.totalizer.nodes - 1) past) first.1)))
      (cases_lt (length o.totalizer.nodes - 1) (length o.totalizer.nodes))

  new_outside : (reforms : List Reform) → AreMadeOutside reforms o
  new_outside reforms i n d l short long there =
      let first = there [] in
      absurd (first_none _ first.0 long
      (subst (λ (os : List SumOutput). Contains os first.0) (outputs_at_any i [] d short) first.1))
    where
      outputs_at_any : (j : ℕ) (e : List SumOutput) (f : Node) → j < length o.totalizer.nodes →
          get_or o.totalizer.made j e ≡ first_outputs (get_or o.totalizer.nodes j f).terms
      outputs_at_any j e f less =
          let made = is.built.made in
          ap (λ (m : List (List SumOutput)). get_or m j e) made
          ∙ get_or-map (λ (n' : Node). first_outputs n'.terms) o.totalizer.nodes j f e less

  new_row : (a : Snapshot) (row : CostRowValue) → IsCostRow row.terms row.offset →
      ((s : StateValue) → IsReached a s → IsReformOf a.problem a.lines s row r) → BoundsRow a row o
  new_row a row weights reform =
      let same = is.reform in
      let built = is.built in
      record {
        weights = weights;
        reform = λ s reached. subst (IsReformOf a.problem a.lines s row) (sym same) (reform s reached);
        terms = built.terms ∙ sym (ap (λ (q : Reform). q.terms) same);
        fits = is.fits a (λ s reached. let reformed = reform s reached in reformed.variables);
        objective_lines = λ s reached. subst (All (IsObjectiveLine a.problem a.lines s row o)) (sym is.none)
            (All-nil (IsObjectiveLine a.problem a.lines s row o));
        rising = subst (λ (cs : List ObjectiveLine). AllPairs (λ c d. c.var < d.var) cs) (sym is.none) (λ i j d less short. absurd (omega arith));
        once = new_once;
      }

-- bounds that were made of reforms, one by one
abbrev pub AreNew : List Reform → List ObjectiveBound → Type 0
AreNew reforms bounds = AllZip IsNewBound reforms bounds

pub new_reforms : (reforms : List Reform) (bounds : List ObjectiveBound) → AreNew reforms bounds →
    reforms_of bounds ≡ reforms
new_reforms [] [] are = refl
new_reforms [] (b ∷ bounds) are = absurd are
new_reforms (r ∷ reforms) [] are = absurd are
new_reforms (r ∷ reforms) (b ∷ bounds) are =
    ap (λ (q : Reform). q ∷ reforms_of bounds) are.0.reform ∙ ap (λ (rs : List Reform). r ∷ rs)
    (new_reforms reforms bounds are.1)

new_rows : (a : Snapshot) (rows : List CostRowValue) (reforms : List Reform) (bounds : List ObjectiveBound) →
    All (λ r. IsCostRow r.terms r.offset) rows → length reforms ≡ length rows →
    ((s : StateValue) → IsReached a s → AllZip (IsReformOf a.problem a.lines s) rows reforms) → AreNew reforms bounds →
    AllZip (BoundsRow a) rows bounds
new_rows a [] [] [] weights count each are = tt
new_rows a [] [] (b ∷ bounds) weights count each are = absurd are
new_rows a [] (r ∷ reforms) bounds weights count each are = absurd (omega arith)
new_rows a (row ∷ rows) [] bounds weights count each are = absurd (omega arith)
new_rows a (row ∷ rows) (r ∷ reforms) [] weights count each are = absurd are
new_rows a (row ∷ rows) (r ∷ reforms) (b ∷ bounds) weights count each are = (
  new_row r b are.0 a row (All-head (λ q. IsCostRow q.terms q.offset) row rows weights)
      (λ s reached. (each s reached).0),
  new_rows a rows reforms bounds (All-tail (λ q. IsCostRow q.terms q.offset) row rows weights) (omega arith)
      (λ s reached. (each s reached).1) are.1,
)

all_outside : (all reforms : List Reform) (bounds : List ObjectiveBound) → AreNew reforms bounds →
    All (AreMadeOutside all) bounds
all_outside all [] [] are = All-nil (AreMadeOutside all)
all_outside all [] (b ∷ bounds) are = absurd are
all_outside all (r ∷ reforms) [] are = absurd are
all_outside all (r ∷ reforms) (b ∷ bounds) are = All-cons (AreMadeOutside all) b bounds (new_outside r b are.0 all)
    (all_outside all reforms bounds are.1)

pub new_fit : (reforms : List Reform) (bounds : List ObjectiveBound) → AreNew reforms bounds → (a : Snapshot) →
    AreReforms a reforms → FitBounds a bounds
new_fit reforms bounds are a is = record {
  rows = new_rows a a.problem.costs reforms bounds is.rows is.count is.each are;
  outside = all_outside (reforms_of bounds) reforms bounds are;
}

-- ---- one of the bounds

rows_later : (a b : Snapshot) (rows : List CostRowValue) (bounds : List ObjectiveBound) →
    ((r : CostRowValue) (o : ObjectiveBound) → BoundsRow a r o → BoundsRow b r o) → AllZip (BoundsRow a) rows bounds →
    AllZip (BoundsRow b) rows bounds
rows_later a b [] [] goes zip = tt
rows_later a b [] (o ∷ bounds) goes zip = absurd zip
rows_later a b (r ∷ rows) [] goes zip = absurd zip
rows_later a b (r ∷ rows) (o ∷ bounds) goes zip = (goes r o zip.0, rows_later a b rows bounds goes zip.1)

pub row_at : (a : Snapshot) (rows : List CostRowValue) (bounds : List ObjectiveBound) (i : ℕ) (d : CostRowValue)
    (e : ObjectiveBound) → AllZip (BoundsRow a) rows bounds → i < length rows →
    BoundsRow a (get_or rows i d) (get_or bounds i e)
row_at a [] bounds i d e zip short = absurd (omega arith)
row_at a (r ∷ rows) [] i d e zip short = absurd zip
row_at a (r ∷ rows) (o ∷ bounds) zero d e zip short = zip.0
row_at a (r ∷ rows) (o ∷ bounds) (suc i) d e zip short = row_at a rows bounds i d e zip.1 (omega arith)

pub row_set : (a : Snapshot) (rows : List CostRowValue) (bounds : List ObjectiveBound) (i : ℕ) (d : CostRowValue)
    (o : ObjectiveBound) → AllZip (BoundsRow a) rows bounds → i < length rows → BoundsRow a (get_or rows i d) o →
    AllZip (BoundsRow a) rows (set bounds i o)
row_set a [] bounds i d o zip short new = absurd (omega arith)
row_set a (r ∷ rows) [] i d o zip short new = absurd zip
row_set a (r ∷ rows) (old ∷ bounds) zero d o zip short new = (new, zip.1)
row_set a (r ∷ rows) (old ∷ bounds) (suc i) d o zip short new =
    (zip.0, row_set a rows bounds i d o zip.1 (omega arith) new)

-- that of the objective at a place
pub bound_at : (a : Snapshot) (bounds : List ObjectiveBound) (i : ℕ) (d : CostRowValue) (o : ObjectiveBound) →
    FitBounds a bounds → i < length a.problem.costs → o ≡ get_or bounds i o → BoundsRow a (get_or a.problem.costs i d) o
bound_at a bounds i d o fit there is = subst (λ (q : ObjectiveBound). BoundsRow a (get_or a.problem.costs i d) q)
    (sym is) (row_at a a.problem.costs bounds i d o fit.rows there)

-- bounds that may be asked still may be
pub bounds_later : OwnLinesStay → FittingStays → ReformStays → (a b : Snapshot) (s : StateValue)
    (bounds : List ObjectiveBound) → b.problem ≡ a.problem → KeepsOwn a.problem a.lines b.lines → IsReached a s →
    FitBounds a bounds → FitBounds b bounds
bounds_later own fitting reforms a b s bounds problem keeps reached fit = record {
  rows = subst (λ (p : ProblemValue). AllZip (BoundsRow b) p.costs bounds) (sym problem)
      (rows_later a b a.problem.costs bounds (row_stays own fitting reforms a b s problem keeps reached) fit.rows);
  outside = fit.outside;
}

-- ---- the sum of a totalizer's weights

root_at : (n : Node) (nodes : List Node) (d : Node) →
    root_terms (n ∷ nodes) ≡ (get_or (n ∷ nodes) (length nodes) d).terms
root_at n [] d = refl
root_at n (m ∷ nodes) d = root_at m nodes d

root_small : (nodes : List Node) → IsTree nodes → total (root_terms nodes) < 2 ^ 63
root_small [] tree = omega arith
root_small (n ∷ nodes) tree =
    let node = tree (length nodes) n (omega arith) in
    subst (λ (ts : List (Literal × ℕ)). total ts < 2 ^ 63) (sym (root_at n nodes n)) node.weights.small

pub total_small : (a : Snapshot) (t : TotalizerValue) → Fits a t → total (terms_of t) < 2 ^ 63
total_small a t fits = root_small t.nodes fits.rooted.tree

-- what isn't an i64 is above all that is below 2^63
pub above_all : (n : ℕ) (k : ℤ) → n < 2 ^ 63 → lt_z k (pos 1) ≡ false → (SFits w64 k → ⊥) → pos n <ℤ k
above_all n (pos m) small from_one wide =
    ⊎_elim (λ (less : m < 2 ^ 63). absurd (wide (record { sfits = less })))
    (λ (more : 2 ^ 63 ≤ m). omega (arith, ints)) (cases_lt m (2 ^ 63))
above_all n (negsuc m) small from_one wide = cc

-- of bounds that some recorder's lines made, that at a place is of some row
pub row_of_bound : (bounds : List ObjectiveBound) (i : ℕ) (o : ObjectiveBound) → FitSome bounds → i < length bounds →
    o ≡ get_or bounds i o → (a : Snapshot) × IsReady a × (row : CostRowValue) × BoundsRow a row o
row_of_bound bounds i o (a, ready, fit) short is =
    let sizes = AllZip-long (BoundsRow a) a.problem.costs bounds fit.rows in
    let d : CostRowValue = record { terms = []; offset = pos 0 } in
    (a, ready, get_or a.problem.costs i d, bound_at a bounds i d o fit (omega arith) is)
