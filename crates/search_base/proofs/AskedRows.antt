-- The bounds of an objective after its totalizer was asked, and after a line was made for an output.
use Rattle.std.proofs.Common.{◌≡◌, ◌⊎◌, inl, inr, ⊎_elim, ℕ, ◌+◌, ◌-◌, ◌<◌, ◌≤◌, false, List, [], ◌∷◌, length, take, drop, get_or, ap, sym, subst, ◌∙◌, arith, pos, ◌+ℤ◌}
use Rattle.std.specs.List.{All, AllPairs, Contains, insert}
use Rattle.std.proofs.lemmas.Bool.{cases_lt, cases_order}
use Rattle.std.proofs.lemmas.List.{get_or_past}
use Rattle.std.proofs.lemmas.List.Elements.{All-append, All-cons, All-contains, All-drop, All-take, All-weaker, Contains-append_right, Contains-get_or}
use Rattle.std.proofs.lemmas.List.Edits.{get_or-insert_above, get_or-insert_at, get_or-insert_below, length-insert}
use Rattle.scut_base.specs.Literal.{Literal}
use Rattle.scut_base.proofs.Lists.{Contains-head, Contains-nil}
use Rattle.pb_lin.specs.CostRow.{CostRowValue}
use Rattle.pb_lin.specs.Constraint.{IsVariable}
use Rattle.cutting_planes.proofs.Terms.{Terms}
use Rattle.proof_laws.specs.State.{StateValue}
use Rattle.proof_rules.specs.Recording.{Snapshot}
use Rattle.sum_outputs.specs.Adding.{Continues, IsReached}
use Rattle.sum_outputs.specs.Joining.{IsOutputAt as IsOutputOf}
use Rattle.sum_outputs.specs.Totals.{IsLeastSum}
use Rattle.sum_outputs.specs.declared.node.Node.{Node}
use Rattle.sum_outputs.specs.declared.sum_output.SumOutput.{SumOutput}
use Rattle.totalizer.specs.Demanding.{IsDemanded, IsThere, MakesDemanded}
use Rattle.totalizer.specs.Keeping.{FittingStays, OwnLinesStay, ReformStays}
use Rattle.totalizer.specs.Meaning.{AreTruthsWith}
use Rattle.totalizer.specs.Reforming.{IsReformOf}
use Rattle.totalizer.specs.Totalizing.{TotalizerValue, Fits, terms_of}
use Rattle.totalizer.specs.declared.reform.Reform.{Reform}
use Rattle.search_base.specs.CostBounds.{BoundsRow, IsObjectiveLine, IsOutside, LineCovers}
use Rattle.search_base.specs.OneBound.{IsPlaceFor, KeepsBut}
use Rattle.search_base.specs.declared.objective_bound.ObjectiveLine.{ObjectiveLine}
use Rattle.search_base.specs.declared.objective_bound.ObjectiveBound.{ObjectiveBound}
use Rattle.search_base.proofs.BoundRows.{any_node}
use Rattle.search_base.proofs.RowStays.{row_stays}
use Rattle.search_base.proofs.TurnLines.{own_law, totalizer_lines}

-- ---- outputs of a totalizer

-- where an output is, there are nodes
some_node : (a : Snapshot) (s : StateValue) (t : TotalizerValue) (n : ℕ) (l : Literal) → Fits a t → IsReached a s →
    IsThere t.made (length t.nodes - 1) n l → length t.nodes - 1 < length t.nodes
some_node a s t n l fits reached there = ⊎_elim
    (λ (short : length t.nodes - 1 < length t.nodes). short)
    (λ (past : length t.nodes ≤ length t.nodes - 1).
    let size = (fits.made s reached).size in
    let first = there [] in
    absurd (Contains-nil first.0 (subst (λ (os : List SumOutput). Contains os first.0)
    (get_or_past t.made (length t.nodes - 1) [] (omega arith)) first.1)))
    (cases_lt (length t.nodes - 1) (length t.nodes))

-- an output's variable is one of the state's
there_variable : (a : Snapshot) (s : StateValue) (t : TotalizerValue) (i n : ℕ) (l : Literal) → Fits a t →
    IsReached a s → i < length t.nodes → IsThere t.made i n l → l.var ≤ s.vars
there_variable a s t i n l fits reached short there =
    let first = there [] in
    let outputs = (fits.made s reached).outputs i any_node [] short in
    let of = All-contains (IsOutputOf a s (get_or t.nodes i any_node).terms) (get_or t.made i []) first.0 outputs.each
    first.1 in
    let variable = of.literal.variable in
    let same : first.0.lit.var ≡ l.var = ap (λ (m : Literal). m.var) first.2 in
    omega arith

-- ---- a totalizer that was asked

least_once : (terms : Terms) (k m n : ℕ) → IsLeastSum terms k m → IsLeastSum terms k n → m ≡ n
least_once terms k m n one other =
    let below = one.least n other.attainable other.reaches in
    let above = other.least m one.attainable one.reaches in
    omega arith

module _ (a b : Snapshot) (s : StateValue) (reached : IsReached a s) (k : ℕ) (before now : TotalizerValue)
    (fits : Fits a before) (nodes : now.nodes ≡ before.nodes) (makes : MakesDemanded a b k before now) where
  abbrev root : ℕ
  root = length now.nodes - 1

  same_root : length before.nodes - 1 ≡ root
  same_root = ap (λ (ns : List Node). length ns - 1) (sym nodes)

  root_there : (n : ℕ) (l : Literal) → IsThere before.made (length before.nodes - 1) n l → IsThere before.made root n l
  root_there n l there = subst (λ (i : ℕ). IsThere before.made i n l) same_root there

  some_root : (n : ℕ) (l : Literal) → IsThere before.made (length before.nodes - 1) n l → root < length now.nodes
  some_root n l there =
      let short = some_node a s before n l fits reached there in
      let same = ap (λ (ns : List Node). length ns) nodes in
      omega arith

  -- what stood for a sum still does
  pub stands_still : (n : ℕ) (l : Literal) → IsThere before.made (length before.nodes - 1) n l → IsThere now.made root n l
  stands_still n l there = makes.stay root n l (some_root n l there) (root_there n l there)

  -- and is not the literal of another sum that was asked for
  old_and_new : (m n : ℕ) (l : Literal) → root < length now.nodes → IsThere before.made root m l →
      IsDemanded now.nodes k root n × ((u : StateValue) → IsReached a u → u.vars < l.var) → m ≡ n
  old_and_new m n l short there fresh =
      let above = fresh.1 s reached in
      let same = ap (λ (ns : List Node). length ns) nodes in
      let within = there_variable a s before root m l fits reached (omega arith) there in
      absurd (omega arith)

  both_new : (m n : ℕ) → root < length now.nodes → IsDemanded now.nodes k root m → IsDemanded now.nodes k root n → m ≡ n
  both_new m n short one other =
      least_once (get_or now.nodes root any_node).terms k m n (at m one) (at n other)
    where
      at : (j : ℕ) → IsDemanded now.nodes k root j → IsLeastSum (get_or now.nodes root any_node).terms k j
      at j demanded = ⊎_elim (λ here. here.1) (λ inner. absurd (omega arith)) (demanded any_node)

  pub asked_once : ((l : Literal) (m n : ℕ) → IsThere before.made (length before.nodes - 1) m l →
      IsThere before.made (length before.nodes - 1) n l → m ≡ n) → (l : Literal) (m n : ℕ) → root < length now.nodes →
      IsThere now.made root m l → IsThere now.made root n l → m ≡ n
  asked_once once l m n short one other = by (makes.new root m l short one) (makes.new root n l short other)
    where
      back : (j : ℕ) → IsThere before.made root j l → IsThere before.made (length before.nodes - 1) j l
      back j there = subst (λ (i : ℕ). IsThere before.made i j l) (sym same_root) there

      by : IsThere before.made root m l
          ⊎ (IsDemanded now.nodes k root m × ((u : StateValue) → IsReached a u → u.vars < l.var)) →
          IsThere before.made root n l
          ⊎ (IsDemanded now.nodes k root n × ((u : StateValue) → IsReached a u → u.vars < l.var)) → m ≡ n
      by (inl x) (inl y) = once l m n (back m x) (back n y)
      by (inl x) (inr y) = old_and_new m n l short x y
      by (inr x) (inl y) = sym (old_and_new n m l short y x)
      by (inr x) (inr y) = both_new m n short x.0 y.0

  -- a new output's variable is in no term of a reform whose variables the state has
  pub asked_outside : (reforms : List Reform) →
      All (λ r. All (λ t. IsVariable s.vars t.0.var) r.terms) reforms →
      ((i n : ℕ) (d : Node) (l : Literal) → i < length before.nodes → 1 < length (get_or before.nodes i d).terms →
      IsThere before.made i n l → IsOutside reforms l.var) → (i n : ℕ) (d : Node) (l : Literal) →
      i < length now.nodes → 1 < length (get_or now.nodes i d).terms → IsThere now.made i n l → IsOutside reforms l.var
  asked_outside reforms within outside i n d l short long there = ⊎_elim
      (λ (old : IsThere before.made i n l).
      let same = ap (λ (ns : List Node). length ns) nodes in
      let terms : length (get_or now.nodes i d).terms ≡ length (get_or before.nodes i d).terms =
      ap (λ (ns : List Node). length (get_or ns i d).terms) nodes in
      outside i n d l (omega arith) (omega arith) old)
      (λ (new : IsDemanded now.nodes k i n × ((u : StateValue) → IsReached a u → u.vars < l.var)).
      let above = new.1 s reached in
      λ j r less q t inside e. let w = within j r less q t inside in omega arith)
      (makes.new i n l short there)

-- ---- one row

module _ (own : OwnLinesStay) (fitting : FittingStays) (reforms : ReformStays) (a b : Snapshot) (s : StateValue)
    (reached : IsReached a s) (on : Continues a b) (row : CostRowValue) (o : ObjectiveBound) (is : BoundsRow a row o) where
  later_row : BoundsRow b row o
  later_row = row_stays own fitting reforms a b s on.problem
      (own_law a.problem a.lines b.lines (totalizer_lines a b on)) reached row o is

  abbrev pub with_totalizer : TotalizerValue → ObjectiveBound
  with_totalizer t = record { reform = o.reform; totalizer = t; objective_lines = o.objective_lines }

  -- its totalizer was asked
  pub row_asked : (t : TotalizerValue) (k : ℕ) → t.nodes ≡ o.totalizer.nodes → Fits b t →
      MakesDemanded a b k o.totalizer t → BoundsRow b row (record { reform = o.reform; totalizer = t; objective_lines = o.objective_lines })
  row_asked t k nodes fits makes = record {
    weights = is.weights;
    reform = later_row.reform;
    terms = ap (λ (ns : List Node). terms_of (record { nodes = ns; made = [] })) nodes ∙ is.terms;
    fits = fits;
    objective_lines = λ u after. All-weaker (IsObjectiveLine b.problem b.lines u row o)
        (IsObjectiveLine b.problem b.lines u row (record { reform = o.reform; totalizer = t; objective_lines = o.objective_lines }))
        (λ c made. record {
          sum = made.sum;
          there = stands_still a b s reached k o.totalizer t is.fits nodes makes made.sum
              (record { var = c.var; neg = false }) made.there;
          own = made.own;
          covers = made.covers;
        }) o.objective_lines.items (later_row.objective_lines u after);
    rising = is.rising;
    once = λ l m n one other.
        let has = on.states s reached in
        asked_once a b s reached k o.totalizer t is.fits nodes makes is.once l m n
        (some_node b has.state t m l fits has.reached one) one other;
  }

-- ---- one line more

rising_insert : (lines : List ObjectiveLine) (c : ObjectiveLine) (i : ℕ) → AllPairs (λ x y. x.var < y.var) lines →
    IsPlaceFor lines c.var i → AllPairs (λ x y. x.var < y.var) (insert lines i c)
rising_insert lines c i rising at j k d less short =
    ⊎_elim (λ (e : k ≡ i). here e) (λ (o : (k < i) ⊎ (i < k)). ⊎_elim before after o) (cases_order k i)
  where
    bound : i ≤ length lines
    bound = let is = at.is in is.bound

    long : length (insert lines i c) ≡ length lines + 1
    long = length-insert lines i c bound

    low : (m : ℕ) → m < i → get_or (insert lines i c) m d ≡ get_or lines m d
    low m h = get_or-insert_below lines i c d m h bound

    same : (m : ℕ) → m ≡ i → get_or (insert lines i c) m d ≡ c
    same m e = ap (λ (n : ℕ). get_or (insert lines i c) n d) e ∙ get_or-insert_at lines i c d bound

    high : (m : ℕ) → i < m → get_or (insert lines i c) m d ≡ get_or lines (m - 1) d
    high m h = ap (λ (n : ℕ). get_or (insert lines i c) n d) (omega arith)
        ∙ get_or-insert_above lines i c d (m - 1) (omega arith) bound

    var_of : ObjectiveLine → ℕ
    var_of x = x.var

    greater : (m : ℕ) → i ≤ m → m < length lines → c.var < (get_or lines m d).var
    greater m from within =
        let is = at.is in
        let least = is.above m d from within in
        let other = at.none (get_or lines m d) (Contains-get_or lines m d within) in
        omega arith

    here : k ≡ i → (get_or (insert lines i c) j d).var < (get_or (insert lines i c) k d).var
    here e =
        let is = at.is in
        let lower = is.below j d (omega arith) in
        let one = ap (λ (x : ObjectiveLine). x.var) (low j (omega arith)) in
        let other = ap (λ (x : ObjectiveLine). x.var) (same k e) in
        omega arith

    before : k < i → (get_or (insert lines i c) j d).var < (get_or (insert lines i c) k d).var
    before h =
        let most = bound in
        let up = rising j k d less (omega arith) in
        let one = ap (λ (x : ObjectiveLine). x.var) (low j (omega arith)) in
        let other = ap (λ (x : ObjectiveLine). x.var) (low k h) in
        omega arith

    after : i < k → (get_or (insert lines i c) j d).var < (get_or (insert lines i c) k d).var
    after h =
        let size = long in
        let other = ap (λ (x : ObjectiveLine). x.var) (high k h) in
        ⊎_elim
        (λ (e : j ≡ i).
        let one = ap (λ (x : ObjectiveLine). x.var) (same j e) in
        let more = greater (k - 1) (omega arith) (omega arith) in
        omega arith)
        (λ (o : (j < i) ⊎ (i < j)). ⊎_elim
        (λ (below : j < i).
        let one = ap (λ (x : ObjectiveLine). x.var) (low j below) in
        let up = rising j (k - 1) d (omega arith) (omega arith) in
        omega arith)
        (λ (above : i < j).
        let one = ap (λ (x : ObjectiveLine). x.var) (high j above) in
        let up = rising (j - 1) (k - 1) d (omega arith) (omega arith) in
        omega arith)
        o)
        (cases_order j i)

pub inserted_there : (lines : List ObjectiveLine) (c : ObjectiveLine) (i : ℕ) → Contains (insert lines i c) c
inserted_there lines c i = Contains-append_right (take i lines) (c ∷ drop i lines) c (Contains-head c (drop i lines))

-- of the same reform and totalizer
objective_line_of : (a : Snapshot) (s : StateValue) (row : CostRowValue) (o q : ObjectiveBound) (c : ObjectiveLine) →
    KeepsBut o q → IsObjectiveLine a.problem a.lines s row o c → IsObjectiveLine a.problem a.lines s row q c
objective_line_of a s row o q c kept is = record {
  sum = is.sum;
  there = subst (λ (t : TotalizerValue). IsThere t.made (length t.nodes - 1) is.sum (record { var = c.var; neg = false }))
      (sym kept.totalizer) is.there;
  own = is.own;
  covers = subst (λ (r : Reform). LineCovers s row (pos is.sum +ℤ r.offset) c.line
      (AreTruthsWith (record { var = c.var; neg = false }))) (sym kept.reform) is.covers;
}

pub row_with_line : (a : Snapshot) (row : CostRowValue) (o q : ObjectiveBound) (c : ObjectiveLine) (i : ℕ) → BoundsRow a row o →
    KeepsBut o q → q.objective_lines.items ≡ insert o.objective_lines.items i c → IsPlaceFor o.objective_lines.items c.var i →
    ((s : StateValue) → IsReached a s → IsObjectiveLine a.problem a.lines s row o c) → BoundsRow a row q
row_with_line a row o q c i is kept put place new = record {
  weights = is.weights;
  reform = λ s reached. subst (IsReformOf a.problem a.lines s row) (sym kept.reform) (is.reform s reached);
  terms = ap terms_of kept.totalizer ∙ is.terms ∙ sym (ap (λ (r : Reform). r.terms) kept.reform);
  fits = subst (Fits a) (sym kept.totalizer) is.fits;
  objective_lines = λ s reached.
      let IsOf : ObjectiveLine → Type 0 = IsObjectiveLine a.problem a.lines s row q in
      let old : All IsOf o.objective_lines.items = All-weaker (IsObjectiveLine a.problem a.lines s row o) IsOf
      (λ d. objective_line_of a s row o q d kept) o.objective_lines.items (is.objective_lines s reached) in
      subst (All IsOf) (sym put)
      (All-append IsOf (take i o.objective_lines.items) (c ∷ drop i o.objective_lines.items) (All-take IsOf i o.objective_lines.items old)
      (All-cons IsOf c (drop i o.objective_lines.items) (objective_line_of a s row o q c kept (new s reached))
      (All-drop IsOf i o.objective_lines.items old)));
  rising = subst (λ (cs : List ObjectiveLine). AllPairs (λ x y. x.var < y.var) cs) (sym put)
      (rising_insert o.objective_lines.items c i is.rising place);
  once = subst (λ (t : TotalizerValue). (l : Literal) (m n : ℕ) → IsThere t.made (length t.nodes - 1) m l →
      IsThere t.made (length t.nodes - 1) n l → m ≡ n) (sym kept.totalizer) is.once;
}
