-- What is there already.
use Rattle.std.proofs.Common.{◌≡◌, ◌⊎◌, ⊎_elim, inl, inr, ℕ, ◌-◌, ◌<◌, ◌≤◌, Bool, true, false, if◌then◌else◌, List, [], ◌∷◌, length, get_or, refl, ap, sym, subst, ◌∙◌, arith, pos}
use Rattle.std.specs.List.{All, Contains}
use Rattle.std.proofs.lemmas.Bool.{cases_Bool}
use Rattle.std.proofs.lemmas.List.{get_or_default}
use Rattle.std.proofs.lemmas.List.Elements.{All-contains, All-head}
use Rattle.std.proofs.lemmas.List.Sums.{sum_by-cons}
use Rattle.scut_base.specs.Literal.{Literal}
use Rattle.scut_base.specs.Assignment.{lit_true}
use Rattle.pb_lin.specs.Constraint.{IsVariable, term_value, total, value}
use Rattle.cutting_planes.proofs.Terms.{Terms}
use Rattle.proof_laws.specs.State.{StateValue}
use Rattle.proof_rules.specs.Recording.{Snapshot}
use Rattle.sum_outputs.specs.Totals.{AreWeights, IsAttainable, IsLeastSum}
use Rattle.sum_outputs.specs.Adding.{IsReached, IsReady}
use Rattle.sum_outputs.specs.Outputs.{IsDefined}
use Rattle.sum_outputs.specs.MadeOutputs.{AreMade, AreCompleteTo}
use Rattle.sum_outputs.specs.declared.sum_output.SumOutput.{SumOutput}
use Rattle.sum_outputs.proofs.Attaining.{attain_total}
use Rattle.totalizer.specs.declared.bound.Bound.{Bound}
use Rattle.totalizer.specs.declared.bound.Bound.TheVariants.{Always, Never, At}
use Rattle.totalizer.specs.Meaning.{IsBound, IsBoundAt}
use Rattle.totalizer.specs.Totalizing.{TotalizerValue, root_terms, Fits}
use Rattle.totalizer.specs.Demanding.{AddsDemanded, AddsFor, MakesDemanded}
use Rattle.totalizer.specs.Knowing.{IsKnown}
use Rattle.totalizer.proofs.BoundLines.{leaf_bound, output_bound}
use Rattle.sum_outputs.proofs.MadeLists.{any_node}
use Rattle.totalizer.proofs.Roots.{root_is, attain_root, alone}
use Rattle.totalizer.proofs.RootOutputs.{output_at, stands_for}
use Rattle.totalizer.proofs.DemandedOutputs.{all_there, answered_by, attained}

one_value : (x : List Bool) (t : Literal × ℕ) → (value x (t ∷ []) ≡ 0) ⊎ (value x (t ∷ []) ≡ total (t ∷ []))
one_value x t =
    let one = sum_by-cons (term_value x) t [] in
    let all = sum_by-cons (λ (u : Literal × ℕ). u.1) t [] in
    ⊎_elim
    (λ (is : lit_true x t.0 ≡ true).
    let here : term_value x t ≡ t.1 = ap (λ (b : Bool). if b then t.1 else 0) is in
    inr (omega arith))
    (λ (other : lit_true x t.0 ≡ false).
    let none : term_value x t ≡ 0 = ap (λ (b : Bool). if b then t.1 else 0) other in
    inl (omega arith))
    (cases_Bool (lit_true x t.0))

module _ (a : Snapshot) (t : TotalizerValue) (fits : Fits a t) (ready : IsReady a) (some : 0 < length t.nodes)
    (k : ℕ) (from_one : 0 < k) where
  abbrev place : ℕ
  place = length t.nodes - 1

  -- the terms of the root, and its outputs
  abbrev terms : Terms
  terms = root_terms t.nodes

  abbrev outputs : List SumOutput
  outputs = get_or t.made place []

  are : AreMade a ready.state t.nodes t.made
  are = fits.made ready.state ready.reached

  terms_are : terms ≡ (get_or t.nodes place any_node).terms
  terms_are = root_is t.nodes any_node some

  -- nothing is added where all is there
  nothing_more : AreCompleteTo t.nodes t.made place k → (o : SumOutput) → Contains outputs o →
      IsLeastSum terms k o.sum → MakesDemanded a a k t t
  nothing_more complete o has least = record {
    all = all_there a ready.state t.nodes t.made are k complete o has least;
    stay = λ i n l short is. is;
    new = λ i n l short is. inl is;
    defined = refl;
  }

  module _ (o : SumOutput) (has : Contains outputs o) (least : IsLeastSum terms k o.sum) where
    defined_at : 1 < length terms → (s : StateValue) → IsReached a s → IsDefined a s terms o
    defined_at long s reached =
        let more = subst (λ (ts : Terms). 1 < length ts) terms_are long in
        let all = (fits.made s reached).defined place any_node [] (omega arith) more in
        subst (λ (ts : Terms). IsDefined a s ts o) (sym terms_are)
        (All-contains (IsDefined a s (get_or t.nodes place any_node).terms) outputs o all has)

    -- what the output stands on is there for k too: no sum is from `from` on and below its own
    pub complete_to : AreCompleteTo t.nodes t.made place k
    complete_to i n os less m can more = ⊎_elim
        (λ (same : (q : SumOutput) × Contains (get_or t.made i os) q × (q.sum ≡ m)). inl same)
        (λ (other : (q : SumOutput) × Contains (get_or t.made i os) q × (o.from ≤ q.sum) × (q.sum ≤ m)).
        let size = are.size in
        let q = other.0 in
        let same = get_or_default t.made i os [] (omega arith) in
        let there = subst (λ (ps : List SumOutput). Contains ps q) same other.1 in
        let here = attained a ready.state t.nodes t.made are i q (omega arith) there in
        let sum = attain_root t.nodes fits.rooted i q.sum (omega arith) here in
        let above = (output_at a t fits some o has ready.state ready.reached).gap q.sum sum other.2 in
        let reach = least.reaches in
        inr (q, other.1, omega arith, other.3))
        (fits.asked o [] has i n os less m can more)

    known_adds : AddsDemanded a a k t t o.lit
    known_adds = record {
      makes = nothing_more complete_to o has least;
      answered = answered_by t k o (let size = are.size in omega arith) has least;
      again = λ was. refl;
    }

    known_bound : 1 < length terms → k ≤ total terms → IsBound a.problem a.lines terms (pos k) (At o.lit o.lower)
    known_bound long most =
        let at = λ (s : StateValue) (reached : IsReached a s).
        output_bound a s terms k o (output_at a t fits some o has s reached) (defined_at long s reached) least long in
        (k, refl, from_one, most, at)

  -- a root of one term has the output of its literal
  module _ (l : Literal) (weight : ℕ) (is : terms ≡ (l, weight) ∷ []) (most : k ≤ total terms) where
    one_node : length t.nodes ≡ 1
    one_node = alone t.nodes fits.rooted (ap length is) some

    weights : AreWeights terms
    weights = subst (λ (ts : Terms). AreWeights ts) (sym terms_are)
        (fits.rooted.tree place any_node (omega arith)).weights

    none_or_all : (x : List Bool) → (value x terms ≡ 0) ⊎ (value x terms ≡ total terms)
    none_or_all x =
        subst (λ (ts : Terms). (value x ts ≡ 0) ⊎ (value x ts ≡ total ts)) (sym is) (one_value x (l, weight))

    -- the sum of all weights is the only one above 0
    whole_is_least : (n : ℕ) → n ≡ total terms → IsLeastSum terms k n
    whole_is_least n whole =
        let top = attain_total terms weights in
        record {
          attainable = (top.0, top.1 ∙ sym whole);
          reaches = omega arith;
          least = λ m can reach.
              let e = can.1 in
              ⊎_elim
              (λ (none : value can.0 terms ≡ 0). absurd (omega arith))
              (λ (all : value can.0 terms ≡ total terms). omega arith)
              (none_or_all can.0);
        }

    literal_makes : MakesDemanded a a k t t
    literal_makes =
        let n = total terms in
        let leaf : length (get_or t.nodes place any_node).terms ≡ 1 = ap length (sym terms_are ∙ is) in
        let can = subst (λ (ts : Terms). IsAttainable ts n) terms_are (whole_is_least n refl).attainable in
        let none : AreCompleteTo t.nodes t.made place k = λ i m os less. let one = one_node in absurd (omega arith) in
        ⊎_elim
        (λ (same : (q : SumOutput) × Contains outputs q × (q.sum ≡ n)).
        nothing_more none same.0 same.1 (whole_is_least same.0.sum same.2))
        (λ (other : (q : SumOutput) × Contains outputs q × (n ≤ q.sum) × (q.sum ≤ n)).
        let low = other.2 in
        let high = other.3 in
        nothing_more none other.0 other.1 (whole_is_least other.0.sum (omega arith)))
        (are.leaves place any_node [] n (omega arith) leaf n can (omega arith))

    literal_adds : AddsDemanded a a k t t l
    literal_adds = record {
      makes = literal_makes;
      answered = λ long. let single = ap length is in absurd (omega arith);
      again = λ was. refl;
    }

    literal_variable : (s : StateValue) → IsReached a s → IsVariable s.vars l.var
    literal_variable s reached =
        let all = (fits.made s reached).variables place any_node (omega arith) in
        All-head (λ u. IsVariable s.vars u.0.var) (l, weight) []
        (subst (λ (ts : Terms). All (λ u. IsVariable s.vars u.0.var) ts) (sym terms_are ∙ is) all)

    literal_bound : IsBound a.problem a.lines terms (pos k) (At l 0)
    literal_bound =
        let enough = subst (λ (ts : Terms). k ≤ total ts) is most in
        let at = λ (s : StateValue) (reached : IsReached a s).
        subst (λ (ts : Terms). IsBoundAt a.problem a.lines s ts k l 0) (sym is)
        (leaf_bound a.problem a.lines s (l, weight) k from_one enough (literal_variable s reached)) in
        (k, refl, from_one, most, at)

  -- ---- both

  abbrev Answered : Bound → Type 0
  Answered bound = IsBound a.problem a.lines terms (pos k) bound × AddsFor a a (pos k) t t bound

  -- an output that stands for a sum of at least k
  abbrev IsAnOutput : Literal → ℕ → Type 0
  IsAnOutput l id = (o : SumOutput) × (1 < length terms) × Contains outputs o × (o.from ≤ k) × (k ≤ o.sum)
      × (o.lit ≡ l) × (o.lower ≡ id)

  answered_at : (l : Literal) (id : ℕ) → k ≤ total terms → IsKnown terms outputs k (At l id) → Answered (At l id)
  answered_at l id most known = ⊎_elim
      (λ (one : (weight : ℕ) × (terms ≡ (l, weight) ∷ []) × (id ≡ 0)).
      subst (λ (i : ℕ). Answered (At l i)) (sym one.2)
      (literal_bound l one.0 one.1 most, (k, refl, literal_adds l one.0 one.1 most)))
      (λ (at : IsAnOutput l id).
      subst (λ (m : Literal). Answered (At m id)) at.5 (subst (λ (i : ℕ). Answered (At at.0.lit i)) at.6
      (let least = stands_for a t fits some ready.state ready.reached k at.0 at.2 at.3 at.4 in
      (known_bound at.0 at.2 least at.1 most, (k, refl, known_adds at.0 at.2 least)))))
      known

  pub answered : (bound : Bound) → k ≤ total terms → IsKnown terms outputs k bound → Answered bound
  answered (At l id) most known = answered_at l id most known
  answered (Always id) most known = absurd known
  answered Never most known = absurd known
