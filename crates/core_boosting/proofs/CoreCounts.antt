-- The outputs over a core's literals, one after the other.
use Rattle.std.proofs.Common.{◌≡◌, ℕ, ◌+◌, ◌-◌, ◌<◌, false, List, [], ◌∷◌, length, get_or, refl, ap, sym, subst, ◌∙◌, arith, append-nil}
use Rattle.std.specs.Prelude.{Contains}
use Rattle.std.specs.List.{All}
use Rattle.std.proofs.lemmas.Int.{ints}
use Rattle.std.proofs.lemmas.List.{get_or-map, length-append}
use Rattle.std.proofs.lemmas.List.Elements.{All-nil, All-cons, All-append, All-map}
use Rattle.scut_base.specs.Literal.{Literal}
use Rattle.scut_base.proofs.Lists.{Contains-nil}
use Rattle.pb_lin.specs.Constraint.{IsVariable, literals, ones}
use Rattle.cutting_planes.proofs.Terms.{Terms}
use Rattle.proof_laws.specs.State.{StateValue}
use Rattle.proof_laws.proofs.Ranges.{all_suffix}
use Rattle.proof_rules.specs.Recording.{Snapshot}
use Rattle.sum_outputs.specs.Adding.{Continues, IsReached, IsReady}
use Rattle.sum_outputs.specs.Totals.{AreWeights}
use Rattle.sum_outputs.specs.declared.node.Node.{Node}
use Rattle.sum_outputs.specs.declared.sum_output.SumOutput.{SumOutput}
use Rattle.sum_outputs.proofs.MadeLists.{any_node}
use Rattle.sum_outputs.proofs.OutputsLater.{IsUnderWay, way_on, way_starts}
use Rattle.totalizer.specs.Demanding.{IsThere}
use Rattle.totalizer.specs.Totalizing.{Fits, HasVariables, IsBuilt, TotalizerValue, first_outputs, terms_of}
use Rattle.totalizer.proofs.Roots.{root_is, some_nodes}
use Rattle.core_boosting.specs.declared.counting.Counted.{Counted}
use Rattle.core_boosting.specs.Counting.{AddsOutput, CountsCore, CountsNow, HasCore}
use Rattle.core_boosting.proofs.Countings.{scaled_literals}
use Rattle.core_boosting.proofs.Literals.{AreRising, ones_long, ones_weights, rising_rest}

-- after k - 1 outputs
pub record CountsTo (a b : Snapshot) (lits : List Literal) (t : TotalizerValue) (c : Counted) (k : ℕ) : Type 0 where
  pub way : IsUnderWay a b
  pub so : CountsNow b lits t c
  pub count : length c.outputs + 1 ≡ k
  pub new : (s : StateValue) → IsReached a s → All (λ o. s.vars < o.var) c.outputs

-- ---- the first

pub core_weights : (a : Snapshot) (lits : List Literal) (id : ℕ) → IsReady a → HasCore a lits id → AreWeights (ones lits)
core_weights a lits id ready core =
    let few = core.few in
    ones_weights lits core.rising (λ k d short. let has = core.variables ready.state ready.reached k d short in has.0) (omega arith)

none_first : (lits : List Literal) → 1 < length lits → first_outputs (ones lits) ≡ []
none_first [] long = absurd (omega arith)
none_first (l ∷ []) long = absurd (omega arith)
none_first (l ∷ m ∷ lits) long = refl

module _ (a : Snapshot) (ready : IsReady a) (lits : List Literal) (id : ℕ) (core : HasCore a lits id) (t : TotalizerValue)
    (built : IsBuilt (ones lits) t) where
  none_there : (n : ℕ) (l : Literal) → 1 < length lits → IsThere t.made (length t.nodes - 1) n l → ⊥
  none_there n l long there =
      let sizes = ap (λ (ts : Terms). length ts) built.terms in
      let same = ones_long lits in
      let some = some_nodes t.nodes (omega arith) in
      let terms : (get_or t.nodes (length t.nodes - 1) any_node).terms ≡ ones lits = sym (root_is t.nodes any_node some) ∙ built.terms in
      let outputs : get_or t.made (length t.nodes - 1) [] ≡ [] =
      ap (λ (ms : List (List SumOutput)). get_or ms (length t.nodes - 1) []) built.made
      ∙ get_or-map (λ (m : Node). first_outputs m.terms) t.nodes (length t.nodes - 1) any_node [] (omega arith)
      ∙ ap (λ (ts : Terms). first_outputs ts) terms ∙ none_first lits long in
      let has = there [] in
      Contains-nil has.0 (subst (λ (os : List SumOutput). Contains os has.0) outputs has.1)

  variables : HasVariables a (ones lits)
  variables s reached = All-map (λ u. IsVariable s.vars u.0.var) (λ l. (l, 1)) lits (core.variables s reached)

  pub counts_first : ((b : Snapshot) → HasVariables b (ones lits) → Fits b t) → CountsTo a a lits t (record { outputs = []; line = id }) 1
  counts_first fits = record {
    way = way_starts a ready;
    so = record {
      few = core.few;
      terms = built.terms;
      fits = fits a variables;
      rising = subst AreRising (sym (append-nil lits)) core.rising;
      variables = λ s reached. subst (λ (ls : List Literal). All (λ l. IsVariable s.vars l.var) ls) (sym (append-nil lits)) (core.variables s reached);
      sums = λ n l long there. absurd (none_there n l long there);
      bounds = λ i d short. absurd (omega arith);
      line = core.line;
    };
    count = omega arith;
    new = λ s reached. All-nil (λ o. s.vars < o.var);
  }

-- ---- one more

-- the literals are those of the totalizer's terms
pub own_literals : (b : Snapshot) (lits : List Literal) (t : TotalizerValue) (c : Counted) → CountsNow b lits t c → lits ≡ literals (terms_of t)
own_literals b lits t c so = sym (scaled_literals 1 lits) ∙ ap (λ (ts : Terms). literals ts) (sym so.terms)

module _ (a b : Snapshot) (ready : IsReady a) (lits : List Literal) (t : TotalizerValue) (c : Counted) (k : ℕ) (counts : CountsTo a b lits t c k) where
  pub counts_own : CountsNow b (literals (terms_of t)) t c
  counts_own = subst (λ (ls : List Literal). CountsNow b ls t c) (own_literals b lits t c counts.so) counts.so

  pub terms_long : length (terms_of t) ≡ length lits
  terms_long = ap (λ (ts : Terms). length ts) counts.so.terms ∙ ones_long lits

  pub counts_more : (e : Snapshot) (u : TotalizerValue) (d : Counted) → Continues b e → e.broken ≡ false →
      CountsNow e (literals (terms_of t)) u d → AddsOutput b c d → CountsTo a e lits u d (k + 1)
  counts_more e u d on whole so adds = record {
    way = way_on a b e counts.way on whole;
    so = subst (λ (ls : List Literal). CountsNow e ls u d) (sym (own_literals b lits t c counts.so)) so;
    count =
        let sizes = ap (λ (os : List Literal). length os) adds.is in
        let long = length-append c.outputs (adds.output ∷ []) in
        let before = counts.count in
        omega arith;
    new = λ s reached. subst (λ (os : List Literal). All (λ o. s.vars < o.var) os) (sym adds.is)
        (All-append (λ o. s.vars < o.var) c.outputs (adds.output ∷ []) (counts.new s reached)
        (All-cons (λ o. s.vars < o.var) adds.output [] (above s reached) (All-nil (λ o. s.vars < o.var))));
  }
    where
      above : (s : StateValue) → IsReached a s → s.vars < adds.output.var
      above s reached =
          let has = counts.way.on.states s reached in
          let more = has.later.vars in
          let new = adds.new has.state has.reached in
          omega arith

  -- ---- the last

  pub counts_core : k ≡ length lits → CountsCore a b lits c
  counts_core all = record {
    fewer = let count = counts.count in omega arith;
    rising = rising_rest lits c.outputs counts.so.rising;
    new = counts.new;
    variables = λ s reached. all_suffix (λ l. IsVariable s.vars l.var) lits c.outputs (counts.so.variables s reached);
    follow = λ s reached x hold i d short enough.
        let bound = counts.so.bounds i d short in
        let has = bound.1 in
        let at = has.4 s reached in
        at.follows x hold (let e = has.1 in omega (arith, ints));
    line = counts.so.line;
  }
