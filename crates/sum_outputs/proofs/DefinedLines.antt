-- The line that defines a literal: it is legal, and its two lines are there after it.
use Rattle.std.proofs.Common.{◌≡◌, ◌≢◌, ◌⊎◌, inl, inr, ℕ, ◌+◌, ◌*◌, ◌<◌, ◌≤◌, ◌==◌, Bool, true, false, not, Option, None, Some, List, [], ◌∷◌, ◌++◌, map, refl, ap, sym, subst, ◌∙◌, arith}
use Rattle.std.specs.Prelude.{◌^◌, nat_lt}
use Rattle.std.specs.List.{All}
use Rattle.std.specs.List.Sorted.{IsPermutation, IsNonDecreasingBy}
use Rattle.std.specs.FinMap.{get, insert}
use Rattle.std.proofs.lemmas.Bool.{eq-eqb}
use Rattle.std.proofs.lemmas.List.Elements.{All-map}
use Rattle.std.proofs.lemmas.List.Sorted.{sum_by-IsPermutation}
use Rattle.std.proofs.lemmas.Map.Views.{All-map-IsPermutation}
use Rattle.std.proofs.lemmas.List.Sums.{sum_by-append}
use Rattle.scut_base.specs.Literal.{Literal}
use Rattle.scut_base.proofs.Lists.{AllApart-from_pairs, AllApart-IsPermutation, rising_from_distinct}
use Rattle.pb_lin.specs.Constraint.{ConstraintValue, IsNormal, opposite_terms, size, term_value, total, value}
use Rattle.pb_lin.specs.Problem.{ProblemValue}
use Rattle.pb_lin.proofs.OppositeTerms.{total-opposite}
use Rattle.cutting_planes.proofs.Terms.{Terms}
use Rattle.proof_laws.specs.State.{StateValue, IsState}
use Rattle.proof_laws.specs.Steps.{reached_if, reached_only_if, missed_by, term_of, with_definition}
use Rattle.proof_laws.specs.Refusal.{def_fault, fault_unless, first_fault, range_fault, size_fault, term_variables, FirstOf}
use Rattle.proof_laws.specs.Legal.{IsLegal, IsRefused}
use Rattle.proof_laws.specs.Replay.{IsReplay}
use Rattle.proof_laws.specs.Earned.{IsLearnedId}
use Rattle.proof_laws.specs.declared.line.Line.{Line}
use Rattle.proof_laws.specs.declared.line.Line.TheVariants.{Def}
use Rattle.proof_laws.specs.declared.why.Why.{Why}
use Rattle.proof_laws.specs.declared.why.Why.TheVariants.{AfterEnd, LogLong, NotFresh}
use Rattle.proof_laws.proofs.Conditions.{no_size_fault}
use Rattle.proof_laws.proofs.Replays.{replay_before, replay_once}
use Rattle.proof_rules.specs.Recording.{Snapshot, MayBeAdded, IsNextId}
use Rattle.sum_outputs.specs.Adding.{IsReached, IsReady}
use Rattle.sum_outputs.specs.Outputs.{IsDefinedBy, IsDefinedNext, IsInOrder, IsSumOf}
use Rattle.sum_outputs.specs.Totals.{AreWeights}
use Rattle.sum_outputs.specs.declared.sum_output.SumOutput.{SumOutput}
use Rattle.sum_outputs.proofs.LaterStates.{get_other, replay_vars, after_not_learned}
use Rattle.sum_outputs.proofs.PartLines.{total_one}
use Rattle.sum_outputs.proofs.PolLines.{none_found, put_live}

-- ---- the line is legal

all_none : (a b c d : Option Why) → a ≡ None → b ≡ None → c ≡ None → d ≡ None → first_fault a (first_fault b (first_fault c d)) ≡ None
all_none None None None None _ _ _ _ = refl
all_none (Some w) b c d e _ _ _ = cc
all_none None (Some w) c d _ e _ _ = cc
all_none None None (Some w) d _ _ e _ = cc
all_none None None None (Some w) _ _ _ e = cc

def_legal : (p : ProblemValue) (s : StateValue) (var : ℕ) (c : ConstraintValue) → s.ended ≡ false → def_fault s var c ≡ None → IsLegal p s (Def var c) ⊎ IsRefused p s (Def var c) LogLong
def_legal p s var c unended none = by s.ended (nat_lt s.lines (2 ^ 61)) unended
  where
    by : (e long : Bool) → e ≡ false →
        FirstOf (fault_unless (not e) AfterEnd) (FirstOf (fault_unless long LogLong) (λ f. f ≡ def_fault s var c)) None ⊎ FirstOf (fault_unless (not e) AfterEnd) (FirstOf (fault_unless long LogLong) (λ f. f ≡ def_fault s var c)) (Some LogLong)
    by true long e = cc
    by false true e = inl (sym none)
    by false false e = inr refl

module _ (a : Snapshot) (s : StateValue) (state : IsState s) (reached : IsReached a s) (c : ConstraintValue) (var n : ℕ) (is : IsSumOf s c var n) where
  pub lower_size : size (reached_if var c) ≡ total c.terms + 2 * n
  lower_size =
      let d = is.degree in
      let some = is.some in
      let parts = sum_by-append (λ (t : Literal × ℕ). t.1) c.terms (term_of (record { var = var; neg = true }) c.degree) in
      let one = total_one (record { var = var; neg = true }) c.degree (omega arith) in
      omega arith

  upper_size : size (reached_only_if var c) ≡ total c.terms + 2 * missed_by c
  upper_size =
      let d = is.degree in
      let most = is.most in
      let parts = sum_by-append (λ (t : Literal × ℕ). t.1) (opposite_terms c.terms) (term_of (record { var = var; neg = false }) (missed_by c)) in
      let one = total_one (record { var = var; neg = false }) (missed_by c) (omega arith) in
      let all = total-opposite c.terms in
      omega arith

  no_def_fault : def_fault s var c ≡ None
  no_def_fault =
      let small = is.small in
      let most = is.most in
      let one = lower_size in
      let two = upper_size in
      all_none (fault_unless (var == s.vars + 1) (NotFresh var)) (range_fault s.vars (term_variables c.terms)) (size_fault (size (reached_if var c))) (size_fault (size (reached_only_if var c)))
      (ap (λ (b : Bool). fault_unless b (NotFresh var)) (eq-eqb var (s.vars + 1) is.next))
      (none_found s.vars (term_variables c.terms) (All-map (λ v. v ≤ s.vars) (λ t. t.0.var) c.terms is.variables))
      (no_size_fault (size (reached_if var c)) (omega arith))
      (no_size_fault (size (reached_only_if var c)) (omega arith))

  pub defined_legal : IsReady a → MayBeAdded a.problem a.lines (Def var c)
  defined_legal ready t other =
      let same : s ≡ t = replay_once a.problem a.lines s t reached other in
      let same_ready : ready.state ≡ s = replay_once a.problem a.lines ready.state s ready.reached reached in
      let unended : s.ended ≡ false = subst (λ (u : StateValue). u.ended ≡ false) same_ready ready.unended in
      subst (λ (u : StateValue). IsLegal a.problem u (Def var c) ⊎ IsRefused a.problem u (Def var c) LogLong) same (def_legal a.problem s var c unended no_def_fault)

  -- what is there after it
  module _ (b : Snapshot) (o : SumOutput) (problem : b.problem ≡ a.problem) (lines : b.lines ≡ a.lines ++ Def var c ∷ []) (o_var : o.lit.var ≡ var) (o_neg : o.lit.neg ≡ false) (o_lower : IsNextId a.problem a.lines o.lower) (o_upper : o.upper ≡ o.lower + 1) where
    again : (t : StateValue) → IsReached b t → IsReplay a.problem (a.lines ++ Def var c ∷ []) t
    again t after = subst (λ (ls : List Line). IsReplay a.problem ls t) lines (subst (λ (p : ProblemValue). IsReplay p b.lines t) problem after)

    after_is : (t : StateValue) → IsReached b t → t ≡ with_definition s c
    after_is t after = (replay_before a.problem a.lines (Def var c) s t reached (again t after)).makes

    lower_is : o.lower ≡ s.next_id
    lower_is = o_lower s reached

    not_learned : (id : ℕ) → s.next_id ≤ id → IsLearnedId b.problem b.lines id → ⊥
    not_learned id above learned = after_not_learned a.problem a.lines (Def var c) s id reached above refl
        (subst (λ (ls : List Line). IsLearnedId a.problem ls id) lines (subst (λ (p : ProblemValue). IsLearnedId p b.lines id) problem learned))

    line_lower : (t : StateValue) → IsReached b t → get t.live s.next_id ≡ Some (reached_if (s.vars + 1) c)
    line_lower t after = ap (λ (u : StateValue). get u.live s.next_id) (after_is t after)
        ∙ get_other (insert s.live s.next_id (reached_if (s.vars + 1) c)) (s.next_id + 1) s.next_id (reached_only_if (s.vars + 1) c) (λ e. omega arith)
        ∙ put_live s.live s.next_id (reached_if (s.vars + 1) c)

    line_upper : (t : StateValue) → IsReached b t → get t.live (s.next_id + 1) ≡ Some (reached_only_if (s.vars + 1) c)
    line_upper t after = ap (λ (u : StateValue). get u.live (s.next_id + 1)) (after_is t after) ∙ put_live (insert s.live s.next_id (reached_if (s.vars + 1) c)) (s.next_id + 1) (reached_only_if (s.vars + 1) c)

    var_next : o.lit.var ≡ s.vars + 1
    var_next = o_var ∙ is.next

    pub defined_after : IsDefinedBy a b c o
    defined_after = record {
      line = lines ∙ ap (λ (v : ℕ). a.lines ++ Def v c ∷ []) (sym o_var);
      positive = ap (λ (n : Bool). record { var = o.lit.var; neg = n }) o_neg;
      named = let l = lower_is in let f = state.first_id in omega arith;
      fresh = λ u other. let same : s ≡ u = replay_once a.problem a.lines s u reached other in let v : s.vars ≡ u.vars = ap (λ (w : StateValue). w.vars) same in let next = var_next in omega arith;
      variable = λ t after. let more : t.vars ≡ s.vars + 1 = ap (λ (u : StateValue). u.vars) (after_is t after) in let next = var_next in (omega arith, omega arith);
      lower = λ t after. (
        ap (λ (id : ℕ). get t.live id) lower_is ∙ line_lower t after ∙ ap (λ (v : ℕ). Some (reached_if v c)) (sym var_next),
        not_learned o.lower (let l = lower_is in omega arith),
      );
      upper = λ t after. (
        ap (λ (id : ℕ). get t.live id) (o_upper ∙ ap (λ (id : ℕ). id + 1) lower_is) ∙ line_upper t after ∙ ap (λ (v : ℕ). Some (reached_only_if v c)) (sym var_next),
        not_learned o.upper (let l = lower_is in omega arith),
      );
    }

-- ---- terms in order

map_same : {X : Type 0} (xs : List X) → map (λ x. x) xs ≡ xs
map_same [] = refl
map_same (x ∷ xs) = ap (λ (ys : List _). x ∷ ys) (map_same xs)

-- what holds of each element holds in any order
pub all_permuted : {X : Type 0} (P : X → Type 0) (xs ys : List X) → IsPermutation xs ys → All P xs → All P ys
all_permuted {X} P xs ys order all = subst (λ (zs : List X). All P zs) (map_same ys) (All-map-IsPermutation (λ (x : X). x) P xs ys order (subst (λ (zs : List X). All P zs) (sym (map_same xs)) all))

pub in_order : (terms sorted : Terms) (n : ℕ) → AreWeights terms → IsPermutation terms sorted → IsNonDecreasingBy (λ t. t.0.var) sorted → n < 2 ^ 64 → IsNormal sorted n
in_order terms sorted n weights order up small = record {
  merged = record {
    positive = all_permuted (λ t. 0 < t.1) terms sorted order weights.positive;
    from_one = all_permuted (λ t. 0 < t.0.var) terms sorted order weights.from_one;
    rising = rising_from_distinct {X = Literal × ℕ} (λ t. t.0.var) sorted up
        (AllApart-IsPermutation {X = Literal × ℕ} (λ s t. s.0.var ≢ t.0.var) terms sorted order (AllApart-from_pairs {X = Literal × ℕ} (λ s t. s.0.var ≢ t.0.var) terms (λ x y other e. other (sym e)) weights.apart));
  };
  small = let same = sum_by-IsPermutation (λ (t : Literal × ℕ). t.1) terms sorted order in let few = weights.small in omega arith;
}

-- the terms in order may define the next variable
pub sum_of_order : (s : StateValue) (terms : Terms) (c : ConstraintValue) (var n : ℕ) → IsInOrder terms n c → AreWeights terms → var ≡ s.vars + 1 → 0 < n → n ≤ total terms → All (λ t. t.0.var ≤ s.vars) terms → IsSumOf s c var n
sum_of_order s terms c var n order weights next some most variables =
    let same = sum_by-IsPermutation (λ (t : Literal × ℕ). t.1) terms c.terms order.order in
    let few = weights.small in
    record {
      next = next;
      normal = order.normal;
      degree = order.degree;
      some = some;
      most = omega arith;
      small = omega arith;
      variables = all_permuted (λ t. t.0.var ≤ s.vars) terms c.terms order.order variables;
    }

pub defined_next : (a b : Snapshot) (terms : Terms) (c : ConstraintValue) (o : SumOutput) (n : ℕ) → o.sum ≡ n → IsInOrder terms n c → ((s : StateValue) → IsReached a s → All (λ t. t.0.var ≤ s.vars) terms) → IsReady a → b.problem ≡ a.problem → IsDefinedBy a b c o → IsDefinedNext a b terms o
defined_next a b terms c o n sum order variables ready problem is =
    let values_same : (x : List Bool) → value x c.terms ≡ value x terms = λ x. sum_by-IsPermutation (term_value x) terms c.terms order.order in
    let fresh = is.fresh ready.state ready.reached in
    let all = replay_vars a.problem a.lines ready.state ready.reached in
    record {
      constraint = c;
      line = is.line;
      defines = (order.degree ∙ sym sum, values_same);
      fresh = is.fresh;
      variable = is.variable;
      defined = λ t after. record {
        sum = c;
        degree = order.degree ∙ sym sum;
        normal = order.normal;
        order = order.order;
        same = values_same;
        whole = sum_by-IsPermutation (λ (t : Literal × ℕ). t.1) terms c.terms order.order;
        below = all_permuted (λ t. t.0.var < o.lit.var) terms c.terms order.order (λ k d short. let w = variables ready.state ready.reached k d short in omega arith);
        above = let same : b.problem.vars ≡ a.problem.vars = ap (λ (p : ProblemValue). p.vars) problem in omega arith;
        positive = is.positive;
        named = is.named;
        lower = is.lower t after;
        upper = is.upper t after;
      };
    }
