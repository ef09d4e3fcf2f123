-- Outputs of a node's children may imply an output of the node.
use Rattle.std.proofs.Common.{◌≡◌, ◌≢◌, ℕ, zero, suc, ◌+◌, ◌<◌, ◌≤◌, Bool, List, [], ◌∷◌, ◌++◌, get_or, length, sym, subst, arith}
use Rattle.std.specs.List.{All, AllPairs}
use Rattle.std.proofs.lemmas.List.Elements.{All-nil, All-cons}
use Rattle.std.proofs.lemmas.List.Sums.{sum_by-cons, sum_by-append}
use Rattle.scut_base.specs.Literal.{Literal}
use Rattle.pb_lin.specs.Constraint.{IsVariable, term_value, total, value}
use Rattle.pb_lin.specs.Problem.{ProblemValue}
use Rattle.cutting_planes.proofs.Terms.{Terms}
use Rattle.proof_laws.specs.Earned.{IsLearnedId}
use Rattle.proof_laws.specs.State.{StateValue}
use Rattle.proof_laws.proofs.Ranges.{all_prefix, all_suffix}
use Rattle.proof_rules.specs.Recording.{Snapshot}
use Rattle.sum_outputs.specs.Totals.{AreWeights}
use Rattle.sum_outputs.specs.Adding.{HasLater, Continues}
use Rattle.sum_outputs.specs.Outputs.{CanImply, IsDefined, IsLiteralOf}
use Rattle.sum_outputs.specs.Joining.{Follows, IsOutputAt, AreOutputsAt, AreChildren, IsTarget}
use Rattle.sum_outputs.specs.declared.sum_output.SumOutput.{SumOutput}
use Rattle.sum_outputs.proofs.OutputsLater.{literal_then, variable_then, defined_then}

one_apart : (o : SumOutput) → AllPairs (λ p q. p.lit.var ≢ q.lit.var) (o ∷ [])
one_apart o i j d less short = absurd (omega arith)

two_apart : (o p : SumOutput) → o.lit.var ≢ p.lit.var → AllPairs (λ q r. q.lit.var ≢ r.lit.var) (o ∷ p ∷ [])
two_apart o p ne zero zero d less short = absurd (omega arith)
two_apart o p ne zero (suc zero) d less short = ne
two_apart o p ne zero (suc (suc j)) d less short = absurd (omega arith)
two_apart o p ne (suc i) j d less short = absurd (omega arith)

abbrev outside_no_terms : SumOutput → Type 0
outside_no_terms q = All {X = Literal × ℕ} (λ t. q.lit.var ≢ t.0.var) []

module _ (a : Snapshot) (s : StateValue) (first second : Terms) (firsts seconds : List SumOutput) (target : SumOutput) (are : AreChildren a s first second firsts seconds) (is : IsTarget a s (first ++ second) firsts seconds target) where
  abbrev node : Terms
  node = first ++ second

  values_both : (x : List Bool) → value x node ≡ value x first + value x second
  values_both x = sum_by-append (term_value x) first second

  total_both : total node ≡ total first + total second
  total_both = sum_by-append (λ (t : Literal × ℕ). t.1) first second

  first_variables : All (λ t. IsVariable s.vars t.0.var) first
  first_variables = all_prefix (λ t. IsVariable s.vars t.0.var) first second are.variables

  second_variables : All (λ t. IsVariable s.vars t.0.var) second
  second_variables = all_suffix (λ t. IsVariable s.vars t.0.var) first second are.variables

  -- one output implies the target, where its sum is as large
  one_can : (part weak : Terms) (o : SumOutput) → IsLiteralOf a s part o → target.sum ≤ o.sum → ((x : List Bool) → value x node ≡ value x part + value x weak) → total node ≡ total part + total weak → All (λ t. IsVariable s.vars t.0.var) weak →
      o.lit.var ≢ target.lit.var → All (λ t. o.lit.var ≢ t.0.var) weak → All (λ t. target.lit.var ≢ t.0.var) weak → CanImply a s (o ∷ []) weak target
  one_can part weak o literal reach same whole variables other outside target_outside = record {
    node = node;
    lists = part ∷ [];
    defined = is.defined;
    some = is.some;
    variable = is.variable;
    known = (literal, tt);
    same = λ x. let one = sum_by-cons (value x) part [] in let both = same x in omega arith;
    whole = let one = sum_by-cons total part [] in omega arith;
    small = are.weights.small;
    reaches = let one = sum_by-cons (λ (q : SumOutput). q.sum) o [] in omega arith;
    apart = one_apart o;
    other = All-cons (λ q. q.lit.var ≢ target.lit.var) o [] other (All-nil (λ q. q.lit.var ≢ target.lit.var));
    variables = variables;
    outside = All-cons (λ q. All (λ t. q.lit.var ≢ t.0.var) weak) o [] outside (All-nil (λ q. All (λ t. q.lit.var ≢ t.0.var) weak));
    target_outside = target_outside;
  }

  pub first_can : (i : ℕ) (d : SumOutput) → i < length firsts → target.sum ≤ (get_or firsts i d).sum → CanImply a s (get_or firsts i d ∷ []) second target
  first_can i d short reach = one_can first second (get_or firsts i d) (are.of_first.each i d short).literal reach values_both total_both second_variables (is.from_firsts i d short) (are.first_outside i d short)
      (all_suffix (λ t. target.lit.var ≢ t.0.var) first second is.outside)

  pub second_can : (j : ℕ) (e : SumOutput) → j < length seconds → target.sum ≤ (get_or seconds j e).sum → CanImply a s (get_or seconds j e ∷ []) first target
  second_can j e short reach = one_can second first (get_or seconds j e) (are.of_second.each j e short).literal reach
      (λ x. let both = values_both x in omega arith) (let both = total_both in omega arith) first_variables (is.from_seconds j e short) (are.second_outside j e short)
      (all_prefix (λ t. target.lit.var ≢ t.0.var) first second is.outside)

  abbrev outside_none : SumOutput → Type 0
  outside_none q = All {X = Literal × ℕ} (λ t. q.lit.var ≢ t.0.var) []

  pub pair_can : (i : ℕ) (d : SumOutput) (j : ℕ) (e : SumOutput) → i < length firsts → j < length seconds → target.sum ≤ (get_or firsts i d).sum + (get_or seconds j e).sum → CanImply a s (get_or firsts i d ∷ get_or seconds j e ∷ []) [] target
  pair_can i d j e short short' reach =
      let o = get_or firsts i d in
      let p = get_or seconds j e in
      record {
        node = node;
        lists = first ∷ second ∷ [];
        defined = is.defined;
        some = is.some;
        variable = is.variable;
        known = ((are.of_first.each i d short).literal, ((are.of_second.each j e short').literal, tt));
        same = λ x.
            let one = sum_by-cons (value x) first (second ∷ []) in
            let two = sum_by-cons (value x) second [] in
            let both = values_both x in omega arith;
        whole = let one = sum_by-cons total first (second ∷ []) in let two = sum_by-cons total second [] in let both = total_both in omega arith;
        small = are.weights.small;
        reaches = let one = sum_by-cons (λ (q : SumOutput). q.sum) o (p ∷ []) in let two = sum_by-cons (λ (q : SumOutput). q.sum) p [] in omega arith;
        apart = two_apart o p (are.apart i d short j e short');
        other = All-cons (λ q. q.lit.var ≢ target.lit.var) o (p ∷ []) (is.from_firsts i d short) (All-cons (λ q. q.lit.var ≢ target.lit.var) p [] (is.from_seconds j e short') (All-nil (λ q. q.lit.var ≢ target.lit.var)));
        variables = All-nil (λ t. IsVariable s.vars t.0.var);
        outside = All-cons outside_none o (p ∷ []) (All-nil {X = Literal × ℕ} (λ t. o.lit.var ≢ t.0.var)) (All-cons outside_none p [] (All-nil {X = Literal × ℕ} (λ t. p.lit.var ≢ t.0.var)) (All-nil outside_none));
        target_outside = All-nil (λ t. target.lit.var ≢ t.0.var);
      }

-- ---- later

module _ (a b : Snapshot) (on : Continues a b) (s : StateValue) (has : HasLater a b s) where
  pub follows_then : (terms : Terms) (o : SumOutput) → Follows a s terms o → Follows b has.state terms o
  follows_then terms o follows x hold reach = follows x (λ id c kept.
      let own = has.later.own id c (kept.0, kept.2) in
      hold id c (own.0, kept.1, subst (λ (p : ProblemValue). IsLearnedId p b.lines id → ⊥) (sym on.problem) own.1)) reach

  pub output_then : (terms : Terms) (o : SumOutput) → IsOutputAt a s terms o → IsOutputAt b has.state terms o
  output_then terms o is = record { literal = literal_then a b on s has terms o is.literal; attainable = is.attainable; gap = is.gap; follows = follows_then terms o is.follows }

  pub outputs_then : (terms : Terms) (os : List SumOutput) → AreOutputsAt a s terms os → AreOutputsAt b has.state terms os
  outputs_then terms os are = record { each = λ i d short. output_then terms (get_or os i d) (are.each i d short); rising = are.rising }

  pub children_then : (first second : Terms) (firsts seconds : List SumOutput) → AreChildren a s first second firsts seconds → AreChildren b has.state first second firsts seconds
  children_then first second firsts seconds are = record {
    weights = are.weights;
    variables = λ k d short. variable_then a b on s has (get_or (first ++ second) k d).0.var (are.variables k d short);
    of_first = outputs_then first firsts are.of_first;
    of_second = outputs_then second seconds are.of_second;
    apart = are.apart;
    first_outside = are.first_outside;
    second_outside = are.second_outside;
  }

  pub target_then : (terms : Terms) (firsts seconds : List SumOutput) (target : SumOutput) → IsTarget a s terms firsts seconds target → IsTarget b has.state terms firsts seconds target
  target_then terms firsts seconds target is = record {
    defined = defined_then a b on s has terms target is.defined;
    some = is.some;
    variable = variable_then a b on s has target.lit.var is.variable;
    outside = is.outside;
    from_firsts = is.from_firsts;
    from_seconds = is.from_seconds;
  }

-- ---- a new target

module _ (a : Snapshot) (s : StateValue) (first second : Terms) (firsts seconds : List SumOutput) (are : AreChildren a s first second firsts seconds) (b : Snapshot) (t : StateValue) (target : SumOutput) (some : 0 < target.sum) (fresh : target.lit.var ≡ s.vars + 1) (variable : IsVariable t.vars target.lit.var) (defined : IsDefined b t (first ++ second) target) where
  -- a literal that was defined is apart from all that was there
  pub new_target : IsTarget b t (first ++ second) firsts seconds target
  new_target = record {
    defined = defined;
    some = some;
    variable = variable;
    outside = λ k d short. let w = are.variables k d short in λ e. omega arith;
    from_firsts = λ k d short. let w = (are.of_first.each k d short).literal.variable in λ e. omega arith;
    from_seconds = λ k d short. let w = (are.of_second.each k d short).literal.variable in λ e. omega arith;
  }

-- a greater output of the same node implies the target
pub tie_can : (a : Snapshot) (s : StateValue) (terms : Terms) (o target : SumOutput) → AreWeights terms → IsDefined a s terms target → 0 < target.sum → IsVariable s.vars target.lit.var → IsLiteralOf a s terms o → target.sum ≤ o.sum → o.lit.var ≢ target.lit.var → CanImply a s (o ∷ []) [] target
tie_can a s terms o target weights defined some variable literal reach other = record {
  node = terms;
  lists = terms ∷ [];
  defined = defined;
  some = some;
  variable = variable;
  known = (literal, tt);
  same = λ x. let one = sum_by-cons (value x) terms [] in omega arith;
  whole = let one = sum_by-cons total terms [] in omega arith;
  small = weights.small;
  reaches = let one = sum_by-cons (λ (q : SumOutput). q.sum) o [] in omega arith;
  apart = one_apart o;
  other = All-cons (λ q. q.lit.var ≢ target.lit.var) o [] other (All-nil (λ q. q.lit.var ≢ target.lit.var));
  variables = All-nil (λ t. IsVariable s.vars t.0.var);
  outside = All-cons outside_no_terms o [] (All-nil {X = Literal × ℕ} (λ t. o.lit.var ≢ t.0.var)) (All-nil outside_no_terms);
  target_outside = All-nil (λ t. target.lit.var ≢ t.0.var);
}
