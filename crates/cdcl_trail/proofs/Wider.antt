-- Trails of a search that get variables.
use Rattle.std.proofs.Common.{◌≡◌, ℕ, ◌+◌, ◌-◌, ◌<◌, ◌≤◌, ◌++◌, Bool, not, Option, Some, None, List, [], ◌∷◌, length, take, get_or, replicate, All, refl, arith, ap, sym, ◌∙◌, subst, ⊎_elim, length-set}
use Rattle.std.specs.Prelude.{pos, ◌-ℤ◌, int_lt, ◌&&◌}
use Rattle.std.specs.Option.{is_none}
use Rattle.std.specs.List.{fold}
use Rattle.std.proofs.lemmas.Bool.{cases_lt}
use Rattle.std.proofs.lemmas.List.{length-replicate, get_or-replicate, get_or_past, get_or_append_left, get_or-append_right, set-append_left, replicate-append-replicate}
use Rattle.std.proofs.lemmas.List.Elements.{All-head, All-tail}
use Rattle.scut_base.specs.Literal.{Literal}
use Rattle.scut_base.specs.Assignment.{partial_truth}
use Rattle.scut_base.proofs.Lists.{sum_by_same}
use Rattle.pb_lin.specs.Constraint.{ConstraintValue, possible_value, slack, unless_false}
use Rattle.pb_lin.specs.LineMap.{LineMap}
use Rattle.clause_prop.specs.Steps.{TrailValue, AreSteps, assigned, partial, cut, with_true}
use Rattle.clause_prop.specs.Propagating.{Forces}
use Rattle.clause_prop.specs.declared.step.Step.{Step}
use Rattle.clause_prop.proofs.Assigned.{Values, index}
use Rattle.cdcl_trail.specs.SearchTrail.{AreLines, IsSearchTrail, IsForcedAt, IsUndecided}
use Rattle.cdcl_trail.proofs.Stores.{never_decided}
use Rattle.cdcl_trail.proofs.Truths.{truth_by, steps_front}

-- ---- open places at the end

open_place : (m i : ℕ) → get_or (replicate {A = Option Bool} m None) i None ≡ None
open_place m i = ⊎_elim
    (λ (less : i < m). get_or-replicate {A = Option Bool} m i None None less)
    (λ (past : m ≤ i). get_or_past (replicate m None) i None (omega (arith, past, length-replicate {A = Option Bool} m None)))
    (cases_lt i m)

value_wider : (p : Values) (m i : ℕ) → get_or (p ++ replicate m None) i None ≡ get_or p i None
value_wider p m i = ⊎_elim
    (λ (less : i < length p). get_or_append_left p (replicate m None) None i less)
    (λ (past : length p ≤ i). get_or-append_right p (replicate m None) (length p) i None refl past ∙ open_place m (i - length p) ∙ sym (get_or_past p i None past))
    (cases_lt i (length p))

pub truth_wider : (p : Values) (m : ℕ) (l : Literal) → partial_truth (p ++ replicate m None) l ≡ partial_truth p l
truth_wider p m l = ap (truth_by l) (value_wider p m (l.var - 1))

slack_wider : (p : Values) (m : ℕ) (c : ConstraintValue) → slack (p ++ replicate m None) c ≡ slack p c
slack_wider p m c = ap (λ (n : ℕ). pos n -ℤ pos c.degree)
    (sum_by_same (possible_value (p ++ replicate m None)) (possible_value p) (λ (t : Literal × ℕ). ap (λ (o : Option Bool). unless_false o t.1) (truth_wider p m t.0)) c.terms)

forces_wider : (p : Values) (m : ℕ) (c : ConstraintValue) (l : Literal) → Forces p c l → Forces (p ++ replicate m None) c l
forces_wider p m c l forces = record {
  term = forces.term;
  among = forces.among;
  literal = forces.literal;
  forced = ap (λ (o : Option Bool). is_none o && int_lt (slack (p ++ replicate m None) c) (pos forces.term.1)) (truth_wider p m forces.term.0)
      ∙ ap (λ z. is_none (partial_truth p forces.term.0) && int_lt z (pos forces.term.1)) (slack_wider p m c) ∙ forces.forced;
}

-- ---- steps over more variables

-- steps in the first part change nothing in the second
from_wider : (p q : Values) (steps : List Step) → All (λ s. index s < length p) steps → fold with_true (p ++ q) steps ≡ fold with_true p steps ++ q
from_wider p q [] within = refl
from_wider p q (s ∷ steps) within =
    let own : index s < length p = All-head (λ (r : Step). index r < length p) s steps within in
    ap (λ (v : Values). fold with_true v steps) (set-append_left p q (index s) (Some (not s.lit.neg)) own)
    ∙ from_wider (with_true p s) q steps (λ k d short. let one = All-tail (λ (r : Step). index r < length p) s steps within k d short in omega (arith, one, length-set p (index s) (Some (not s.lit.neg))))

pub assigned-wider : (n m : ℕ) (steps : List Step) → AreSteps n steps → assigned (n + m) steps ≡ assigned n steps ++ replicate m None
assigned-wider n m steps are =
    ap (λ (v : Values). fold with_true v steps) (sym (replicate-append-replicate {A = Option Bool} n m None))
    ∙ from_wider (replicate n None) (replicate m None) steps (λ k d short. let one = are.within k d short in omega (arith, one.0, one.1, length-replicate {A = Option Bool} n None))

-- ---- the law

forced_wider : (store : LineMap) (t : TrailValue) (m p : ℕ) (s : Step) → AreSteps t.vars t.steps → IsForcedAt store t p s → IsForcedAt store (record { vars = t.vars + m; steps = t.steps }) p s
forced_wider store t m p s are is = record {
  line = is.line;
  there = is.there;
  forces = subst (λ (v : Values). Forces v is.line s.lit) (sym (assigned-wider t.vars m (take p t.steps) (steps_front t.vars t.steps p are))) (forces_wider (partial (cut t p)) m is.line s.lit is.forces);
  level = is.level;
}

wider : (store : LineMap) (t : TrailValue) (m : ℕ) → IsUndecided t → IsSearchTrail store t → IsSearchTrail store (record { vars = t.vars + m; steps = t.steps })
wider store t m undecided search = record {
  steps = record { within = λ k d short. let one = search.steps.within k d short in (one.0, omega (arith, one.1)); apart = search.steps.apart };
  decided = λ p s at none. absurd (never_decided t p s undecided at none);
  forced = λ p s at some_reason. forced_wider store t m p s search.steps (search.forced p s at some_reason);
  rising = search.rising;
  low = search.low;
}

pub more_variables_law : (store : LineMap) (t : TrailValue) (n : ℕ) → AreLines t.vars store → t.vars ≤ n → IsUndecided t → IsSearchTrail store t → IsSearchTrail store (record { vars = n; steps = t.steps })
more_variables_law store t n lines more undecided search =
    subst (λ (k : ℕ). IsSearchTrail store (record { vars = k; steps = t.steps })) (up t.vars n more) (wider store t (n - t.vars) undecided search)
  where
    up : (a b : ℕ) → a ≤ b → a + (b - a) ≡ b
    up a b h = omega (arith, h)
