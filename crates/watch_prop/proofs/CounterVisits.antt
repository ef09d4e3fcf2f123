-- What stays of a counted line while lines force steps.
use Rattle.std.proofs.Common.{◌≡◌, ℕ, ◌≤◌, ◌&&◌, Bool, true, false, Option, Some, None, List, [], ◌∷◌, ◌++◌, refl, arith, ap, sym, subst, ⊎_elim, inl, inr, append_assoc}
use Rattle.std.specs.Option.{is_none}
use Rattle.std.specs.Prelude.{int_lt, pos}
use Rattle.scut_base.specs.Literal.{Literal}
use Rattle.scut_base.specs.Assignment.{partial_truth}
use Rattle.pb_lin.specs.Constraint.{ConstraintValue, slack}
use Rattle.pb_lin.specs.LineMap.{LineMap}
use Rattle.clause_prop.specs.Steps.{TrailValue, partial, with_true, assigned}
use Rattle.clause_prop.specs.Propagating.{AreForced, Extends, Forces, IsForcedStep}
use Rattle.watch_prop.specs.Counting.{AreTold, IsGone, IsOver}
use Rattle.clause_prop.specs.declared.step.Step.{Step}
use Rattle.watch_prop.specs.declared.counter_lines.CounterLine.{CounterLine}
use Rattle.clause_prop.proofs.Assigned.{Values, assigned-push}
use Rattle.watch_prop.proofs.CounterForcing.{sum_under, sum_falls, told_with}

append_none : {X : Type 0} (xs : List X) → xs ++ [] ≡ xs
append_none [] = refl
append_none {X} (x ∷ xs) = ap (λ (ys : List X). x ∷ ys) (append_none xs)

and_true_left : (a b : Bool) → (a && b) ≡ true → a ≡ true
and_true_left true b e = refl
and_true_left false b e = absurd cc

none_from_test : {X : Type 0} (o : Option X) → is_none o ≡ true → o ≡ None
none_from_test None e = refl
none_from_test (Some x) e = absurd cc

-- a forced step is of an open literal
forced_open : (store : LineMap) (n : ℕ) (before : List Step) (s : Step) → IsForcedStep store n before s → partial_truth (assigned n before) s.lit ≡ None
forced_open store n before s step =
    let f : Forces (assigned n before) step.line s.lit = step.forces in
    subst (λ (l : Literal). partial_truth (assigned n before) l ≡ None) f.literal
    (none_from_test (partial_truth (assigned n before) f.term.0) (and_true_left (is_none (partial_truth (assigned n before) f.term.0)) (int_lt (slack (assigned n before) step.line) (pos f.term.1)) f.forced))

forced_keeps : (store : LineMap) (n : ℕ) (Q : Values → Type 0) → ((p : Values) (s : Step) → partial_truth p s.lit ≡ None → Q p → Q (with_true p s)) → (before more : List Step) → AreForced store n before more → Q (assigned n before) → Q (assigned n (before ++ more))
forced_keeps store n Q keeps before [] forced holds = subst (λ (ss : List Step). Q (assigned n ss)) (sym (append_none before)) holds
forced_keeps store n Q keeps before (s ∷ more) forced holds =
    let first : IsForcedStep store n before s = subst (λ (ss : List Step). IsForcedStep store n ss s) (append_none before) (forced [] s more refl) in
    let one : Q (assigned n (before ++ s ∷ [])) = subst Q (sym (assigned-push n before s)) (keeps (assigned n before) s (forced_open store n before s first) holds) in
    subst (λ (ss : List Step). Q (assigned n ss)) (append_assoc before (s ∷ []) more)
    (forced_keeps store n Q keeps (before ++ s ∷ []) more
    (λ f r after e. subst (λ (ss : List Step). IsForcedStep store n ss r) (sym (append_assoc before (s ∷ []) f)) (forced (s ∷ f) r after (ap (λ (ss : List Step). s ∷ ss) e)))
    one)

-- what a step of an open literal keeps, forced steps keep
pub extended_keeps : (store : LineMap) (t u : TrailValue) (Q : Values → Type 0) → ((p : Values) (s : Step) → partial_truth p s.lit ≡ None → Q p → Q (with_true p s)) → Extends store t u → Q (partial t) → Q (partial u)
extended_keeps store t u Q keeps more holds =
    subst (λ (ss : List Step). Q (assigned u.vars ss)) (sym more.is)
    (subst (λ (n : ℕ). Q (assigned n (t.steps ++ more.more))) (sym more.vars) (forced_keeps store t.vars Q keeps t.steps more.more more.forced holds))

pub over_extended : (store : LineMap) (t u : TrailValue) (kept : CounterLine) → Extends store t u → IsOver store t kept → IsOver store u kept
over_extended store t u kept more over = λ live c there.
    extended_keeps store t u (λ p. sum_under p c.terms ≤ kept.possible) (λ p s none le. let falls = sum_falls p s c.terms none in omega (arith, falls, le)) more (over live c there)

pub told_extended : (store : LineMap) (t u : TrailValue) (c : ConstraintValue) (sum : ℕ) → Extends store t u → AreTold (partial t) c sum → AreTold (partial u) c sum
told_extended store t u c sum more told =
    extended_keeps store t u (λ p. AreTold p c sum) (λ p s none was. λ k d short exceeds. told_with p s _ (was k d short exceeds)) more told

pub gone_extended : (store : LineMap) (t u : TrailValue) (kept : CounterLine) → Extends store t u → IsGone store t kept → IsGone store u kept
gone_extended store t u kept more gone = λ live c there. ⊎_elim
    (λ (high : kept.limit ≤ kept.possible). inl high)
    (λ (low : (c.degree ≤ kept.possible) × AreTold (partial t) c kept.possible). inr (low.0, told_extended store t u c kept.possible more low.1))
    (gone live c there)
