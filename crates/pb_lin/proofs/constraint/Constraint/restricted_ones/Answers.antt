use Rattle.std.proofs.Common.{◌≡◌, ℕ, ◌-◌, ◌<◌, not, Bool, List, length, filter, count_by, sum_by, arith, ap, sym, subst, ◌∙◌, if◌then◌else◌}
use Rattle.std.specs.List.{AllPairs}
use Rattle.std.proofs.lemmas.List.{length-map}
use Rattle.std.proofs.lemmas.List.Kept.{AllPairs-filter}
use Rattle.std.proofs.lemmas.List.Sums.{length-filter, count_by-le-length}
use Rattle.scut_base.specs.Literal.{Literal}
use Rattle.pb_lin.specs.Constraint.{ConstraintValue, ones}
use Rattle.pb_lin.specs.Restriction.{is_set, is_among, met_value}
use Rattle.pb_lin.proofs.Ones.{total_ones, sum_ones, ones-filter, rising-literals}
use Rattle.pb_lin.proofs.constraint.Constraint.restricted_ones.Goals as goal

pub at_least-requires-clause-rising : goal.at_least-requires-clause-rising
at_least-requires-clause-rising c =
    let Rising : List Literal → Type 0 = AllPairs (λ l m. l.var < m.var) in
    subst Rising (sym c.in_ok-kept.ensures.kept)
    (AllPairs-filter (λ l m. l.var < m.var) (λ l. not (is_set c.args.truths.now l.var)) c.literals.result.now
    (subst Rising (sym c.literals.ensures.value) (rising-literals c.args.self.now.terms c.literals.ensures.normal.merged.rising)))

pub at_least-requires-clause-small : goal.at_least-requires-clause-small
at_least-requires-clause-small c =
    let p : Literal → Bool = λ l. not (is_set c.args.truths.now l.var) in
    let kept = ap length c.in_ok-kept.ensures.kept ∙ length-filter p c.literals.result.now in
    let fewer = count_by-le-length p c.literals.result.now in
    let long : length c.literals.result.now ≡ length c.args.self.now.terms = ap length c.literals.ensures.value ∙ length-map c.args.self.now.terms (λ t. t.0) in
    let sum = total_ones c.args.self.now.terms c.requires.ones in
    let small = c.degree.ensures.normal.small in
    omega (arith, c.degree.ensures.value)

pub returns : goal.returns
returns c =
    let terms = c.args.self.now.terms in
    let truths = c.args.truths.now in
    let kept : ones c.in_ok-kept.kept ≡ filter (λ (t : Literal × ℕ). not (is_set truths t.0.var)) terms
    = ap ones (c.in_ok-kept.ensures.kept ∙ ap (filter (λ (l : Literal). not (is_set truths l.var))) c.literals.ensures.value)
    ∙ ones-filter (λ l. not (is_set truths l.var)) terms c.requires.ones in
    let met : c.in_ok-kept.met ≡ sum_by (met_value truths) terms
    = c.in_ok-kept.ensures.met ∙ ap (count_by (is_among truths)) c.literals.ensures.value
    ∙ sum_ones (λ l n. if is_among truths l then n else 0) terms c.requires.ones in
    let degree : c.saturating_sub-degree.result ≡ c.args.self.now.degree - sum_by (met_value truths) terms = omega (arith, c.degree.ensures.value) in
    c.at_least.ensures
    ∙ ap (λ (ts : List (Literal × ℕ)). let r : ConstraintValue = record { terms = ts; degree = c.saturating_sub-degree.result } in r) kept
    ∙ ap (λ (n : ℕ). let r : ConstraintValue = record { terms = filter (λ (t : Literal × ℕ). not (is_set truths t.0.var)) terms; degree = n } in r) degree
