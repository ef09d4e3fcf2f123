use Rattle.std.proofs.Common.{◌≡◌, ℕ, true, nat_eq, List, [], ◌∷◌, length, Some, refl, sym, ap, ap₂, ◌∙◌, subst, arith}
use Rattle.std.proofs.lemmas.Bool.{eqb-true}
use Rattle.std.specs.FinMap.{get}
use Rattle.scut_base.specs.Literal.{Literal}
use Rattle.pb_lin.specs.Constraint.{ConstraintValue}
use Rattle.pb_lin.specs.LineMap.{LineMap}
use Rattle.proof_laws.specs.State.{StateValue}
use Rattle.proof_laws.proofs.Replays.{replay_once}
use Rattle.relaxations.proofs.ending.is_end.Goals as goal

no_terms : (terms : List (Literal × ℕ)) → length terms ≡ 0 → terms ≡ []
no_terms [] none = refl
no_terms (t ∷ terms) none = absurd (omega arith)

abbrev make : List (Literal × ℕ) → ℕ → ConstraintValue
make terms degree = record { terms = terms; degree = degree }

abbrev end : ConstraintValue
end = record { terms = []; degree = 1 }

is_empty : (c : ConstraintValue) → c.terms ≡ [] → c.degree ≡ 1 → c ≡ end
is_empty c none one = ap₂ make none one

is_one : (n : ℕ) → nat_eq n 1 ≡ true → n ≡ 1
is_one n is = eqb-true n 1 is

pub returns-then-len-eq0 : goal.returns-then-len-eq0
returns-then-len-eq0 g c one s reached =
    let R = g.R.Recorder in
    let a = R.seen c.args.rec.now in
    let state = c.state.result.now in
    let line = c.in-Some.line.now in
    let same : state ≡ s = replay_once a.problem a.lines state s c.state.ensures.replays reached in
    let here : get state.live c.args.id ≡ Some line =
    subst (λ (m : LineMap). get m c.args.id ≡ Some line) c.live.ensures c.in-Some.ensures in
    let none : line.terms ≡ [] = no_terms line.terms (sym c.len.ensures.value ∙ c.if-len-eq0.true) in
    let degree : line.degree ≡ 1 = sym c.degree.ensures.value ∙ is_one c.degree.result one in
    let same_line : line ≡ end = is_empty line none degree in
    subst (λ (t : StateValue). get t.live c.args.id ≡ Some end) same
    (here ∙ ap (λ (d : ConstraintValue). Some d) same_line)
