-- Jumps back: where they end, and the clause that asks for one.
use Rattle.std.proofs.Common.{◌≡◌, ◌≢◌, ◌⊎◌, ℕ, ◌<◌, ◌≤◌, false, Some, None, List, length, get_or, arith, ap, sym, inl, inr, ⊎_elim}
use Rattle.std.proofs.lemmas.Bool.{cases_eq, cases_lt}
use Rattle.std.proofs.lemmas.List.Elements.{All-map}
use Rattle.std.proofs.lemmas.Option.{slice_get_within, slice_get_cases}
use Rattle.scut_base.specs.Literal.{Literal}
use Rattle.scut_base.specs.Assignment.{partial_truth}
use Rattle.scut_base.proofs.Lists.{Contains-map}
use Rattle.pb_lin.specs.LineMap.{LineMap}
use Rattle.proof_laws.specs.Steps.{clause}
use Rattle.proof_laws.specs.Earned.{IsUnitUnder}
use Rattle.clause_prop.specs.Steps.{TrailValue, AreSteps, partial, cut}
use Rattle.clause_prop.specs.Propagating.{IsClosedFor}
use Rattle.clause_prop.specs.declared.step.Step.{Step}
use Rattle.cdcl_trail.specs.SearchTrail.{IsStepAt, IsSearchTrail, IsUpTo}
use Rattle.cdcl_trail.specs.Learning.{IsFalseBy, IsAsserting}
use Rattle.cdcl_trail.proofs.Truths.{false_before, open_before}
use Rattle.cdcl_trail.proofs.Clauses.{IsLeft}

-- a step above the level goes
pub gone : (t : TrailValue) (level keep q : ℕ) (s : Step) → IsUpTo t level keep → IsStepAt t q s → level < s.level → keep ≤ q
gone t level keep q s up_to at above = ⊎_elim
    (λ (before : q < keep). absurd (let low = up_to.low q s before at in omega (arith, low, above)))
    (λ (past : keep ≤ q). past)
    (cases_lt q keep)

-- and no other step does
pub stays : (t : TrailValue) (level keep q : ℕ) (s : Step) → IsUpTo t level keep → IsStepAt t q s → s.level ≤ level → q < keep
stays t level keep q s up_to at low = ⊎_elim
    (λ (before : q < keep). before)
    (λ (past : keep ≤ q). absurd (let above = up_to.high q s past at in omega (arith, above, low)))
    (cases_lt q keep)

-- the step of the literal that will be forced goes
pub top_gone : (t : TrailValue) (top level keep : ℕ) (lits : List Literal) (l : Literal) → (asserting : IsAsserting t top level lits l) → IsUpTo t level keep → keep ≤ asserting.at_top.place
top_gone t top level keep lits l asserting up_to =
    let f = asserting.at_top in
    gone t level keep f.place f.step up_to f.there (omega (arith, f.has, asserting.below))

pub shorter_law : (t : TrailValue) (top level keep : ℕ) (lits : List Literal) (l : Literal) → IsAsserting t top level lits l → IsUpTo t level keep → keep < length t.steps
shorter_law t top level keep lits l asserting up_to =
    let f = asserting.at_top in
    let past = top_gone t top level keep lits l asserting up_to in
    let within = slice_get_within t.steps f.place f.step f.there in
    omega (arith, past, within)

-- the first step that goes is a decision
first_gone : (store : LineMap) (t : TrailValue) (level keep : ℕ) (s : Step) → IsSearchTrail store t → IsUpTo t level keep → IsStepAt t keep s → s.reason ≢ 0 → ⊥
first_gone store t level keep s search up_to at some_reason =
    let above = up_to.high keep s (omega arith) at in
    elim ((search.forced keep s at some_reason).level) [
      | inl bottom ↦ omega (arith, above, bottom)
      | inr b ↦ (let low = up_to.low b.0 b.1 b.2 b.3 in omega (arith, low, above, b.4))
    ]

pub closed_law : (store : LineMap) (t : TrailValue) (level keep : ℕ) → IsSearchTrail store t → IsUpTo t level keep → keep < length t.steps → IsClosedFor store (cut t keep)
closed_law store t level keep search up_to shorter = elim ((slice_get_cases t.steps keep).1) [
  | inl found ↦ ⊎_elim
      (λ (none : found.0.reason ≡ 0). (search.decided keep found.0 found.2 none).closed)
      (λ (some_reason : found.0.reason ≢ 0). absurd (first_gone store t level keep found.0 search up_to found.2 some_reason))
      (cases_eq found.0.reason 0)
  | inr past ↦ absurd (omega (arith, past.0, shorter))
]

-- a literal is open before the place of its step
pub open_at : (t : TrailValue) (p : ℕ) (P : Step → Type 0) (l : Literal) → AreSteps t.vars t.steps → (f : IsFalseBy t P l) → p ≤ f.place → partial_truth (partial (cut t p)) l ≡ None
open_at t p P l are f past = open_before t p f.place f.step l are f.there past (ap (λ (m : Literal). m.var) (sym f.is))

-- after the jump the clause has one open literal, and all others are false
pub left_after : (t : TrailValue) (top level keep : ℕ) (lits : List Literal) (l : Literal) → AreSteps t.vars t.steps → IsAsserting t top level lits l → IsUpTo t level keep → IsLeft (partial (cut t keep)) lits l
left_after t top level keep lits l are asserting up_to = record {
  rising = asserting.rising;
  among = asserting.among;
  is_open = open_at t keep (λ s. s.level ≡ top) l are asserting.at_top (top_gone t top level keep lits l asserting up_to);
  others = λ k d short. elim (asserting.others k d short) [
    | inl same ↦ inl same
    | inr f ↦ inr (false_before t keep f.place f.step (get_or lits k d) are f.there (stays t level keep f.place f.step up_to f.there f.has) f.is)
  ];
}

pub unit_law : (store : LineMap) (t : TrailValue) (top level keep : ℕ) (lits : List Literal) (l : Literal) → IsSearchTrail store t → IsAsserting t top level lits l → IsUpTo t level keep → IsUnitUnder (partial (cut t keep)) (clause lits)
unit_law store t top level keep lits l search asserting up_to =
    let left = left_after t top level keep lits l search.steps asserting up_to in (
      (l, 1),
      Contains-map (λ x. (x, 1)) lits l left.among,
      left.is_open,
      All-map (λ (u : Literal × ℕ). (u.0 ≡ l) ⊎ (partial_truth (partial (cut t keep)) u.0 ≡ Some false)) (λ x. (x, 1)) lits left.others,
    )
