-- One line's terms, visited one after another: each open literal that is forced gets a step.
use Rattle.std.proofs.Common.{◌≡◌, ℕ, List, ◌+◌, ◌<◌, ◌≤◌, ◌&&◌, Bool, true, false, Some, None, length, get_or, refl, arith, ap, sym, ◌∙◌, subst}
use Rattle.std.specs.Prelude.{pos, int_lt, ◌≤ℤ◌, slice_get, Contains}
use Rattle.std.specs.Option.{is_none}
use Rattle.std.specs.FinMap.{get}
use Rattle.std.proofs.lemmas.Int.{ints}
use Rattle.std.proofs.lemmas.List.Elements.{Contains-get_or}
use Rattle.std.proofs.lemmas.Option.{get_or_from_slice_get, slice_get_within, slice_get-get_or}
use Rattle.std.proofs.lemmas.List.{get_or-map, length-map}
use Rattle.scut_base.specs.Literal.{Literal}
use Rattle.scut_base.specs.Assignment.{partial_truth}
use Rattle.pb_lin.specs.Constraint.{ConstraintValue, IsMerged, AreOnes, literals, slack}
use Rattle.pb_lin.specs.LineMap.{LineMap}
use Rattle.pb_lin.specs.Propagation.{is_forced, IsClosedUnder}
use Rattle.clause_prop.specs.Steps.{TrailValue, partial, with_step, with_true, last_level}
use Rattle.clause_prop.specs.Propagating.{Extends}
use Rattle.clause_prop.specs.declared.step.Step.{Step}
use Rattle.clause_prop.proofs.Assigned.{Values, length-assigned, assigned-push}
use Rattle.clause_prop.proofs.Extensions.{extends_none, extends_forced}
use Rattle.clause_prop.proofs.Forcing.{AreUnforced, slack_kept, unforced_pushed, unforced_more}

-- The first terms were visited: the line forced the steps that the trail got, its slack is still that of the first trail, and it forces none of these terms.
pub record IsVisited (line : ConstraintValue) (id s : ℕ) (old new : TrailValue) (at : ℕ) : Type 0 where
  pub vars : new.vars ≡ old.vars
  pub same : slack (partial new) line ≡ pos s
  pub unforced : AreUnforced (partial new) line at
  pub extends : (store : LineMap) → get store id ≡ Some line → Extends store old new

pub visited_none : (line : ConstraintValue) (id s : ℕ) (t : TrailValue) → slack (partial t) line ≡ pos s → IsVisited line id s t t 0
visited_none line id s t is = record {
  vars = refl;
  same = is;
  unforced = λ k d less there. absurd (omega (arith, less));
  extends = λ store there. extends_none store t;
}

-- a test of a term is that of the definition
pub test_of : (line : ConstraintValue) (id s : ℕ) (old new : TrailValue) (at : ℕ) (t : Literal × ℕ) (b : Bool) → IsVisited line id s old new at → b ≡ (is_none (partial_truth (partial new) t.0) && int_lt (pos s) (pos t.1)) → b ≡ is_forced (partial new) line t
test_of line id s old new at t b visited test = test ∙ ap (λ z. is_none (partial_truth (partial new) t.0) && int_lt z (pos t.1)) (sym visited.same)

-- a term that isn't forced
pub visited_same : (line : ConstraintValue) (id s : ℕ) (old new : TrailValue) (at : ℕ) (t : Literal × ℕ) → IsVisited line id s old new at → slice_get line.terms at ≡ Some t → is_forced (partial new) line t ≡ false → IsVisited line id s old new (at + 1)
visited_same line id s old new at t visited found none = record {
  vars = visited.vars;
  same = visited.same;
  unforced = unforced_more (partial new) line at t (slice_get_within line.terms at t found) (get_or_from_slice_get line.terms at t t found) none visited.unforced;
  extends = visited.extends;
}

-- a term that is forced gets a step
pub visited_pushed : (line : ConstraintValue) (id s : ℕ) (old new : TrailValue) (at : ℕ) (t : Literal × ℕ) → IsVisited line id s old new at → IsMerged line.terms → slice_get line.terms at ≡ Some t → t.0.var ≤ new.vars
    → partial_truth (partial new) t.0 ≡ None → is_forced (partial new) line t ≡ true → IsVisited line id s old (with_step new (record { lit = t.0; level = last_level new.steps; reason = id })) (at + 1)
visited_pushed line id s old new at t visited merged found within none forced = record {
  vars = visited.vars;
  same = ap (λ (p : Values). slack p line) push ∙ slack_kept (partial new) line at t step merged here is refl inside none ∙ visited.same;
  unforced = subst (λ (p : Values). AreUnforced p line (at + 1)) (sym push) (unforced_pushed (partial new) line at t step merged here is refl inside none visited.unforced);
  extends = λ store there. extends_forced store old new line id t (visited.extends store there) there contains forced;
}
  where
    step : Step
    step = record { lit = t.0; level = last_level new.steps; reason = id }

    push : partial (with_step new step) ≡ with_true (partial new) step
    push = assigned-push new.vars new.steps step

    here : at < length line.terms
    here = slice_get_within line.terms at t found

    is : get_or line.terms at t ≡ t
    is = get_or_from_slice_get line.terms at t t found

    inside : t.0.var ≤ length (partial new)
    inside = omega (arith, within, length-assigned new.vars new.steps)

    contains : Contains line.terms t
    contains = subst (Contains line.terms) is (Contains-get_or line.terms at t here)

-- all terms
pub visited_whole : (line : ConstraintValue) (id s : ℕ) (old new : TrailValue) (at : ℕ) → IsVisited line id s old new at → length line.terms ≤ at → IsClosedUnder (partial new) line
visited_whole line id s old new at visited past = record {
  possible = subst (λ z. pos 0 ≤ℤ z) (sym visited.same) (above s);
  unforced = λ k d short. visited.unforced k d (omega (arith, past, short)) short;
}
  where
    above : (n : ℕ) → pos 0 ≤ℤ pos n
    above n = grind (arith, ints)

-- ---- lines whose coefficients are all 1

-- the term of a literal that is read from the literals
pub term_at : (terms : List (Literal × ℕ)) (lits : List Literal) (i : ℕ) (l : Literal) → AreOnes terms → lits ≡ literals terms → i < length lits → l ≡ get_or lits i l → slice_get terms i ≡ Some (l, 1)
term_at terms lits i l are_ones same short is =
    let within : i < length terms = omega (arith, short, ap length same, length-map terms (λ t. t.0)) in
    let own : l ≡ (get_or terms i (l, 1)).0 = is ∙ ap (λ (ls : List Literal). get_or ls i l) same ∙ get_or-map (λ t. t.0) terms i (l, 1) l within in
    let one : (get_or terms i (l, 1)).1 ≡ 1 = are_ones i (l, 1) within in
    slice_get-get_or terms i (l, 1) within
    ∙ ap (λ (n : ℕ). Some ((get_or terms i (l, 1)).0, n)) one
    ∙ ap (λ (m : Literal). Some (m, 1)) (sym own)

-- at the slack 0 a literal is forced where it is open
pub test_at_zero : (line : ConstraintValue) (id : ℕ) (old new : TrailValue) (at : ℕ) (l : Literal) (b : Bool) → IsVisited line id 0 old new at → b ≡ is_none (partial_truth (partial new) l) → b ≡ is_forced (partial new) line (l, 1)
test_at_zero line id old new at l b visited test = test_of line id 0 old new at (l, 1) b visited (test ∙ sym (and_one (is_none (partial_truth (partial new) l))))
  where
    and_one : (x : Bool) → (x && int_lt (pos 0) (pos 1)) ≡ x
    and_one true = refl
    and_one false = refl
