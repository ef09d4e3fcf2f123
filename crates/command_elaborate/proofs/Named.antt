-- The lines that hints name are among the live lines and the negation.
use Rattle.std.specs.Prelude.{◌≡◌, ℕ, Bool, true, false, cond, Option, Some, None, List, [], ◌∷◌, map, All, Contains, Result, Ok, Err, refl}
use Rattle.std.proofs.Common.{sym, ◌∙◌, subst}
use Rattle.std.specs.Ordering.{nat_cmp, eq_by_cmp}
use Rattle.std.specs.FinMap.{get, entries, get-entries, find}
use Rattle.std.proofs.lemmas.List.Elements.{All-nil, All-cons}
use Rattle.scut_base.proofs.Lists.{Contains-head, Contains-cons}
use Rattle.pb_lin.specs.Constraint.{ConstraintValue, negation}
use Rattle.pb_lin.specs.Given.{Given}
use Rattle.hint_rup.specs.Hints.{line_of, before, named, IsReplayed}
use Rattle.hint_rup.specs.declared.hint.Hint.{Hint}
use Rattle.hint_rup.specs.declared.hint.Hint.TheVariants.{Id, Negated, Denied}
use Rattle.hint_rup.specs.declared.hint.RupFault.{RupFault}
use Rattle.hint_rup.specs.declared.hint.RupFault.TheVariants.{NoSuchId, Open}
use Rattle.proof_laws.specs.State.{StateValue}
use Rattle.proof_laws.specs.Refusal.{given_in, rup_fault, IsHintsFault}
use Rattle.proof_laws.specs.declared.why.Why.TheVariants.{RupOpen}
use Rattle.command_elaborate.specs.Loose.{live_lines, FollowsLoosely}
use Rattle.command_elaborate.proofs.Inside.{hints_conflict_law}

by_test : (b : Bool) (e : ConstraintValue) (es : List ConstraintValue) (rest : Option ConstraintValue) (c : ConstraintValue) → cond b (Some e) rest ≡ Some c → (rest ≡ Some c → Contains es c) → Contains (e ∷ es) c
by_test true e es rest c here later =
    let same : e ≡ c = cc in
    subst (λ (d : ConstraintValue). Contains (e ∷ es) d) same (Contains-head e es)
by_test false e es rest c here later = Contains-cons e c es (later here)

found_among : (es : List (ℕ × ConstraintValue)) (id : ℕ) (c : ConstraintValue) → find nat_cmp id es ≡ Some c → Contains (map (λ e. e.1) es) c
found_among [] id c is = cc
found_among (e ∷ es) id c is = by_test (eq_by_cmp nat_cmp id e.0) e.1 (map (λ (f : ℕ × ConstraintValue). f.1) es) (find nat_cmp id es) c is (found_among es id c)

pub live_among : (s : StateValue) (id : ℕ) (c : ConstraintValue) → get s.live id ≡ Some c → Contains (live_lines s) c
live_among s id c is = found_among (entries s.live) id c (sym (get-entries s.live id) ∙ is)

before_all : (P : ConstraintValue → Type 0) (o : Option ConstraintValue) (cs : List ConstraintValue) → ((c : ConstraintValue) → o ≡ Some c → P c) → All P cs → All P (before o cs)
before_all P None cs first rest = All-nil P
before_all P (Some c) cs first rest = All-cons P c cs (first c refl) rest

-- what all lines have that may be named, those that are named have
pub named_all : (P : ConstraintValue → Type 0) (g : Given) (hints : List Hint) → ((h : Hint) (c : ConstraintValue) → line_of g h ≡ Some c → P c) → All P (named g hints)
unfolding named
named_all P g [] each = All-nil P
named_all P g (h ∷ hints) each = before_all P (line_of g h) (named g hints) (each h) (named_all P g hints each)

module _ (s : StateValue) (goal : ConstraintValue) where
  abbrev given : Given
  given = given_in s (Some (negation goal)) None

  abbrev all_lines : List ConstraintValue
  all_lines = negation goal ∷ live_lines s

  line_among : (h : Hint) (c : ConstraintValue) → line_of given h ≡ Some c → Contains all_lines c
  line_among (Id id) c is = Contains-cons (negation goal) c (live_lines s) (live_among s id c is)
  line_among Negated c is =
      let same : negation goal ≡ c = cc in
      subst (λ (d : ConstraintValue). Contains all_lines d) same (Contains-head (negation goal) (live_lines s))
  line_among Denied c is = cc

  by_answer : (hints : List Hint) (answer : Result (Unit {0}) RupFault) → IsReplayed s.vars (negation goal) given hints answer → None ≡ rup_fault RupOpen answer → FollowsLoosely s goal
  by_answer hints (Ok done) conflict none =
      hints_conflict_law s.vars (negation goal ∷ named given hints) all_lines
      (All-cons (Contains all_lines) (negation goal) (named given hints) (Contains-head (negation goal) (live_lines s)) (named_all (Contains all_lines) given hints line_among)) conflict
  by_answer hints (Err (NoSuchId id)) conflict none = cc
  by_answer hints (Err Open) conflict none = cc

  -- what follows along hints follows loosely
  pub hints_follow : (hints : List Hint) → IsHintsFault s (negation goal) None hints RupOpen None → FollowsLoosely s goal
  hints_follow hints fault = by_answer hints fault.0 fault.1 fault.2
