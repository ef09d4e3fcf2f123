-- What is live and not learned, in a later state.
use Rattle.std.proofs.Common.{◌≡◌, inl, inr, ℕ, ◌==◌, Bool, if◌then◌else◌, Option, Some, List, [], ap, sym, ◌∙◌, arith}
use Rattle.pb_lin.specs.Constraint.{ConstraintValue, IsVariable}
use Rattle.pb_lin.specs.Problem.{ProblemValue}
use Rattle.proof_laws.specs.State.{StateValue}
use Rattle.proof_laws.specs.Refusal.{line_or_none}
use Rattle.proof_laws.specs.declared.line.Line.{Line}
use Rattle.sum_outputs.specs.Adding.{IsLater, KeptHold}
use Rattle.totalizer.specs.Meaning.{IsOwnOrNone}

module _ (p : ProblemValue) (old new : List Line) (s t : StateValue) (later : IsLater p old s new t) where
  pub own_stays : (id : ℕ) → IsOwnOrNone p old s id → IsOwnOrNone p new t id
  own_stays id (inl none) = inl none
  own_stays id (inr (c, own)) = inr (c, later.own id c own)

  pub named_stays : (id : ℕ) → IsOwnOrNone p old s id → line_or_none t.live id ≡ line_or_none s.live id
  named_stays id (inl none) = ap (line_or_none t.live) none ∙ sym (ap (line_or_none s.live) none)
  named_stays id (inr (c, own)) =
      ap (λ (found : Option ConstraintValue). if id == 0 then Some (record { terms = []; degree = 0 }) else found)
      ((later.own id c own).0 ∙ sym own.0)

  -- the kept clauses so far are among those that are kept later
  pub held_before : (x : List Bool) → KeptHold p new t x → KeptHold p old s x
  held_before x hold id c kept = let own = later.own id c (kept.0, kept.2) in hold id c (own.0, kept.1, own.1)

  pub variable_stays : (var : ℕ) → IsVariable s.vars var → IsVariable t.vars var
  variable_stays var is = let more = later.vars in (is.0, omega arith)
