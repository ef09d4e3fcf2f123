-- Where a partial assignment is closed, nothing follows.
use Rattle.std.specs.Prelude.{◌≡◌, ℕ, ◌≤◌, Bool, Option, List, ◌∷◌, length, All}
use Rattle.std.proofs.Common.{subst, sym}
use Rattle.std.specs.FinMap.{entries}
use Rattle.std.proofs.lemmas.List.Elements.{All-cons, All-map, Contains-get_or}
use Rattle.scut_base.specs.Literal.{Literal}
use Rattle.pb_lin.specs.Constraint.{ConstraintValue, UpTo, negation, opposite}
use Rattle.pb_lin.specs.Propagation.{IsClosed}
use Rattle.proof_laws.specs.State.{StateValue, IsState}
use Rattle.proof_laws.proofs.Entries.{entries_hold}
use Rattle.command_elaborate.specs.Loose.{live_lines, FollowsLoosely}

-- no line is of a variable above the state's
pub live_upto : (s : StateValue) → IsState s → All (UpTo s.vars) (live_lines s)
live_upto s state = All-map (UpTo s.vars) (λ e. e.1) (entries s.live) (λ k d short. entries_hold (UpTo s.vars) s.live state.variables _ (Contains-get_or (entries s.live) k d short))

pub negation_upto : (n : ℕ) (c : ConstraintValue) → UpTo n c → UpTo n (negation c)
negation_upto n c upto = All-map (λ t. t.0.var ≤ n) (λ (t : Literal × ℕ). (opposite t.0, t.1)) c.terms upto

pub closed_law : (s : StateValue) (goal : ConstraintValue) (q : List (Option Bool)) → IsState s → length q ≡ s.vars → UpTo s.vars goal
    → IsClosed q (negation goal ∷ live_lines s) → FollowsLoosely s goal → ⊥
closed_law s goal q state long upto closed follows =
    follows q (subst (λ (n : ℕ). All (UpTo n) (negation goal ∷ live_lines s)) (sym long) (All-cons (UpTo s.vars) (negation goal) (live_lines s) (negation_upto s.vars goal upto) (live_upto s state))) closed
