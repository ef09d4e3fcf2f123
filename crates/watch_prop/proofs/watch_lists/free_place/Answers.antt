use Rattle.std.proofs.Common.{◌≡◌, subst, arith, inl, inr}
use Rattle.std.proofs.lemmas.Bool.{cases_lt}
use Rattle.std.specs.List.{Contains}
use Rattle.std.proofs.Common.{get_or}
use Rattle.watch_prop.specs.Watching.{no_literal, lits_of}
use Rattle.pb_lin.specs.Constraint.{opposite}
use Rattle.watch_prop.proofs.watch_lists.free_place.Goals as goal

pub loop-place-preserved : goal.loop-place-preserved
loop-place-preserved c = λ k from below. elim (cases_lt k c.loop-place.place) [
  | inl h ↦ c.loop-place.invariant k from h
  | inr h ↦
      let k_is : c.loop-place.place ≡ k = omega arith in
      let here : Contains (lits_of c.args.trail.now.steps) (opposite (get_or c.args.clause.now c.loop-place.place no_literal)) = c.is_false.ensures.0 c.if-not-is_false.false in
      subst (λ i. Contains (lits_of c.args.trail.now.steps) (opposite (get_or c.args.clause.now i no_literal))) k_is here
]
