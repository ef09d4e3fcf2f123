use Rattle.std.proofs.Common.{◌≡◌, ◌≤◌, ◌+◌, ◌++◌, ◌∷◌, ℕ, [], None, Some, true, false, refl, get_or, ap, sym, subst, ◌∙◌}
use Rattle.std.proofs.lemmas.List.Elements.{Contains-push}
use Rattle.scut_base.specs.Literal.{Literal}
use Rattle.scut_base.specs.Assignment.{partial_truth}
use Rattle.clause_prop.specs.Steps.{assigned, last_level, partial}
use Rattle.clause_prop.specs.Propagating.{IsConflict, IsForcedStep}
use Rattle.watch_prop.specs.Watching.{AreOthersFalse, IsLooking, IsValue, clause_at, lits_of, no_slot}
use Rattle.watch_prop.specs.Watches.{IsVisited}
use Rattle.watch_prop.specs.declared.watches.Visit.TheVariants.{Next}
use Rattle.watch_prop.proofs.WatchLists.{contains_at}
use Rattle.watch_prop.proofs.WatchKept.{looking_next, looking_push}
use Rattle.watch_prop.proofs.WatchSteps.{conflict_at, forced_at}
use Rattle.watch_prop.proofs.WatchVisits.{followed_none, followed_step, lits_pushed}
use Rattle.watch_prop.proofs.watches.Watches.force.Goals as goal

pub truth-requires : goal.truth-requires
truth-requires c =
    let others = c.requires.others in
    c.requires.looking.kept.upto c.args.slot c.args.unit (contains_at _ others.0 c.args.unit others.1 others.2)

pub push_forced-requires-clause-within : goal.push_forced-requires-clause-within
push_forced-requires-clause-within c =
    let others = c.requires.others in
    subst (λ (l : Literal). l.var ≤ c.args.trail.now.vars) (sym c.lit.ensures) (c.requires.looking.kept.upto c.args.slot c.args.unit (contains_at _ others.0 c.args.unit others.1 others.2))

pub push_forced-requires-clause-open : goal.push_forced-requires-clause-open
push_forced-requires-clause-open c =
    ap (partial_truth (partial c.args.trail.now)) c.lit.ensures ∙ sym c.truth.ensures.value ∙ c.in-None.is

pub returns-in-Some-true : goal.returns-in-Some-true
returns-in-Some-true c =
    let w = c.args.self.now in
    let t = c.args.trail.now in
    let l = c.args.unit in
    let others = c.requires.others in
    let looking = c.requires.looking in
    let value : IsValue (lits_of t.steps) l (Some true) = subst (IsValue (lits_of t.steps) l) (c.in-Some-true.is ∙ ap Some c.in-Some-true.field-0-test) c.truth.ensures.told in
    record {
      looking = looking_next w.slots w.lists.items w.ends.items t.vars (lits_of t.steps) c.args.lit c.args.at c.args.slot looking c.requires.entry (λ _. (l, contains_at _ others.0 l others.1 others.2, value.0));
      left = refl;
      ends = refl;
      followed = followed_none w t;
      rightly = tt;
    }

pub returns-in-Some-false : goal.returns-in-Some-false
returns-in-Some-false c =
    let w = c.args.self.now in
    let t = c.args.trail.now in
    let own = w.slots in
    let trail = lits_of t.steps in
    let l = c.args.unit in
    let looking = c.requires.looking in
    let value : IsValue trail l (Some false) = subst (IsValue trail l) (c.in-Some-false.is ∙ ap Some c.in-Some-false.field-0-test) c.truth.ensures.told in
    let id : (get_or own c.args.slot no_slot).id ≡ c.id-id.result = sym c.id-id.ensures in
    record {
      looking = looking;
      left = refl;
      ends = refl;
      followed = followed_none w t;
      rightly = λ lines hold. subst (IsConflict lines t) id (conflict_at own w.index lines t.vars t.steps c.args.slot l c.truth.ensures.steps hold c.requires.long c.requires.others value.0);
    }

pub returns-in-None : goal.returns-in-None
returns-in-None c =
    let w = c.args.self.now in
    let t = c.args.trail.now in
    let own = w.slots in
    let trail = lits_of t.steps in
    let slot = c.args.slot in
    let l = c.lit.result in
    let others : AreOthersFalse (clause_at own slot) trail l = subst (AreOthersFalse (clause_at own slot) trail) (sym c.lit.ensures) c.requires.others in
    let looking = c.requires.looking in
    let id : (get_or own slot no_slot).id ≡ c.id-id.result = sym c.id-id.ensures in
    let none : partial_truth (assigned t.vars t.steps) l ≡ None = ap (partial_truth (assigned t.vars t.steps)) c.lit.ensures ∙ sym c.truth.ensures.value ∙ c.in-None.is in
    let longer = looking_push own w.lists.items w.ends.items t.vars trail (l ∷ []) c.args.lit c.args.at looking in
    let next = looking_next own w.lists.items w.ends.items t.vars (trail ++ l ∷ []) c.args.lit c.args.at slot longer c.requires.entry (λ _. (l, contains_at _ others.0 l others.1 others.2, Contains-push trail l)) in
    subst (λ u. IsVisited w w t u c.args.lit c.args.at Next) (sym c.push_forced.ensures) (record {
      looking = subst (λ ts. IsLooking own w.lists.items w.ends.items t.vars ts c.args.lit (c.args.at + 1)) (sym (lits_pushed t.steps _)) next;
      left = refl;
      ends = refl;
      followed = followed_step w t l c.id-id.result (λ lines hold.
          subst (λ (i : ℕ). IsForcedStep lines t.vars t.steps (record { lit = l; level = last_level t.steps; reason = i })) id
          (forced_at own w.index lines t.vars t.steps slot l c.truth.ensures.steps hold c.requires.long others none));
      rightly = tt;
    })
