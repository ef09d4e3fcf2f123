use Rattle.std.proofs.Common.{◌≡◌, ◌≤◌, ◌++◌, ◌∷◌, ℕ, List, [], get_or, refl, length, arith, ap, sym, subst, ◌∙◌}
use Rattle.std.proofs.lemmas.List.{length-map}
use Rattle.watch_prop.specs.Watching.{IsKept, lits_of, no_literal}
use Rattle.watch_prop.specs.Watches.{IsVisited}
use Rattle.watch_prop.proofs.WatchKept.{looking_start, looking_end}
use Rattle.watch_prop.proofs.WatchVisits.{followed_none, followed_twice}
use Rattle.watch_prop.proofs.watches.Watches.look.Goals as goal

pub loop-at-init : goal.loop-at-init
loop-at-init c =
    let w = c.args.self.now in
    let t = c.args.trail.now in
    let more = c.requires.more in
    let len : length w.ends.items ≡ c.len.result = omega (arith, c.len.ensures, w.ends.ok.0) in
    record {
      looking = looking_start w.slots w.lists.items w.ends.items t.vars (lits_of t.steps) c.falsified-lit.result c.requires.ready (omega (arith, more, length-map t.steps (λ s. s.lit))) (ap (λ (k : ℕ). get_or (lits_of t.steps) k no_literal) len ∙ c.falsified-lit.ensures);
      ends = refl;
      followed = followed_none w t;
    }

pub returns-in_err-visit-clause-followed : goal.returns-in_err-visit-clause-followed
returns-in_err-visit-clause-followed c =
    followed_twice c.args.self.now c.loop-at.self c.visit.new.self c.args.trail.now c.loop-at.trail c.visit.new.trail c.loop-at.invariant.followed c.in_err-visit.ensures.err.1

pub loop-at-preserved-in-Next : goal.loop-at-preserved-in-Next
loop-at-preserved-in-Next c =
    let v = subst (IsVisited c.loop-at.self c.visit.new.self c.loop-at.trail c.visit.new.trail c.falsified-lit.result c.skip-at.result) c.in-Next.is c.in_ok-visit.ensures.ok in
    record {
      looking = v.looking;
      ends = v.ends ∙ c.loop-at.invariant.ends;
      followed = followed_twice c.args.self.now c.loop-at.self c.visit.new.self c.args.trail.now c.loop-at.trail c.visit.new.trail c.loop-at.invariant.followed v.followed;
    }

pub loop-at-preserved : goal.loop-at-preserved
loop-at-preserved c =
    let v = subst (IsVisited c.loop-at.self c.visit.new.self c.loop-at.trail c.visit.new.trail c.falsified-lit.result c.skip-at.result) c.in-Gone.is c.in_ok-visit.ensures.ok in
    record {
      looking = v.looking;
      ends = v.ends ∙ c.loop-at.invariant.ends;
      followed = followed_twice c.args.self.now c.loop-at.self c.visit.new.self c.args.trail.now c.loop-at.trail c.visit.new.trail c.loop-at.invariant.followed v.followed;
    }

pub returns-in-Conflict-clause-followed : goal.returns-in-Conflict-clause-followed
returns-in-Conflict-clause-followed c =
    followed_twice c.args.self.now c.loop-at.self c.visit.new.self c.args.trail.now c.loop-at.trail c.visit.new.trail c.loop-at.invariant.followed c.in_ok-visit.ensures.ok.followed

pub returns-clause-ready : goal.returns-clause-ready
returns-clause-ready c =
    let w = c.loop-at.self in
    let t = c.loop-at.trail in
    let past = subst (λ (n : ℕ). n ≤ c.skip-at.result) c.entries.ensures c.if-at-entries.true in
    let done = looking_end w.slots w.lists.items w.ends.items t.vars (lits_of t.steps) c.falsified-lit.result c.skip-at.result c.skip-at.ensures.looking past in
    let is : c.push.new.self.items ≡ w.ends.items ++ length (lits_of t.steps) ∷ [] = c.in_ok-push.ensures.items ∙ ap (λ (n : ℕ). w.ends.items ++ n ∷ []) (c.in_ok-end.ensures ∙ c.len-2.ensures.value ∙ sym (length-map t.steps (λ s. s.lit))) in
    subst (λ (es : List ℕ). IsKept w.slots w.lists.items es t.vars (lits_of t.steps)) (sym is) done
