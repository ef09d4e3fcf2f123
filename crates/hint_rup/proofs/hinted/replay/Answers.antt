use Rattle.std.proofs.Common.{◌≡◌, ◌∷◌, List, Bool, Option, Some, None, ◌+◌, length, replicate, drop, get_or, ◌∙◌, sym, ap, subst, refl}
use Rattle.std.specs.Prelude.{pos, ◌<ℤ◌, ℕ, IfSome}
use Rattle.std.proofs.lemmas.List.{length-replicate}
use Rattle.pb_lin.specs.Constraint.{ConstraintValue, UpTo, slack}
use Rattle.pb_lin.specs.Given.{Given, given_with}
use Rattle.hint_rup.specs.Negation.{negation_in}
use Rattle.hint_rup.specs.Propagation.{forced, Conflicts}
use Rattle.hint_rup.specs.Hints.{line_of, named}
use Rattle.hint_rup.specs.declared.hint.Hint.TheVariants.{Id}
use Rattle.hint_rup.proofs.Conflict.{IsRest, conflicts_here, conflicts_none, rest_whole, rest_more, fails}
use Rattle.hint_rup.proofs.HintLines.{named_more, named_stop, named_end, unnamed_more, unnamed_stop, unnamed_end, refuted}
use Rattle.hint_rup.proofs.hinted.replay.Goals as goal

pub returns-then-propagate_first-clause-answer : goal.returns-then-propagate_first-clause-answer
returns-then-propagate_first-clause-answer c =
    conflicts_here _ _ _ (subst (λ (p : List (Option Bool)). slack p (negation_in c.args.negated) <ℤ pos 0) c.clear.ensures (c.propagate_first.ensures.propagates.0.0 c.if-propagate_first.true))

pub returns-then-propagate_first-clause-implied : goal.returns-then-propagate_first-clause-implied
returns-then-propagate_first-clause-implied c =
    λ ok. refuted (given_with c.args.lines.now (negation_in c.args.negated) c.args.denied) (length c.args.scratch.now) (negation_in c.args.negated) c.args.hints.now refl (returns-then-propagate_first-clause-answer c)

pub loop-hint-init : goal.loop-hint-init
loop-hint-init c =
    let Partials : Type 0 = List (Option Bool) in
    let start : Partials = replicate (length c.args.scratch.now) None in
    let negated = negation_in c.args.negated in
    let hinted = named (given_with c.args.lines.now negated c.args.denied) c.args.hints.now in
    let kept : slack start negated <ℤ pos 0 → ⊥ =
    fails c.propagate_first.result (λ violated. c.propagate_first.ensures.propagates.0.1 (subst (λ (p : Partials). slack p negated <ℤ pos 0) (sym c.clear.ensures) violated)) c.if-propagate_first.false in
    let is : c.propagate_first.new.scratch ≡ forced start negated = c.propagate_first.ensures.propagates.1 c.if-propagate_first.false ∙ ap (λ (p : Partials). forced p negated) c.clear.ensures in
    record {
      rest = rest_more start start c.propagate_first.new.scratch (negated ∷ hinted) negated hinted (rest_whole start (negated ∷ hinted)) kept is;
      first = refl;
      length = c.propagate_first.ensures.length ∙ ap length c.clear.ensures ∙ length-replicate (length c.args.scratch.now) None;
    }

pub propagate_hint-requires-clause-hinted : goal.propagate_hint-requires-clause-hinted
propagate_hint-requires-clause-hinted c =
    let given : Given = given_with c.args.lines.now (negation_in c.args.negated) c.args.denied in
    subst (λ (n : ℕ). IfSome (line_of given (get_or c.args.hints.now c.loop-hint.hint-index (Id 0))) (UpTo n)) (sym c.loop-hint.invariant.length) (c.requires.hinted c.loop-hint.hint-index (Id 0) c.loop-hint-test.true)

pub loop-hint-preserved : goal.loop-hint-preserved
loop-hint-preserved c =
    let start : List (Option Bool) = replicate (length c.args.scratch.now) None in
    let here = c.loop-hint.scratch in
    let negated = negation_in c.args.negated in
    let given : Given = given_with c.args.lines.now negated c.args.denied in
    let hints = c.args.hints.now in
    let i = c.loop-hint.hint-index in
    let told = c.in-Some-false.ensures.propagates in
    let all = negated ∷ named given hints in
    let left = named given (drop (i + 1) hints) in
    let more : named given (drop i hints) ≡ told.0 ∷ left = named_more given hints i _ told.0 c.loop-hint-test.true told.1 in
    let kept : slack here told.0 <ℤ pos 0 → ⊥ = fails c.in-Some-false.field-0 told.2.0.1 c.in-Some-false.field-0-test in
    record {
      rest = rest_more start here c.propagate_hint.new.scratch all told.0 left (subst (λ (cs : List ConstraintValue). IsRest start all here cs) more c.loop-hint.invariant.rest) kept (told.2.1 c.in-Some-false.field-0-test);
      first = c.loop-hint.invariant.first ∙ unnamed_more given hints i _ told.0 c.loop-hint-test.true told.1;
      length = c.propagate_hint.ensures.length ∙ c.loop-hint.invariant.length;
    }

pub returns-in-Some-true-clause-answer : goal.returns-in-Some-true-clause-answer
returns-in-Some-true-clause-answer c =
    let here = c.loop-hint.scratch in
    let told = c.in-Some-true.ensures.propagates in
    let more = named_more (given_with c.args.lines.now (negation_in c.args.negated) c.args.denied) c.args.hints.now c.loop-hint.hint-index _ told.0 c.loop-hint-test.true told.1 in
    c.loop-hint.invariant.rest.back
    (subst (λ (cs : List ConstraintValue). Conflicts here cs) (sym more) (conflicts_here here told.0 _ (told.2.0.0 c.in-Some-true.field-0-test)))

pub returns-in-Some-true-clause-length : goal.returns-in-Some-true-clause-length
returns-in-Some-true-clause-length c = c.propagate_hint.ensures.length ∙ c.loop-hint.invariant.length

pub returns-in-Some-true-clause-implied : goal.returns-in-Some-true-clause-implied
returns-in-Some-true-clause-implied c =
    λ ok. refuted (given_with c.args.lines.now (negation_in c.args.negated) c.args.denied) (length c.args.scratch.now) (negation_in c.args.negated) c.args.hints.now refl (returns-in-Some-true-clause-answer c)

pub returns-in-None-clause-answer : goal.returns-in-None-clause-answer
returns-in-None-clause-answer c =
    let here = c.loop-hint.scratch in
    let given : Given = given_with c.args.lines.now (negation_in c.args.negated) c.args.denied in
    let none = named_stop given c.args.hints.now c.loop-hint.hint-index _ c.loop-hint-test.true c.in-None.ensures.propagates in (
      (λ found. conflicts_none here (subst (λ (cs : List ConstraintValue). Conflicts here cs) none (c.loop-hint.invariant.rest.onward found))),
      c.loop-hint.invariant.first ∙ unnamed_stop given c.args.hints.now c.loop-hint.hint-index _ c.loop-hint-test.true c.in-None.ensures.propagates ∙ ap Some (sym c.id_of.ensures),
    )

pub returns-in-None-clause-length : goal.returns-in-None-clause-length
returns-in-None-clause-length c = c.propagate_hint.ensures.length ∙ c.loop-hint.invariant.length

pub returns-clause-length : goal.returns-clause-length
returns-clause-length c = c.loop-hint.invariant.length

pub returns-clause-answer : goal.returns-clause-answer
returns-clause-answer c =
    let here = c.loop-hint.scratch in
    let none = named_end (given_with c.args.lines.now (negation_in c.args.negated) c.args.denied) c.args.hints.now c.loop-hint.hint-index c.loop-hint-test.false in (
      (λ found. conflicts_none here (subst (λ (cs : List ConstraintValue). Conflicts here cs) none (c.loop-hint.invariant.rest.onward found))),
      c.loop-hint.invariant.first ∙ unnamed_end (given_with c.args.lines.now (negation_in c.args.negated) c.args.denied) c.args.hints.now c.loop-hint.hint-index c.loop-hint-test.false,
    )

pub propagate_first-requires-clause-cleared : goal.propagate_first-requires-clause-cleared
propagate_first-requires-clause-cleared c =
    let count : length c.clear.new.self ≡ length c.args.scratch.now = ap length c.clear.ensures ∙ length-replicate (length c.args.scratch.now) None in
    c.clear.ensures ∙ ap (λ n. replicate n None) (sym count)
