use Rattle.std.proofs.Common.{◌≡◌, ℕ, Bool, true, false, List, take, subst, arith}
use Rattle.std.specs.Prelude.{All, Contains, MatchBool}
use Rattle.std.proofs.lemmas.List.{take_all}
use Rattle.std.proofs.lemmas.Option.{MatchOption-at_some, MatchOption-at_none}
use Rattle.representatives.specs.Judged.{IsModelFault}
use Rattle.representatives.specs.Representatives.{AreDifferent, Serves}
use Rattle.representatives.specs.declared.fault.RepsWhy.{RepsWhy}
use Rattle.representatives.specs.declared.fault.RepsWhy.TheVariants.{Repeated}
use Rattle.representatives.proofs.Seen.{different_more, seen_more, serve_more, wrong_there}
use Rattle.representatives.proofs.checking.check_models.Goals as goal

at_true : (b : Bool) (P Q : Type 0) → b ≡ true → MatchBool b P Q → P
at_true true P Q is holds = holds
at_true false P Q is holds = cc

at_false : (b : Bool) (P Q : Type 0) → b ≡ false → MatchBool b P Q → Q
at_false true P Q is holds = cc
at_false false P Q is holds = holds

pub returns-in-Some-clause-fault : goal.returns-in-Some-clause-fault
returns-in-Some-clause-fault c =
    let a : List Bool = c.model-item.result in
    let wrong = MatchOption-at_some (Serves c.args.inst.now c.args.vec.now a) (λ (w : RepsWhy). (before : List (List Bool)) → IsModelFault c.args.inst.now c.args.vec.now before a w) c.in-Some.why c.in-Some.is c.in_ok-why.ensures in
    wrong_there c.args.models.now c.loop-model.model-index a c.loop-model-test.true c.model-item.is c.args.inst.now c.args.vec.now c.in-Some.why c.loop-model.invariant.serve c.loop-model.invariant.different (wrong (take c.loop-model.model-index c.args.models.now))

pub returns-then-not-branch-clause-fault : goal.returns-then-not-branch-clause-fault
returns-then-not-branch-clause-fault c =
    let a : List Bool = c.model-item.result in
    let serves = MatchOption-at_none (Serves c.args.inst.now c.args.vec.now a) (λ (w : RepsWhy). (before : List (List Bool)) → IsModelFault c.args.inst.now c.args.vec.now before a w) c.in_default.is c.in_ok-why.ensures in
    let old : c.in_ok-is_new.field-0 ≡ false = grind arith in
    let found : Contains c.loop-model.seen.keys a = at_false c.in_ok-is_new.field-0 (Contains c.loop-model.seen.keys a → ⊥) (Contains c.loop-model.seen.keys a) old c.in_ok-is_new.ensures.found in
    wrong_there c.args.models.now c.loop-model.model-index a c.loop-model-test.true c.model-item.is c.args.inst.now c.args.vec.now Repeated c.loop-model.invariant.serve c.loop-model.invariant.different (serves, (c.loop-model.invariant.seen a).0 found)

pub loop-model-preserved : goal.loop-model-preserved
loop-model-preserved c =
    let a : List Bool = c.model-item.result in
    let models : List (List Bool) = c.args.models.now in
    let index : ℕ = c.loop-model.model-index in
    let serves = MatchOption-at_none (Serves c.args.inst.now c.args.vec.now a) (λ (w : RepsWhy). (before : List (List Bool)) → IsModelFault c.args.inst.now c.args.vec.now before a w) c.in_default.is c.in_ok-why.ensures in
    let new : c.in_ok-is_new.field-0 ≡ true = grind arith in
    let fresh : Contains c.loop-model.seen.keys a → ⊥ = at_true c.in_ok-is_new.field-0 (Contains c.loop-model.seen.keys a → ⊥) (Contains c.loop-model.seen.keys a) new c.in_ok-is_new.ensures.found in
    record {
      serve = serve_more models index a c.loop-model-test.true c.model-item.is c.args.inst.now c.args.vec.now c.loop-model.invariant.serve serves;
      different = different_more models index a c.loop-model-test.true c.model-item.is c.loop-model.invariant.different (λ there. fresh ((c.loop-model.invariant.seen a).1 there));
      seen = seen_more models index a c.loop-model-test.true c.model-item.is c.loop-model.seen.keys c.is_new.new.seen.keys c.loop-model.invariant.seen c.in_ok-is_new.ensures.kept;
    }

pub returns-clause-serve : goal.returns-clause-serve
returns-clause-serve c = subst (All (Serves c.args.inst.now c.args.vec.now)) (take_all c.loop-model.model-index c.args.models.now c.loop-model-test.false) c.loop-model.invariant.serve

pub returns-clause-different : goal.returns-clause-different
returns-clause-different c = subst AreDifferent (take_all c.loop-model.model-index c.args.models.now c.loop-model-test.false) c.loop-model.invariant.different
