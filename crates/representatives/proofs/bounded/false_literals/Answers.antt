use Rattle.std.proofs.Common.{◌≡◌, ◌+◌, Bool, false, List, [], ◌∷◌, ◌++◌, length, take, slice_index_or, sym, ap, ap₂, ◌∙◌, arith}
use Rattle.std.proofs.lemmas.List.{take_more, length-take-le}
use Rattle.scut_base.specs.Literal.{Literal}
use Rattle.representatives.specs.Bounded.{false_literals}
use Rattle.representatives.proofs.Blocking.{false_literals-push}
use Rattle.representatives.proofs.bounded.false_literals.Goals as goal

pub loop-value-preserved : goal.loop-value-preserved
loop-value-preserved c =
    let values : List Bool = c.args.values.now in
    let done : List Bool = take c.loop-value.value-index values in
    let x : Bool = slice_index_or values c.loop-value.value-index false in
    let longer : take (c.loop-value.value-index + 1) values ≡ done ++ x ∷ [] = take_more values c.loop-value.value-index false c.loop-value-test.true in
    let place : c.new.result.var ≡ 1 + length done = omega (arith, c.new.ensures.var, c.loop-value.invariant.at, length-take-le c.loop-value.value-index values (omega (arith, c.loop-value-test.true))) in
    let lit : c.new.result ≡ record { var = 1 + length done; neg = x } = ap₂ (λ n b. let l : Literal = record { var = n; neg = b } in l) place c.new.ensures.neg in
    record {
      at = omega (arith, c.loop-value.invariant.at);
      done = c.in_ok-push.ensures.ok ∙ ap₂ (λ (ls : List Literal) (l : Literal). ls ++ l ∷ []) c.loop-value.invariant.done lit ∙ sym (ap (false_literals 1) longer ∙ false_literals-push 1 done x);
    }
