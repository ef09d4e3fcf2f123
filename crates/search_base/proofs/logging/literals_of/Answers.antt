use Rattle.std.proofs.Common.{◌≡◌, ◌+◌, ◌<◌, Bool, false, not, List, [], ◌∷◌, ◌++◌, length, take, get_or, sym, ap, ◌∙◌, arith}
use Rattle.std.proofs.lemmas.List.{take_more, length-take}
use Rattle.scut_base.specs.Literal.{Literal}
use Rattle.proof_laws.specs.Refusal.{literals_at}
use Rattle.proof_laws.proofs.ModelLiterals.{literals_push, literal_is}
use Rattle.search_base.proofs.logging.literals_of.Goals as goal

pub loop-value-preserved : goal.loop-value-preserved
loop-value-preserved c =
    let i = c.loop-value.value-index in
    let xs = c.args.a.now in
    let v = get_or xs i false in
    let sizes : length c.as_slice-value-items.result.now ≡ length xs = ap length c.as_slice-value-items.ensures in
    let short : i < length xs = omega (arith, c.loop-value-test.true) in
    let some : length (take i xs) ≡ i = omega (arith, length-take i xs) in
    let lit : c.new.result ≡ record { var = 1 + length (take i xs); neg = not v } =
    literal_is c.new.result (1 + length (take i xs)) (not v)
    (omega (arith, c.new.ensures.var, c.loop-value.invariant.at))
    (c.new.ensures.neg ∙ ap (λ (bs : List Bool). not (get_or bs i false)) c.as_slice-value-items.ensures) in
    record {
      at = omega arith;
      done = c.in_ok-push.ensures.ok
          ∙ ap (λ (ls : List Literal). ls ++ c.new.result ∷ []) c.loop-value.invariant.done
          ∙ ap (λ (l : Literal). literals_at 1 (take i xs) ++ l ∷ []) lit
          ∙ sym (literals_push 1 (take i xs) v)
          ∙ ap (literals_at 1) (sym (take_more xs i false short));
    }
