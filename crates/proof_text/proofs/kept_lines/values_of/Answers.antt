use Rattle.std.proofs.Common.{◌≡◌, ◌+◌, Bool, not, List, [], ◌∷◌, ◌++◌, length, take, sym, ap, ap₂, ◌∙◌, arith}
use Rattle.std.proofs.Math.Bool.{not-not}
use Rattle.std.proofs.lemmas.List.{length_push, take_more}
use Rattle.scut_base.specs.Literal.{Literal}
use Rattle.proof_laws.specs.Refusal.{literals_at}
use Rattle.proof_laws.proofs.ModelLiterals.{literal_is, literals_push}
use Rattle.proof_text.proofs.kept_lines.values_of.Goals as goal

pub loop-lit-preserved : goal.loop-lit-preserved
loop-lit-preserved c =
    let i = c.loop-lit.lit-index in
    let vs = c.loop-lit.values in
    let lit : Literal = c.lit-item.result in
    let b : Bool = not c.is_neg.result in
    let new : Literal = record { var = 1 + length vs; neg = not b } in
    let same : new ≡ lit = sym (literal_is lit (1 + length vs) (not b) (omega (arith, c.loop-lit.invariant.long, c.loop-lit.invariant.at, c.var.ensures.value, c.if-var.false)) (sym c.is_neg.ensures ∙ sym (not-not c.is_neg.result))) in
    let xs = c.args.model.now in
    record {
      at = omega arith;
      long = omega (arith, ap length c.in_ok-push.ensures.ok, length_push vs b, c.loop-lit.invariant.long);
      done = ap (literals_at 1) c.in_ok-push.ensures.ok ∙ literals_push 1 vs b ∙ ap₂ (λ (ls : List Literal) (l : Literal). ls ++ l ∷ []) c.loop-lit.invariant.done same ∙ ap (λ (l : Literal). take i xs ++ l ∷ []) c.lit-item.is ∙ sym (take_more xs i lit (omega (arith, c.loop-lit-test.true)));
    }
