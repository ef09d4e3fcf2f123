use Rattle.std.proofs.Common.{◌≡◌, ◌+◌, ◌++◌, ◌∷◌, [], List, take, get_or, sym, subst, arith}
use Rattle.std.specs.List.{All}
use Rattle.std.proofs.lemmas.List.{take_more}
use Rattle.std.proofs.lemmas.List.Elements.{All-push}
use Rattle.proof_laws.specs.declared.line.Line.{Line}
use Rattle.recording.specs.Advice.{IsConservative}
use Rattle.recording.proofs.advice.conservative_run.Goals as goal

pub loop-count-preserved : goal.loop-count-preserved
loop-count-preserved c =
    let xs = c.args.lines.now in
    let n = c.loop-count.count in
    let d = c.index-lines-count.result in
    let so = c.loop-count.invariant in
    let more : take (n + 1) xs ≡ take n xs ++ get_or xs n d ∷ [] = take_more xs n d (omega (arith, c.loop-count-test.true)) in
    let one : IsConservative (get_or xs n d) = subst IsConservative c.index-lines-count.is (c.is_conservative.ensures c.if-is_conservative.true) in
    record {
      bound = omega (arith, c.loop-count-test.true);
      conservative = subst (λ (ls : List Line). All IsConservative ls) (sym more)
          (All-push IsConservative (take n xs) (get_or xs n d) so.conservative one);
    }
