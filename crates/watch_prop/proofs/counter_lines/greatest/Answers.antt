use Rattle.std.proofs.Common.{◌≤◌, arith, subst}
use Rattle.std.specs.List.{All}
use Rattle.std.proofs.lemmas.List.{take_all}
use Rattle.pb_lin.proofs.AtPlace.{sum_place-le}
use Rattle.watch_prop.proofs.CounterLists.{all_more}
use Rattle.watch_prop.proofs.counter_lines.greatest.Goals as goal

pub loop-at-preserved : goal.loop-at-preserved
loop-at-preserved c =
    let one = sum_place-le (λ t. t.1) c.args.line.now.terms c.loop-at.at c.term.result c.term.ensures in
    let small = c.len-at-end.ensures.normal.small in
    let bound = c.loop-at.invariant.small in
    record {
      all = all_more (λ t. t.1 ≤ c.loop-at.greatest) (λ t. t.1 ≤ c.max-greatest.result) c.args.line.now.terms c.loop-at.at c.term.result (λ t le. grind (arith, c.max-greatest.ensures)) c.loop-at.invariant.all c.term.ensures (grind (arith, c.max-greatest.ensures));
      small = grind (arith, c.max-greatest.ensures);
    }

pub returns-clause-all : goal.returns-clause-all
returns-clause-all c = subst (λ ts. All (λ t. t.1 ≤ c.loop-at.greatest) ts) (take_all c.loop-at.at c.args.line.now.terms (omega (arith, c.loop-at-test.false, c.len-at-end.ensures.value))) c.loop-at.invariant.all
