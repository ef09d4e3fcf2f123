-- The run is one longer.
use Rattle.std.proofs.Common.{ℕ, ◌+◌, List, sym, subst, refl, arith}
use Rattle.sum_outputs.specs.Sums.{IsLeastOf, IsRun}
use Rattle.sum_outputs.proofs.Runs.{run_push}
use Rattle.sum_outputs.proofs.falling.new_sums.Goals as goal

pub loop-end-preserved : goal.loop-end-preserved
loop-end-preserved c =
    let node = c.args.node.now in
    let next = c.least_sum-next.result in
    record {
      run = subst (λ (ss : List (ℕ × ℕ)). IsRun node c.args.k c.args.last ss next) (sym c.in_ok-push.ensures.ok)
          (run_push node c.args.k c.args.last c.loop-end.sums c.loop-end.end (_, next) c.loop-end.invariant.run refl (let less = c.loop-end-test.true in omega arith)
          (subst (λ (n : ℕ). IsLeastOf node.first.outputs.now node.second.outputs.now (c.loop-end.end + 1) n next) node.total c.least_sum-next.ensures));
      most = c.least_sum-next.ensures.most;
    }
