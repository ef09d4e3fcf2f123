-- What is there, or none.
use Rattle.std.proofs.Common.{◌≡◌, ◌-◌, ◌<◌, List, [], length, get_or, sym, subst, ◌∙◌, arith}
use Rattle.std.specs.List.{AllPairs}
use Rattle.std.proofs.lemmas.Option.{get_or_from_slice_get}
use Rattle.cutting_planes.proofs.Terms.{Terms}
use Rattle.sum_outputs.specs.declared.sum_output.SumOutput.{SumOutput}
use Rattle.sum_outputs.proofs.LaterStates.{continues_again, recorded_ok}
use Rattle.totalizer.specs.Totalizing.{root_terms}
use Rattle.totalizer.specs.Knowing.{IsKnown}
use Rattle.totalizer.proofs.AskedTotalizer.{totalizer_of}
use Rattle.totalizer.proofs.KnownOutputs.{answered}
use Rattle.totalizer.proofs.RootOutputs.{outputs_apart}
use Rattle.totalizer.proofs.Roots.{root_is, weighty_nodes}
use Rattle.totalizer.proofs.answering.bound_at.Goals as goal

pub returns-then-total_of-k-clause-recorded : goal.returns-then-total_of-k-clause-recorded
returns-then-total_of-k-clause-recorded g c =
    let R = g.R.Recorder in
    let a = R.seen c.args.rec.now in
    recorded_ok a a _ (continues_again a) c.requires.ready.whole

pub known-requires-clause-rising : goal.known-requires-clause-rising
known-requires-clause-rising g c =
    let nodes = c.args.nodes.now in
    let made = c.args.made.now in
    let whole = c.total_of.ensures in
    let most = c.if-total_of-k.false in
    let from_one = c.requires.from_one in
    let some = weighty_nodes nodes (omega arith) in
    let os = c.as_slice-2.result.now in
    let is : os ≡ get_or made (length nodes - 1) os = c.as_slice-2.ensures
    ∙ sym (get_or_from_slice_get made (length nodes - 1) c.at.result.now os c.at.ensures) in
    let ready = c.requires.ready in
    subst (λ (ps : List SumOutput). AllPairs (λ o q. o.sum < q.sum) ps) (sym is)
    ((c.requires.fits.made ready.state ready.reached).outputs (length nodes - 1) c.index-nodes-root.result os
    (omega arith)).rising.rising

pub make-requires-clause-long : goal.make-requires-clause-long
make-requires-clause-long g c =
    let nodes = c.args.nodes.now in
    let made = c.args.made.now in
    let whole = c.total_of.ensures in
    let most = c.if-total_of-k.false in
    let from_one = c.requires.from_one in
    let some = weighty_nodes nodes (omega arith) in
    let is : c.as_slice.result.now ≡ root_terms nodes = c.as_slice.ensures
    ∙ sym (root_is nodes c.index-nodes-root.result some) in
    subst (λ (ts : Terms). 1 < length ts) is c.in-None.ensures.long

pub known-requires-clause-apart : goal.known-requires-clause-apart
known-requires-clause-apart g c =
    let R = g.R.Recorder in
    let a = R.seen c.args.rec.now in
    let nodes = c.args.nodes.now in
    let made = c.args.made.now in
    let whole = c.total_of.ensures in
    let most = c.if-total_of-k.false in
    let from_one = c.requires.from_one in
    let some = weighty_nodes nodes (omega arith) in
    let os = c.as_slice-2.result.now in
    let is : os ≡ get_or made (length nodes - 1) os = c.as_slice-2.ensures
    ∙ sym (get_or_from_slice_get made (length nodes - 1) c.at.result.now os c.at.ensures) in
    let ready = c.requires.ready in
    let n = c.index-nodes-root.result in
    let all = (c.requires.fits.made ready.state ready.reached).outputs (length nodes - 1) n os (omega arith) in
    subst (λ (ps : List SumOutput). AllPairs (λ o q. o.sum < q.from) ps) (sym is)
    (outputs_apart a ready.state (get_or nodes (length nodes - 1) n).terms (get_or made (length nodes - 1) os) all)

pub returns-in-Some-clause-recorded : goal.returns-in-Some-clause-recorded
returns-in-Some-clause-recorded g c =
    let R = g.R.Recorder in
    let a = R.seen c.args.rec.now in
    recorded_ok a a _ (continues_again a) c.requires.ready.whole

pub returns-in-Some-clause-bound : goal.returns-in-Some-clause-bound
returns-in-Some-clause-bound g c =
    let R = g.R.Recorder in
    let a = R.seen c.args.rec.now in
    let nodes = c.args.nodes.now in
    let made = c.args.made.now in
    let whole = c.total_of.ensures in
    let most = c.if-total_of-k.false in
    let from_one = c.requires.from_one in
    let some = weighty_nodes nodes (omega arith) in
    let terms : c.as_slice.result.now ≡ root_terms nodes = c.as_slice.ensures
    ∙ sym (root_is nodes c.index-nodes-root.result some) in
    let outputs : c.as_slice-2.result.now ≡ get_or made (length nodes - 1) [] = c.as_slice-2.ensures
    ∙ sym (get_or_from_slice_get made (length nodes - 1) c.at.result.now [] c.at.ensures) in
    let k = c.args.k in
    let bound = c.in-Some.bound in
    let known = subst (λ (os : List SumOutput). IsKnown (root_terms nodes) os k bound) outputs
    (subst (λ (ts : Terms). IsKnown ts c.as_slice-2.result.now k bound) terms c.in-Some.ensures) in
    let t = totalizer_of nodes made in
    let both = answered a t c.requires.fits c.requires.ready some k from_one bound (omega arith) known in
    both.0

pub returns-in-Some-clause-added : goal.returns-in-Some-clause-added
returns-in-Some-clause-added g c =
    let R = g.R.Recorder in
    let a = R.seen c.args.rec.now in
    let nodes = c.args.nodes.now in
    let made = c.args.made.now in
    let whole = c.total_of.ensures in
    let most = c.if-total_of-k.false in
    let from_one = c.requires.from_one in
    let some = weighty_nodes nodes (omega arith) in
    let terms : c.as_slice.result.now ≡ root_terms nodes = c.as_slice.ensures
    ∙ sym (root_is nodes c.index-nodes-root.result some) in
    let outputs : c.as_slice-2.result.now ≡ get_or made (length nodes - 1) [] = c.as_slice-2.ensures
    ∙ sym (get_or_from_slice_get made (length nodes - 1) c.at.result.now [] c.at.ensures) in
    let k = c.args.k in
    let bound = c.in-Some.bound in
    let known = subst (λ (os : List SumOutput). IsKnown (root_terms nodes) os k bound) outputs
    (subst (λ (ts : Terms). IsKnown ts c.as_slice-2.result.now k bound) terms c.in-Some.ensures) in
    let t = totalizer_of nodes made in
    let both = answered a t c.requires.fits c.requires.ready some k from_one bound (omega arith) known in
    both.1
