-- The sum of the two lines is recorded.
use Rattle.std.proofs.Common.{◌≡◌, ◌++◌, ◌∷◌, [], List, sym, subst, ◌∙◌, ap, arith}
use Rattle.std.proofs.lemmas.Result.{on_ok_weaker}
use Rattle.cutting_planes.specs.declared.token.PolToken.{PolToken}
use Rattle.proof_laws.specs.WellFormed.{IsWellFormed}
use Rattle.proof_laws.specs.declared.line.Line.TheVariants.{Pol}
use Rattle.proof_rules.specs.Recording.{MayBeAdded, IsNextId}
use Rattle.sum_outputs.specs.Totals.{definitions}
use Rattle.sum_outputs.proofs.DefinitionCounts.{definitions_push}
use Rattle.sum_outputs.proofs.LaterStates.{continues_again}
use Rattle.search_base.specs.OneBound.{IsSumFor, sum_of}
use Rattle.search_base.proofs.Recordings.{if_on, memory_handed}
use Rattle.search_base.proofs.SumLines.{sum_added, sum_is}
use Rattle.search_base.proofs.objective_bound.add_sum.Goals as goal

pub returns-in_err-tokens-clause-recorded : goal.returns-in_err-tokens-clause-recorded
returns-in_err-tokens-clause-recorded g c =
    let R = g.R.Recorder in
    let a = R.seen c.args.rec.now in
    memory_handed a a c.in_err-tokens.field-0.0 c.from_residual.result (continues_again a)
    c.in_err-tokens.ensures.fault c.from_residual.ensures.1

pub record-requires-clause-formed : goal.record-requires-clause-formed
record-requires-clause-formed g c =
    let R = g.R.Recorder in
    let a = R.seen c.args.rec.now in
    let is : c.in_ok-tokens.tokens ≡ sum_of c.args.first c.args.second = rw c.in_ok-tokens.ensures.ok at c.sum_tokens.ensures in
    subst (λ (ts : List PolToken). IsWellFormed (Pol ts)) (sym is)
    (let made = sum_is a c.state.result.now c.args.first c.args.second c.requires.ready c.vars-vars.ensures.state
    c.state.ensures.replays c.requires.fits in let may = made.2 in may.formed)

pub record-requires-clause-legal : goal.record-requires-clause-legal
record-requires-clause-legal g c =
    let R = g.R.Recorder in
    let a = R.seen c.args.rec.now in
    let is : c.in_ok-tokens.tokens ≡ sum_of c.args.first c.args.second = rw c.in_ok-tokens.ensures.ok at c.sum_tokens.ensures in
    subst (λ (ts : List PolToken). MayBeAdded a.problem a.lines (Pol ts)) (sym is)
    (let made = sum_is a c.state.result.now c.args.first c.args.second c.requires.ready c.vars-vars.ensures.state
    c.state.ensures.replays c.requires.fits in let may = made.2 in may.legal)

pub returns-clause-sum : goal.returns-clause-sum
returns-clause-sum g c =
    let R = g.R.Recorder in
    let a = R.seen c.args.rec.now in
    let b = R.seen c.record.new.rec in
    let first = c.args.first in
    let second = c.args.second in
    let is : c.in_ok-tokens.tokens ≡ sum_of first second = rw c.in_ok-tokens.ensures.ok at c.sum_tokens.ensures in
    let call = c.record.ensures in
    if_on c.record.result (b.lines ≡ a.lines ++ Pol c.in_ok-tokens.tokens ∷ []) (IsNextId a.problem a.lines)
    (IsSumFor a b first second)
    (λ line added id. sum_added a c.state.result.now first second c.requires.ready c.vars-vars.ensures.state
    c.state.ensures.replays c.requires.fits b line call.recorded.continues.problem
    (added ∙ ap (λ (ts : List PolToken). a.lines ++ Pol ts ∷ []) is) id) call.added call.id

pub returns-clause-defined : goal.returns-clause-defined
returns-clause-defined g c =
    let R = g.R.Recorder in
    let a = R.seen c.args.rec.now in
    let b = R.seen c.record.new.rec in
    on_ok_weaker c.record.result
    (λ (added : b.lines ≡ a.lines ++ Pol c.in_ok-tokens.tokens ∷ []).
    let more = definitions_push a.lines (Pol c.in_ok-tokens.tokens) in
    let all = ap definitions added in
    omega arith)
    c.record.ensures.added
