-- What a clause leaves of a recorder, and what it says.
use Rattle.std.proofs.Common.{◌≡◌, ◌++◌, ◌∷◌, [], List, ℕ, ◌+◌, ◌-◌, ap, sym, subst, ◌∙◌, arith}
use Rattle.cutting_planes.specs.declared.token.PolToken.{PolToken}
use Rattle.proof_laws.specs.declared.line.Line.TheVariants.{Pol}
use Rattle.proof_laws.specs.WellFormed.{AreTokens}
use Rattle.proof_rules.specs.Recording.{MayBeAdded}
use Rattle.sum_outputs.specs.ClauseTokens.{clause_tokens}
use Rattle.sum_outputs.proofs.TokenLists.{lowers_of}
use Rattle.sum_outputs.specs.Totals.{definitions}
use Rattle.sum_outputs.proofs.LaterStates.{continues_again, recorded_ok}
use Rattle.sum_outputs.proofs.ClauseCalls.{adds_err, adds_memory}
use Rattle.sum_outputs.proofs.ImplyLines.{imply_tokens, sums_small, imply_formed, imply_legal, imply_says}
use Rattle.sum_outputs.proofs.DefinitionCounts.{definitions_push}
use Rattle.sum_outputs.proofs.clause.add_clause.Goals as goal

pub sum_of-requires : goal.sum_of-requires
sum_of-requires g c =
    let R = g.R.Recorder in
    let a = R.seen c.args.rec.now in
    sums_small a c.state.result.now c.vars-vars.ensures.state c.state.ensures.replays c.args.parts.now c.args.weakened.now c.args.target (c.requires.parts c.state.result.now c.state.ensures.replays)

pub overflow_add-degree : goal.overflow_add-degree
overflow_add-degree g c =
    let R = g.R.Recorder in
    let a = R.seen c.args.rec.now in
    let small = sums_small a c.state.result.now c.vars-vars.ensures.state c.state.ensures.replays c.args.parts.now c.args.weakened.now c.args.target (c.requires.parts c.state.result.now c.state.ensures.replays) in
    let is = c.sum_of.ensures in
    omega arith

pub returns-in_err-tokens : goal.returns-in_err-tokens
returns-in_err-tokens g c =
    let R = g.R.Recorder in
    let a = R.seen c.args.rec.now in
    adds_memory a a c.from_residual.result _ (continues_again a) c.from_residual.ensures.1

pub record-requires-clause-formed : goal.record-requires-clause-formed
record-requires-clause-formed g c =
    let R = g.R.Recorder in
    let a = R.seen c.args.rec.now in
    let can = c.requires.parts c.state.result.now c.state.ensures.replays in
    let tokens_are : c.in_ok-tokens.tokens ≡ imply_tokens a c.state.result.now c.vars-vars.ensures.state c.state.ensures.replays c.args.parts.now c.args.weakened.now c.args.target can =
    c.in_ok-tokens.ensures
    ∙ ap (λ (n : ℕ). clause_tokens (lowers_of c.args.parts.now) c.args.target.upper c.args.weakened.now ((n + 1) - c.args.target.sum)) c.sum_of.ensures in
    subst (λ (ts : List PolToken). AreTokens ts) (sym tokens_are) (imply_formed a c.state.result.now c.vars-vars.ensures.state c.state.ensures.replays c.args.parts.now c.args.weakened.now c.args.target can)

pub record-requires-clause-legal : goal.record-requires-clause-legal
record-requires-clause-legal g c =
    let R = g.R.Recorder in
    let a = R.seen c.args.rec.now in
    let can = c.requires.parts c.state.result.now c.state.ensures.replays in
    let tokens_are : c.in_ok-tokens.tokens ≡ imply_tokens a c.state.result.now c.vars-vars.ensures.state c.state.ensures.replays c.args.parts.now c.args.weakened.now c.args.target can =
    c.in_ok-tokens.ensures
    ∙ ap (λ (n : ℕ). clause_tokens (lowers_of c.args.parts.now) c.args.target.upper c.args.weakened.now ((n + 1) - c.args.target.sum)) c.sum_of.ensures in
    subst (λ (ts : List PolToken). MayBeAdded a.problem a.lines (Pol ts)) (sym tokens_are) (imply_legal a c.state.result.now c.vars-vars.ensures.state c.state.ensures.replays c.args.parts.now c.args.weakened.now c.args.target can c.requires.ready)

pub returns-in_err-_id : goal.returns-in_err-_id
returns-in_err-_id g c =
    let R = g.R.Recorder in
    let a = R.seen c.args.rec.now in
    adds_err a a (R.seen c.record.new.rec) c.in_err-_id.field-0.0 c.from_residual-in_err-_id.result _ (continues_again a) c.in_err-_id.ensures.recorded c.from_residual-in_err-_id.ensures.1

pub returns : goal.returns
returns g c =
    let R = g.R.Recorder in
    let a = R.seen c.args.rec.now in
    let can = c.requires.parts c.state.result.now c.state.ensures.replays in
    let tokens_are : c.in_ok-tokens.tokens ≡ imply_tokens a c.state.result.now c.vars-vars.ensures.state c.state.ensures.replays c.args.parts.now c.args.weakened.now c.args.target can =
    c.in_ok-tokens.ensures
    ∙ ap (λ (n : ℕ). clause_tokens (lowers_of c.args.parts.now) c.args.target.upper c.args.weakened.now ((n + 1) - c.args.target.sum)) c.sum_of.ensures in
    let b = R.seen c.record.new.rec in
    let call = c.in_ok-_id.ensures in
    let more = ap definitions call.added ∙ definitions_push a.lines (Pol c.in_ok-tokens.tokens) in
    record {
      recorded = recorded_ok a b tt call.recorded.continues call.recorded.whole;
      says = imply_says a c.state.result.now c.vars-vars.ensures.state c.state.ensures.replays c.args.parts.now c.args.weakened.now c.args.target can b call.recorded.continues.problem
          (call.added ∙ ap (λ (ts : List PolToken). a.lines ++ Pol ts ∷ []) tokens_are);
      defines_none = omega arith;
    }
