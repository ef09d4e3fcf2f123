-- What is left of the value above the offset is asked of the totalizer, and its line is that for the objective.
use mir.Val.{SFits, of_z, to_z}
use mir.Syntax.{w64, w128}
use Rattle.std.proofs.Common.{◌≡◌, ◌-ℤ◌, subst, rules, arith, ℤ}
use Rattle.std.proofs.lemmas.Int.{ints}
use Rattle.sum_outputs.proofs.LaterStates.{continues_twice, handed_err, ready_later, recorded_ok}
use Rattle.totalizer.specs.Demanding.{AddsFor}
use Rattle.totalizer.specs.Meaning.{IsBound}
use Rattle.totalizer.specs.Totalizing.{terms_of}
use Rattle.totalizer.specs.declared.bound.Bound.TheVariants.{Always, Never, At}
use Rattle.search_base.specs.CostBounds.{BoundsRow}
use Rattle.search_base.specs.OneBound.{IsOutputAt}
use Rattle.search_base.specs.declared.objective_bound.ObjectiveBound.{ObjectiveBound}
use Rattle.search_base.proofs.AskedCosts.{adds_cost, always_answer, always_over, asked_output, asked_row, at_answer, never_answer, never_over, over_at, own_literal, same_row, states_of, value_is}
use Rattle.search_base.proofs.objective_bound.ObjectiveBound.at_least.Goals as goal

-- how far the value is above the offset
abbrev above : ℤ → ℤ → ℤ
above value offset = to_z w128 (of_z w128 (to_z w128 (of_z w128 value) -ℤ to_z w128 (of_z w128 offset)))

difference : (value offset v o : ℤ) → SFits w64 value → SFits w64 offset → v ≡ to_z w64 (of_z w64 value) →
    o ≡ to_z w64 (of_z w64 offset) → above v o ≡ value -ℤ offset
difference value offset v o first second e f = omega (arith, ints)

pub objective_line-requires-clause-ready : goal.objective_line-requires-clause-ready
objective_line-requires-clause-ready g c =
    let R = g.R.Recorder in
    let a = R.seen c.args.rec.now in
    let m = R.seen c.bound_of.new.rec in
    let call = c.in_ok-bound.ensures in
    ready_later a m c.requires.ready call.recorded.continues call.recorded.whole

pub objective_line-requires-clause-fits : goal.objective_line-requires-clause-fits
objective_line-requires-clause-fits g c =
    let R = g.R.Recorder in
    let a = R.seen c.args.rec.now in
    let m = R.seen c.bound_of.new.rec in
    let o = c.args.self.now in
    let t = c.bound_of.new.totalizer in
    let k = above c.from.result c.from-2.result in
    let call = c.in_ok-bound.ensures in
    let added : AddsFor a m k o.totalizer t (At c.in-At.lit c.in-At.lower_line) =
    subst (AddsFor a m k o.totalizer t) c.in-At.is call.added in
    let row = c.requires.fits.0 in (
      row,
      asked_row c.own_lines_stay.ensures c.fitting_stays.ensures c.reform_stays.ensures a m c.requires.ready.state
          c.requires.ready.reached call.recorded.continues o t k c.bound_of.ensures.nodes call.fits c.in-At.lit c.in-At.lower_line
          added row c.requires.fits.1,
    )

pub objective_line-requires-clause-output : goal.objective_line-requires-clause-output
objective_line-requires-clause-output g c =
    let R = g.R.Recorder in
    let a = R.seen c.args.rec.now in
    let m = R.seen c.bound_of.new.rec in
    let o = c.args.self.now in
    let t = c.bound_of.new.totalizer in
    let k = above c.from.result c.from-2.result in
    let call = c.in_ok-bound.ensures in
    let added : AddsFor a m k o.totalizer t (At c.in-At.lit c.in-At.lower_line) =
    subst (AddsFor a m k o.totalizer t) c.in-At.is call.added in
    let bound : IsBound m.problem m.lines (terms_of o.totalizer) k (At c.in-At.lit c.in-At.lower_line) =
    subst (IsBound m.problem m.lines (terms_of o.totalizer) k) c.in-At.is call.bound in (
      bound.0,
      asked_output c.own_lines_stay.ensures c.fitting_stays.ensures c.reform_stays.ensures a m
          c.requires.ready.state c.requires.ready.reached call.recorded.continues o t k c.bound_of.ensures.nodes call.fits c.in-At.lit
          c.in-At.lower_line added c.requires.fits.1.terms bound,
    )

pub returns-in_err-lower_line-in-At-clause-recorded : goal.returns-in_err-lower_line-in-At-clause-recorded
returns-in_err-lower_line-in-At-clause-recorded g c =
    let R = g.R.Recorder in
    let a = R.seen c.args.rec.now in
    let m = R.seen c.bound_of.new.rec in
    let b = R.seen c.objective_line.new.rec in
    let out = c.from_residual-in_err-lower_line-in-At in
    handed_err a m b c.in_err-lower_line-in-At.field-0.0 out.result c.in_ok-bound.ensures.recorded.continues
    c.in_err-lower_line-in-At.ensures.recorded out.ensures.1

pub returns-in-Always-clause-bound : goal.returns-in-Always-clause-bound
returns-in-Always-clause-bound g c =
    let R = g.R.Recorder in
    let a = R.seen c.args.rec.now in
    let m = R.seen c.bound_of.new.rec in
    let o = c.args.self.now in
    let t = c.bound_of.new.totalizer in
    let k = above c.from.result c.from-2.result in
    let call = c.in_ok-bound.ensures in
    let in_range : SFits w64 o.reform.offset = search rules in
    let same : k ≡ c.args.value -ℤ o.reform.offset =
    difference c.args.value o.reform.offset c.from.result c.from-2.result c.ranges.value in_range c.from.ensures
    c.from-2.ensures in
    let bound : IsBound m.problem m.lines (terms_of o.totalizer) k (Always c.in-Always.lower_line) =
    subst (IsBound m.problem m.lines (terms_of o.totalizer) k) c.in-Always.is call.bound in
    let added : AddsFor a m k o.totalizer t (Always c.in-Always.lower_line) =
    subst (AddsFor a m k o.totalizer t) c.in-Always.is call.added in
    let low = (always_answer o m c.args.value k same c.requires.fits.1.terms c.in-Always.lower_line bound).0 in
    λ row is.
    always_over m row (record { reform = o.reform; totalizer = t; objective_lines = o.objective_lines })
    (same_row c.own_lines_stay.ensures c.fitting_stays.ensures c.reform_stays.ensures a m c.requires.ready.state
    c.requires.ready.reached call.recorded.continues o t k c.bound_of.ensures.nodes call.fits row added.1 is) c.args.value low
    (states_of m c.state.result.now c.state.ensures.replays c.vars-vars.ensures.state)

pub returns-in-Always-clause-answer : goal.returns-in-Always-clause-answer
returns-in-Always-clause-answer g c =
    let R = g.R.Recorder in
    let m = R.seen c.bound_of.new.rec in
    let o = c.args.self.now in
    let k = above c.from.result c.from-2.result in
    let in_range : SFits w64 o.reform.offset = search rules in
    let same : k ≡ c.args.value -ℤ o.reform.offset =
    difference c.args.value o.reform.offset c.from.result c.from-2.result c.ranges.value in_range c.from.ensures
    c.from-2.ensures in
    let bound : IsBound m.problem m.lines (terms_of o.totalizer) k (Always c.in-Always.lower_line) =
    subst (IsBound m.problem m.lines (terms_of o.totalizer) k) c.in-Always.is c.in_ok-bound.ensures.bound in
    always_answer o m c.args.value k same c.requires.fits.1.terms c.in-Always.lower_line bound

pub returns-in-Always-clause-fits : goal.returns-in-Always-clause-fits
returns-in-Always-clause-fits g c =
    let R = g.R.Recorder in
    let a = R.seen c.args.rec.now in
    let m = R.seen c.bound_of.new.rec in
    let o = c.args.self.now in
    let t = c.bound_of.new.totalizer in
    let k = above c.from.result c.from-2.result in
    let call = c.in_ok-bound.ensures in
    let added : AddsFor a m k o.totalizer t (Always c.in-Always.lower_line) =
    subst (AddsFor a m k o.totalizer t) c.in-Always.is call.added in
    λ row is.
    same_row c.own_lines_stay.ensures c.fitting_stays.ensures c.reform_stays.ensures a m c.requires.ready.state
    c.requires.ready.reached call.recorded.continues o t k c.bound_of.ensures.nodes call.fits row added.1 is

pub returns-in-Never-clause-bound : goal.returns-in-Never-clause-bound
returns-in-Never-clause-bound g c =
    let R = g.R.Recorder in
    let a = R.seen c.args.rec.now in
    let m = R.seen c.bound_of.new.rec in
    let o = c.args.self.now in
    let t = c.bound_of.new.totalizer in
    let k = above c.from.result c.from-2.result in
    let call = c.in_ok-bound.ensures in
    let in_range : SFits w64 o.reform.offset = search rules in
    let same : k ≡ c.args.value -ℤ o.reform.offset =
    difference c.args.value o.reform.offset c.from.result c.from-2.result c.ranges.value in_range c.from.ensures
    c.from-2.ensures in
    let bound : IsBound m.problem m.lines (terms_of o.totalizer) k Never =
    subst (IsBound m.problem m.lines (terms_of o.totalizer) k) c.in-Never.is call.bound in
    let added : AddsFor a m k o.totalizer t Never = subst (AddsFor a m k o.totalizer t) c.in-Never.is call.added in
    let high = never_answer o m c.args.value k same c.requires.fits.1.terms bound in
    λ row is.
    never_over m row (record { reform = o.reform; totalizer = t; objective_lines = o.objective_lines })
    (same_row c.own_lines_stay.ensures c.fitting_stays.ensures c.reform_stays.ensures a m c.requires.ready.state
    c.requires.ready.reached call.recorded.continues o t k c.bound_of.ensures.nodes call.fits row added.1 is) c.args.value high

pub returns-in-Never-clause-answer : goal.returns-in-Never-clause-answer
returns-in-Never-clause-answer g c =
    let R = g.R.Recorder in
    let m = R.seen c.bound_of.new.rec in
    let o = c.args.self.now in
    let k = above c.from.result c.from-2.result in
    let in_range : SFits w64 o.reform.offset = search rules in
    let same : k ≡ c.args.value -ℤ o.reform.offset =
    difference c.args.value o.reform.offset c.from.result c.from-2.result c.ranges.value in_range c.from.ensures
    c.from-2.ensures in
    let bound : IsBound m.problem m.lines (terms_of o.totalizer) k Never =
    subst (IsBound m.problem m.lines (terms_of o.totalizer) k) c.in-Never.is c.in_ok-bound.ensures.bound in
    never_answer o m c.args.value k same c.requires.fits.1.terms bound

pub returns-in-Never-clause-fits : goal.returns-in-Never-clause-fits
returns-in-Never-clause-fits g c =
    let R = g.R.Recorder in
    let a = R.seen c.args.rec.now in
    let m = R.seen c.bound_of.new.rec in
    let o = c.args.self.now in
    let t = c.bound_of.new.totalizer in
    let k = above c.from.result c.from-2.result in
    let call = c.in_ok-bound.ensures in
    let added : AddsFor a m k o.totalizer t Never = subst (AddsFor a m k o.totalizer t) c.in-Never.is call.added in
    λ row is.
    same_row c.own_lines_stay.ensures c.fitting_stays.ensures c.reform_stays.ensures a m c.requires.ready.state
    c.requires.ready.reached call.recorded.continues o t k c.bound_of.ensures.nodes call.fits row added.1 is

pub returns-in_ok-lower_line-in-At-clause-recorded : goal.returns-in_ok-lower_line-in-At-clause-recorded
returns-in_ok-lower_line-in-At-clause-recorded g c =
    let R = g.R.Recorder in
    let a = R.seen c.args.rec.now in
    let m = R.seen c.bound_of.new.rec in
    let b = R.seen c.objective_line.new.rec in
    let call = c.in_ok-lower_line-in-At.ensures in
    recorded_ok a b (At c.in-At.lit c.in_ok-lower_line-in-At.lower_line)
    (continues_twice a m b c.in_ok-bound.ensures.recorded.continues call.recorded.continues) call.recorded.whole

pub returns-in_ok-lower_line-in-At-clause-bound : goal.returns-in_ok-lower_line-in-At-clause-bound
returns-in_ok-lower_line-in-At-clause-bound g c =
    let R = g.R.Recorder in
    let a = R.seen c.args.rec.now in
    let m = R.seen c.bound_of.new.rec in
    let b = R.seen c.objective_line.new.rec in
    let o = c.args.self.now in
    let t = c.bound_of.new.totalizer in
    let k = above c.from.result c.from-2.result in
    let call = c.in_ok-bound.ensures in
    let l = c.in-At.lit in
    let id = c.in-At.lower_line in
    let in_range : SFits w64 o.reform.offset = search rules in
    let same : k ≡ c.args.value -ℤ o.reform.offset =
    difference c.args.value o.reform.offset c.from.result c.from-2.result c.ranges.value in_range c.from.ensures
    c.from-2.ensures in
    let bound : IsBound m.problem m.lines (terms_of o.totalizer) k (At l id) =
    subst (IsBound m.problem m.lines (terms_of o.totalizer) k) c.in-At.is call.bound in
    let added : AddsFor a m k o.totalizer t (At l id) = subst (AddsFor a m k o.totalizer t) c.in-At.is call.added in
    let asked : ObjectiveBound = record { reform = o.reform; totalizer = t; objective_lines = o.objective_lines } in
    let out : IsOutputAt m asked bound.0 l id =
    asked_output c.own_lines_stay.ensures c.fitting_stays.ensures c.reform_stays.ensures a m c.requires.ready.state
    c.requires.ready.reached call.recorded.continues o t k c.bound_of.ensures.nodes call.fits l id added c.requires.fits.1.terms
    bound in
    let made = c.in_ok-lower_line-in-At.ensures in
    λ row is.
    let now : BoundsRow m row asked =
    asked_row c.own_lines_stay.ensures c.fitting_stays.ensures c.reform_stays.ensures a m c.requires.ready.state
    c.requires.ready.reached call.recorded.continues o t k c.bound_of.ensures.nodes call.fits l id added row is in
    over_at m row asked now c.args.value b c.state.result.now made.recorded.continues c.state.ensures.replays bound.0 l id
    c.in_ok-lower_line-in-At.lower_line out (value_is c.args.value k o.reform.offset bound.0 same bound.1)
    (made.covers row bound.0 now out)

pub returns-in_ok-lower_line-in-At-clause-answer : goal.returns-in_ok-lower_line-in-At-clause-answer
returns-in_ok-lower_line-in-At-clause-answer g c =
    let R = g.R.Recorder in
    let m = R.seen c.bound_of.new.rec in
    let o = c.args.self.now in
    let k = above c.from.result c.from-2.result in
    let in_range : SFits w64 o.reform.offset = search rules in
    let same : k ≡ c.args.value -ℤ o.reform.offset =
    difference c.args.value o.reform.offset c.from.result c.from-2.result c.ranges.value in_range c.from.ensures
    c.from-2.ensures in
    let bound : IsBound m.problem m.lines (terms_of o.totalizer) k (At c.in-At.lit c.in-At.lower_line) =
    subst (IsBound m.problem m.lines (terms_of o.totalizer) k) c.in-At.is c.in_ok-bound.ensures.bound in
    at_answer o m c.args.value k same c.requires.fits.1.terms c.in-At.lit c.in-At.lower_line
    c.in_ok-lower_line-in-At.lower_line bound

pub returns-in_ok-lower_line-in-At-clause-literal : goal.returns-in_ok-lower_line-in-At-clause-literal
returns-in_ok-lower_line-in-At-clause-literal g c =
    let R = g.R.Recorder in
    let a = R.seen c.args.rec.now in
    let m = R.seen c.bound_of.new.rec in
    let o = c.args.self.now in
    let t = c.bound_of.new.totalizer in
    let k = above c.from.result c.from-2.result in
    let call = c.in_ok-bound.ensures in
    let l = c.in-At.lit in
    let id = c.in-At.lower_line in
    let bound : IsBound m.problem m.lines (terms_of o.totalizer) k (At l id) =
    subst (IsBound m.problem m.lines (terms_of o.totalizer) k) c.in-At.is call.bound in
    let added : AddsFor a m k o.totalizer t (At l id) = subst (AddsFor a m k o.totalizer t) c.in-At.is call.added in
    let asked : ObjectiveBound = record { reform = o.reform; totalizer = t; objective_lines = o.objective_lines } in
    let out : IsOutputAt m asked bound.0 l id =
    asked_output c.own_lines_stay.ensures c.fitting_stays.ensures c.reform_stays.ensures a m c.requires.ready.state
    c.requires.ready.reached call.recorded.continues o t k c.bound_of.ensures.nodes call.fits l id added c.requires.fits.1.terms
    bound in
    let row = c.requires.fits.0 in
    let now : BoundsRow m row asked =
    asked_row c.own_lines_stay.ensures c.fitting_stays.ensures c.reform_stays.ensures a m c.requires.ready.state
    c.requires.ready.reached call.recorded.continues o t k c.bound_of.ensures.nodes call.fits l id added row c.requires.fits.1 in
    own_literal m c.state.result.now c.state.ensures.replays row asked c.objective_line.new.self bound.0 l id
    c.in_ok-lower_line-in-At.lower_line now out c.objective_line.ensures.kept

pub returns-in_ok-lower_line-in-At-clause-added : goal.returns-in_ok-lower_line-in-At-clause-added
returns-in_ok-lower_line-in-At-clause-added g c =
    let R = g.R.Recorder in
    let a = R.seen c.args.rec.now in
    let m = R.seen c.bound_of.new.rec in
    let b = R.seen c.objective_line.new.rec in
    let o = c.args.self.now in
    let t = c.bound_of.new.totalizer in
    let k = above c.from.result c.from-2.result in
    let call = c.in_ok-bound.ensures in
    let l = c.in-At.lit in
    let id = c.in-At.lower_line in
    let in_range : SFits w64 o.reform.offset = search rules in
    let same : k ≡ c.args.value -ℤ o.reform.offset =
    difference c.args.value o.reform.offset c.from.result c.from-2.result c.ranges.value in_range c.from.ensures
    c.from-2.ensures in
    let added : AddsFor a m k o.totalizer t (At l id) = subst (AddsFor a m k o.totalizer t) c.in-At.is call.added in
    adds_cost c.own_lines_stay.ensures c.fitting_stays.ensures c.reform_stays.ensures a m c.requires.ready.state
    c.requires.ready.reached call.recorded.continues o t k c.bound_of.ensures.nodes call.fits l id added b c.objective_line.new.self
    c.args.value c.in_ok-lower_line-in-At.lower_line same c.objective_line.ensures.kept c.in_ok-lower_line-in-At.ensures.added

pub returns-in_ok-lower_line-in-At-clause-fits : goal.returns-in_ok-lower_line-in-At-clause-fits
returns-in_ok-lower_line-in-At-clause-fits g c =
    let R = g.R.Recorder in
    let a = R.seen c.args.rec.now in
    let m = R.seen c.bound_of.new.rec in
    let o = c.args.self.now in
    let t = c.bound_of.new.totalizer in
    let k = above c.from.result c.from-2.result in
    let call = c.in_ok-bound.ensures in
    let l = c.in-At.lit in
    let id = c.in-At.lower_line in
    let added : AddsFor a m k o.totalizer t (At l id) = subst (AddsFor a m k o.totalizer t) c.in-At.is call.added in
    let asked : ObjectiveBound = record { reform = o.reform; totalizer = t; objective_lines = o.objective_lines } in
    λ row is.
    let now : BoundsRow m row asked =
    asked_row c.own_lines_stay.ensures c.fitting_stays.ensures c.reform_stays.ensures a m c.requires.ready.state
    c.requires.ready.reached call.recorded.continues o t k c.bound_of.ensures.nodes call.fits l id added row is in
    c.in_ok-lower_line-in-At.ensures.fits row now
