use Rattle.std.proofs.Common.{◌<◌, length, map, take, arith, ap, sym, subst, ◌∙◌}
use Rattle.std.proofs.lemmas.List.{get_or-map, length-map, take-append-le, take_all}
use Rattle.scut_base.specs.LiteralCode.{code_of}
use Rattle.watch_prop.specs.Codes.{IsCode}
use Rattle.watch_prop.specs.Watching.{no_literal}
use Rattle.watch_prop.proofs.WatchVisits.{on_err}
use Rattle.watch_prop.proofs.slots.push_codes.Goals as goal

pub returns-in_err-push-clause-err : goal.returns-in_err-push-clause-err
returns-in_err-push-clause-err c =
    let old = c.args.words.now.items in
    let more = map code_of (take c.loop-lit.lit-index c.args.lits.now) in
    on_err (ap (take (length old)) (c.in_err-push.ensures.items ∙ c.loop-lit.invariant.items) ∙ take-append-le (length old) old more (omega arith) ∙ take_all (length old) old (omega arith)) c.from_residual.result

pub returns-clause-codes : goal.returns-clause-codes
returns-clause-codes c =
    let lits = c.args.lits.now in
    λ k d below.
    let within : k < length lits = omega (arith, below, length-map lits code_of) in
    subst IsCode (sym (get_or-map code_of lits k no_literal d within)) (c.loop-lit.invariant.codes k (omega (arith, within, c.loop-lit-test.false)))
