use Rattle.std.specs.Prelude.{[], ◌+◌, List, length}
use Rattle.std.proofs.lemmas.Result.{IfOk-weaker}
use Rattle.hint_rup.specs.declared.hint.Hint.{Hint}
use Rattle.cdcl_trail.specs.Learning.{AreHints}
use Rattle.cdcl_state.specs.declared.reach.Reach.TheVariants.{Decisions}
use Rattle.cdcl_state.specs.Walking.{IsClosing, spare}
use Rattle.cdcl_state.proofs.Outcomes.{refuting_hints}
use Rattle.cdcl_state.proofs.walk.Walk.refute.Goals as goal

pub returns-clause-hints : goal.returns-clause-hints
returns-clause-hints c =
    let store = c.args.store.now in
    let t = c.args.trail.now in
    let marks = c.refutation-hints.new.self.on.items in
    let least = c.refutation-hints.new.self.least in
    IfOk-weaker c.refutation-hints.result (λ (hints : List Hint). IsClosing store t Decisions marks (least + spare Decisions) [] hints) (λ (hints : List Hint). AreHints store t.vars [] hints)
    (λ hints closing. refuting_hints store t marks c.refutation-hints.new.self.seen.items c.refutation-hints.new.self.places least hints c.requires.undecided c.refutation-hints.ensures.walk closing)
    c.refutation-hints.ensures.closing

pub clear-requires : goal.clear-requires
clear-requires c = (length c.args.trail.now.steps, c.refutation-hints.ensures.walk.all)
