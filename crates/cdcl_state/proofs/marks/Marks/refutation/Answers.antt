use Rattle.std.specs.Prelude.{[], ◌+◌, List}
use Rattle.std.proofs.Common.{◌∙◌, sym, subst}
use Rattle.hint_rup.specs.declared.hint.Hint.{Hint}
use Rattle.cdcl_state.specs.declared.reach.Reach.TheVariants.{Decisions}
use Rattle.cdcl_state.specs.Walking.{IsClosing, spare}
use Rattle.cdcl_state.proofs.marks.Marks.refutation.Goals as goal

pub returns-clause-closing : goal.returns-clause-closing
returns-clause-closing c =
    subst (λ (hs : List Hint). IsClosing c.args.store.now c.args.trail.now Decisions c.trace.new.self.on.items (c.trace.new.self.least + spare Decisions) [] hs) (sym (c.from_vec.ensures ∙ c.reverse.ensures.items))
    (c.in_ok-hints.ensures).closing
