use Rattle.std.proofs.Common.{length, refl, arith, ap, sym, subst, inl, inr}
use Rattle.scut_base.specs.LiteralCode.{code_of}
use Rattle.pb_lin.specs.Constraint.{opposite}
use Rattle.watch_prop.specs.Watching.{IsEntry, clause_at, lits_of}
use Rattle.watch_prop.proofs.WatchLists.{contains_at}
use Rattle.watch_prop.proofs.WatchSteps.{others_of_two}
use Rattle.watch_prop.proofs.watches.Watches.force_blocker.Goals as goal

pub force-requires-clause-slot : goal.force-requires-clause-slot
force-requires-clause-slot c =
    let w = c.args.self.now in
    let n = c.args.trail.now.vars in
    let code = code_of c.args.lit in
    let e : IsEntry w.slots n code c.args.entry = subst (IsEntry w.slots n code) (sym c.requires.entry) (c.requires.looking.kept.entries code c.args.at c.requires.within) in
    e.there

pub force-requires-clause-others : goal.force-requires-clause-others
force-requires-clause-others c =
    let w = c.args.self.now in
    let n = c.args.trail.now.vars in
    let lit = c.args.lit in
    let code = code_of lit in
    let trail = lits_of c.args.trail.now.steps in
    let looking = c.requires.looking in
    let two = c.requires.two in
    let e : IsEntry w.slots n code c.args.entry = subst (IsEntry w.slots n code) (sym c.requires.entry) (looking.kept.entries code c.args.at c.requires.within) in
    let blocker = c.args.entry.blocker in
    others_of_two (clause_at w.slots c.args.entry.slot) trail lit blocker two (e.among lit (inr refl) (omega (arith, two))) (e.among blocker (inl refl) (omega (arith, two))) (λ f. e.other (ap code_of f)) (contains_at trail (length w.ends.items) (opposite lit) looking.more looking.here)
