use Rattle.std.proofs.Common.{◌≡◌, [], ◌∷◌, ◌++◌, map, refl, ap, sym, ◌∙◌, subst}
use Rattle.std.specs.Prelude.{fold}
use Rattle.std.specs.FinMap.{remove}
use Rattle.proof_laws.specs.WellFormed.{IsWellFormed}
use Rattle.proof_laws.specs.declared.line.Line.{Line}
use Rattle.proof_rules.specs.Recording.{MayBeAdded}
use Rattle.cdcl_laws.specs.StoredLines.{deleted}
use Rattle.cdcl_core.specs.Ledgers.{LedgerValue, ledger_after, with_ids}
use Rattle.cdcl_core.specs.declared.ledger.LearnedClause.{LearnedClause}
use Rattle.cdcl_core.proofs.ReducedLine.{at_work, formed, legal}
use Rattle.cdcl_core.proofs.ReducedSolver.{learns_reduced, names_inside, part_inside, reducible_inside, steps_reduced}
use Rattle.cdcl_core.proofs.Working.{done_working, learns_unchanged, steps_unchanged}
use Rattle.cdcl_core.proofs.solver.Solver.reduce_by.Goals as goal

pub record-requires-clause-formed : goal.record-requires-clause-formed
record-requires-clause-formed g c =
    let names = c.requires.names in
    subst IsWellFormed (sym names.is) (formed g.R.Recorder.seen _ names.named c.requires.working names.part names.live names.some)

pub record-requires-clause-legal : goal.record-requires-clause-legal
record-requires-clause-legal g c =
    let can = reducible_inside g.R.Recorder.seen _ _ c.self.view_is c.requires.working c.requires.last c.requires.due in
    let names = names_inside c.args.line.now _ _ c.self.view_is c.requires.names in
    let before = g.R.Recorder.seen c.self.inside.recorder in
    subst (λ (l : Line). MayBeAdded before.problem before.lines l) (sym names.is)
    (legal g.R.Recorder.seen _ names.named can.work names.part names.live)

pub returns-in_err-record-clause-steps : goal.returns-in_err-record-clause-steps
returns-in_err-record-clause-steps g c = steps_unchanged g.R.Recorder.seen _ _ _ c.self.view_is refl refl c.in_err-record.ensures.keeps c.in_err-record.ensures.same c.requires.working

pub returns-in_err-record-clause-learns : goal.returns-in_err-record-clause-learns
returns-in_err-record-clause-learns g c = learns_unchanged g.R.Recorder.seen _ _ _ c.self.view_is c.in_err-record.ensures.same

pub returns-clause-working : goal.returns-clause-working
returns-clause-working g c =
    let can = reducible_inside g.R.Recorder.seen _ _ c.self.view_is c.requires.working c.requires.last c.requires.due in
    let names = names_inside c.args.line.now _ _ c.self.view_is c.requires.names in
    let part = part_inside _ _ _ c.self.view_is c.requires.kept in
    let before = (g.R.Recorder.seen c.self.inside.recorder).lines in
    let after = (g.R.Recorder.seen c.record.new.recorder).lines in
    let added = subst (λ (l : Line). after ≡ before ++ l ∷ []) names.is c.in_ok-record.ensures.added in
    let store = subst (λ (l : Line). c.drop_deleted.new.search.store ≡ fold remove c.self.inside.search.store (deleted l)) names.is
    c.drop_deleted.ensures.store in
    let kept = map (λ (x : LearnedClause). x.id) c.args.kept in
    let noted = c.note.ensures ∙ ap (ledger_after c.self.inside.ledger) names.is in
    let is = c.keep.ensures ∙ ap (λ (ledger : LedgerValue). with_ids ledger kept) noted in
    at_work g.R.Recorder.seen _ names.named can.work names.part names.live _ added can.last can.due _ c.state.result.now kept
    c.in_ok-record.ensures.whole c.in_ok-record.ensures.keeps.problem refl c.state.ensures.replays c.vars-vars.ensures.state store c.drop_deleted.ensures.vars
    part is refl

pub returns-clause-ends : goal.returns-clause-ends
returns-clause-ends g c = done_working g.R.Recorder.seen _ (returns-clause-working g c)

pub returns-clause-steps : goal.returns-clause-steps
returns-clause-steps g c =
    let can = reducible_inside g.R.Recorder.seen _ _ c.self.view_is c.requires.working c.requires.last c.requires.due in
    let names = names_inside c.args.line.now _ _ c.self.view_is c.requires.names in
    let before = (g.R.Recorder.seen c.self.inside.recorder).lines in
    let after = (g.R.Recorder.seen c.record.new.recorder).lines in
    let added = subst (λ (l : Line). after ≡ before ++ l ∷ []) names.is c.in_ok-record.ensures.added in
    steps_reduced g.R.Recorder.seen _ _ _ _ c.self.view_is can names.part names.live c.in_ok-record.ensures.keeps added refl refl

pub returns-clause-learns : goal.returns-clause-learns
returns-clause-learns g c =
    let can = reducible_inside g.R.Recorder.seen _ _ c.self.view_is c.requires.working c.requires.last c.requires.due in
    let names = names_inside c.args.line.now _ _ c.self.view_is c.requires.names in
    let before = (g.R.Recorder.seen c.self.inside.recorder).lines in
    let after = (g.R.Recorder.seen c.record.new.recorder).lines in
    let added = subst (λ (l : Line). after ≡ before ++ l ∷ []) names.is c.in_ok-record.ensures.added in
    learns_reduced g.R.Recorder.seen _ _ _ _ c.self.view_is can names.part names.live added
