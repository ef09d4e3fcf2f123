use Rattle.std.proofs.Common.{◌∙◌, ap, sym, Some}
use Rattle.std.specs.FinMap.{get}
use Rattle.std.specs.List.{zip}
use Rattle.pb_lin.specs.LineMap.{LineMap}
use Rattle.pb_lin.proofs.LineEntries.{get_line}
use Rattle.pb_lin.proofs.LineTable.{line_held, line_missing}
use Rattle.clause_prop.proofs.store.ClauseStore.get.Goals as goal

pub returns-in-Some : goal.returns-in-Some
returns-in-Some c =
    let ids = c.self.inside.ids.items in
    let lines = c.self.inside.lines.items in
    ap (λ (m : LineMap). get m c.args.id) (sym c.self.view_is) ∙ get_line (zip ids lines) c.args.id
    ∙ line_held c.self.inside.table ids lines c.args.id c.in-Some.place c.index.result.now c.self.invariant (sym c.place.ensures.value ∙ c.in-Some.is) ∙ ap Some (sym c.index.ensures)

pub returns-in-None : goal.returns-in-None
returns-in-None c =
    let ids = c.self.inside.ids.items in
    let lines = c.self.inside.lines.items in
    ap (λ (m : LineMap). get m c.args.id) (sym c.self.view_is) ∙ get_line (zip ids lines) c.args.id
    ∙ line_missing c.self.inside.table ids lines c.args.id c.self.invariant (sym c.place.ensures.value ∙ c.in-None.is)
