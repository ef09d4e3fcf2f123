use Rattle.std.proofs.Common.{◌∙◌, ap, sym, refl}
use Rattle.std.specs.FinMap.{get, insert}
use Rattle.std.specs.List.{zip}
use Rattle.pb_lin.specs.LineMap.{LineMap}
use Rattle.pb_lin.proofs.LineEntries.{get_line}
use Rattle.pb_lin.proofs.LineTable.{line_missing, lines_replaced}
use Rattle.pb_lin.proofs.lines.Lines.put.Goals as goal

pub put_new-requires : goal.put_new-requires
put_new-requires c =
    let ids = c.self.inside.ids.items in
    let lines = c.self.inside.lines.items in
    ap (λ (m : LineMap). get m c.args.id) (sym c.self.view_is) ∙ get_line (zip ids lines) c.args.id
    ∙ line_missing c.self.inside.table ids lines c.args.id c.self.invariant (sym c.place.ensures.value ∙ c.in-None.is)

pub returns-in-Some-clause-ok : goal.returns-in-Some-clause-ok
returns-in-Some-clause-ok c =
    lines_replaced c.self.inside.table c.self.inside.ids.items c.self.inside.lines.items _ c.args.id c.in-Some.place c.args.c c.self.invariant (sym c.place.ensures.value ∙ c.in-Some.is) refl
    ∙ ap (λ (m : LineMap). insert m c.args.id c.args.c) c.self.view_is
