use Rattle.std.proofs.Common.{ℕ, ap, sym, ◌∙◌}
use Rattle.std.specs.Option.{is_some}
use Rattle.std.specs.List.{zip}
use Rattle.std.specs.FinMap.{get}
use Rattle.pb_lin.specs.LineMap.{LineMap}
use Rattle.pb_lin.specs.IdTable.{place_in}
use Rattle.pb_lin.proofs.LineEntries.{get_line, next_by}
use Rattle.pb_lin.proofs.LineTable.{line_missing, some_held}
use Rattle.clause_prop.proofs.store.ClauseStore.next_above.Goals as goal

pub returns : goal.returns
returns c =
    let table = c.self.inside.table in
    let ids = c.self.inside.ids.items in
    let lines = c.self.inside.lines.items in
    let held = λ (k : ℕ). ap (λ (m : LineMap). get m k) (sym c.self.view_is) ∙ get_line (zip ids lines) k in
    next_by c.next_above.result (place_in table) (get c.args.self.now) c.args.id
    (λ k none. held k ∙ line_missing table ids lines k c.self.invariant none)
    (λ k some. ap is_some (held k) ∙ some_held table ids lines k c.self.invariant some)
    c.next_above.ensures
