use Rattle.std.proofs.Common.{◌≡◌, length, None, Some, ◌∙◌, ap, sym, arith}
use Rattle.std.specs.FinMap.{get, insert}
use Rattle.std.specs.List.{zip}
use Rattle.std.proofs.lemmas.List.{length_push}
use Rattle.pb_lin.specs.IdTable.{place_in}
use Rattle.pb_lin.specs.LineMap.{LineMap}
use Rattle.pb_lin.proofs.LineEntries.{get_line}
use Rattle.pb_lin.proofs.LineTable.{none_held, places_undone, places_pushed, lines_pushed}
use Rattle.clause_prop.proofs.store.ClauseStore.put_line.Goals as goal

pub invariant_of-self-in-Err : goal.invariant_of-self-in-Err
invariant_of-self-in-Err c =
    let table = c.self.inside.table in
    let ids = c.self.inside.ids.items in
    let lines = c.self.inside.lines.items in
    let free = none_held table ids lines c.args.id c.self.invariant (sym (get_line (zip ids lines) c.args.id) ∙ ap (λ (m : LineMap). get m c.args.id) c.self.view_is ∙ c.requires) in
    rw (c.in-Err.ensures.same_ids, c.in-Err.ensures.same_lines)
    (places_undone table c.insert.new.self c.remove.new.self ids (length lines) c.args.id c.self.invariant free c.insert.ensures.others c.remove.ensures.gone c.remove.ensures.others)

-- so many constraints stand before the new one
found : (c : goal.In_default) → place_in c.insert.new.self c.args.id ≡ Some (length c.self.inside.lines.items)
found c = let count : c.len-place.result ≡ length c.self.inside.lines.items = omega (arith, c.len-place.ensures) in c.in_ok-insert.ensures.found ∙ ap Some count

free : (c : goal.In_default) → place_in c.self.inside.table c.args.id ≡ None
free c =
    let ids = c.self.inside.ids.items in
    let lines = c.self.inside.lines.items in
    none_held c.self.inside.table ids lines c.args.id c.self.invariant (sym (get_line (zip ids lines) c.args.id) ∙ ap (λ (m : LineMap). get m c.args.id) c.self.view_is ∙ c.requires)

pub invariant_of-self-in_default : goal.invariant_of-self-in_default
invariant_of-self-in_default c =
    let lines = c.self.inside.lines.items in
    let pushed = places_pushed c.self.inside.table c.insert.new.self c.self.inside.ids.items (length lines) c.args.id c.self.invariant (free c) (found c) c.insert.ensures.others in
    rw (c.in_default.ensures.ids, c.in_default.ensures.lines, length_push lines c.args.line) pushed

pub returns-clause-ok : goal.returns-clause-ok
returns-clause-ok c =
    lines_pushed c.self.inside.table c.insert.new.self c.self.inside.ids.items c.push_line.new.ids.items c.self.inside.lines.items c.push_line.new.lines.items c.args.id c.args.line
    c.self.invariant (invariant_of-self-in_default c) (found c) c.insert.ensures.others c.in_default.ensures.lines
    ∙ ap (λ (m : LineMap). insert m c.args.id c.args.line) c.self.view_is
