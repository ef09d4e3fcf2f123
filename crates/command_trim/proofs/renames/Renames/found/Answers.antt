use Rattle.std.proofs.Common.{◌≡◌, ◌≤◌, ◌<◌, ◌+◌, ◌-◌, Some, get_or, length, sym, ap, ◌∙◌, arith, rules}
use Rattle.std.proofs.lemmas.List.{get_or_past}
use Rattle.std.proofs.lemmas.Option.{get_or_from_slice_get}
use Rattle.command_trim.proofs.NewIds.{found_from, none_below, some_of, some_of_other}
use Rattle.command_trim.proofs.renames.Renames.found.Goals as goal

pub returns-then-id-self : goal.returns-then-id-self
returns-then-id-self c =
    let low : c.args.id ≤ c.args.self.now.rows = search rules in
    sym (none_below (c.args.self.now.rows + 1) c.args.self.now.table c.args.id (omega (arith, low)))

pub returns-in-Some : goal.returns-in-Some
returns-in-Some c =
    let high : c.args.self.now.rows < c.args.id = search rules in
    let place : c.args.id - c.args.self.now.rows - 1 ≡ c.args.id - (c.args.self.now.rows + 1) = omega arith in
    let some : get_or c.args.self.now.table (c.args.id - (c.args.self.now.rows + 1)) 0 ≡ c.in-Some.new.now =
    ap (λ k. get_or c.args.self.now.table k 0) (sym place) ∙ get_or_from_slice_get c.args.self.now.table (c.args.id - c.args.self.now.rows - 1) c.in-Some.new.now 0 (search rules) in
    let is : some_of c.in-Some.new.now ≡ Some c.in-Some.new.now = some_of_other c.in-Some.new.now c.if-new-ne0.true in
    sym (found_from (c.args.self.now.rows + 1) c.args.self.now.table c.args.id (omega (arith, high)) ∙ ap some_of some ∙ is)

pub returns-in_default : goal.returns-in_default
returns-in_default c =
    let high : c.args.self.now.rows < c.args.id = search rules in
    let place : c.args.id - c.args.self.now.rows - 1 ≡ c.args.id - (c.args.self.now.rows + 1) = omega arith in
    let zero : c.in-Some.new.now ≡ 0 = search rules in
    let none : get_or c.args.self.now.table (c.args.id - (c.args.self.now.rows + 1)) 0 ≡ 0 =
    ap (λ k. get_or c.args.self.now.table k 0) (sym place) ∙ get_or_from_slice_get c.args.self.now.table (c.args.id - c.args.self.now.rows - 1) c.in-Some.new.now 0 (search rules) ∙ zero in
    sym (found_from (c.args.self.now.rows + 1) c.args.self.now.table c.args.id (omega (arith, high)) ∙ ap some_of none)

pub returns-in_default-2 : goal.returns-in_default-2
returns-in_default-2 c =
    let high : c.args.self.now.rows < c.args.id = search rules in
    let past : length c.args.self.now.table ≤ c.args.id - (c.args.self.now.rows + 1) = search rules in
    let none : get_or c.args.self.now.table (c.args.id - (c.args.self.now.rows + 1)) 0 ≡ 0 = get_or_past c.args.self.now.table (c.args.id - (c.args.self.now.rows + 1)) 0 past in
    sym (found_from (c.args.self.now.rows + 1) c.args.self.now.table c.args.id (omega (arith, high)) ∙ ap some_of none)
