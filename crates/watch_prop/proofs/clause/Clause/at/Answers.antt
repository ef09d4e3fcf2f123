use Rattle.std.proofs.Common.{◌<◌, List, arith, ap, sym, length, get_or, ◌∙◌}
use Rattle.std.proofs.lemmas.List.{length-map, get_or-map, get_or_default}
use Rattle.scut_base.specs.Literal.{Literal}
use Rattle.scut_base.specs.LiteralCode.{literal_of}
use Rattle.watch_prop.specs.Watching.{no_literal}
use Rattle.watch_prop.proofs.clause.Clause.at.Goals as goal

pub returns-clause-among : goal.returns-clause-among
returns-clause-among c =
    let words = c.self.inside.words.now in
    let now = c.args.self.now in
    let place = c.args.place in
    let within : place < length words = omega (arith, c.requires, ap length c.self.view_is, length-map words literal_of) in
    (place, c.requires, get_or_default now place c.of.result no_literal c.requires ∙ ap (λ (ls : List Literal). get_or ls place no_literal) (sym c.self.view_is) ∙ get_or-map literal_of words place 0 no_literal within ∙ sym c.of.ensures)
