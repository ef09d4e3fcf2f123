use Rattle.std.proofs.Common.{rules}
use Rattle.std.specs.Option.{is_some}
use Rattle.std.proofs.lemmas.Fn.{filter_same}
use Rattle.pb_lin.specs.IdTable.{place_in}
use Rattle.pb_lin.proofs.Ids.{lists-filter}
use Rattle.pb_lin.proofs.id_table.retain_placed.Goals as goal

pub returns : goal.returns
returns c =
    lists-filter (place_in c.args.places.now) c.args.ids.now.items c.retain.new.self.items c.requires
    (filter_same _ (λ k. is_some (place_in c.args.places.now k)) _ (λ x b f' k. search rules) _ _ c.retain.ensures.filtered)
