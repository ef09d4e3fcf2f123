use Rattle.std.proofs.Common.{◌≡◌, ◌∙◌, ap, string_bytes}
use Rattle.std.specs.FinMap.{insert}
use Rattle.std.proofs.lemmas.Map.Text.{btree_map_updates_text}
use Rattle.scut_base.specs.Files.{Files}
use Rattle.scut_base.proofs.FileMapLaws.{files_put}
use Rattle.scut_base.proofs.file_map.FileMap.put.Goals as goal

pub returns-clause-ok : goal.returns-clause-ok
returns-clause-ok c =
    let named : string_bytes c.in_ok-kept.kept ≡ c.args.name.now = c.in_ok-kept.ensures.ok in
    files_put c.self.inside.files c.insert.new.self (string_bytes c.in_ok-kept.kept) c.args.bytes (btree_map_updates_text (string_bytes c.in_ok-kept.kept) c.self.inside.files c.insert.new.self _ c.in_ok-insert.ensures.updates)
    ∙ ap (λ (f : Files). insert f (string_bytes c.in_ok-kept.kept) c.args.bytes) c.self.view_is
    ∙ ap (λ name. insert c.args.self.now name c.args.bytes) named
