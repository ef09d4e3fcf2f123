use Rattle.std.proofs.Common.{◌≡◌, ◌∙◌, ap, sym, Option, Some, None, Bor}
use Rattle.std.specs.Prelude.{MatchOption, option_copied}
use Rattle.scut_base.specs.Files.{Files, content}
use Rattle.scut_base.proofs.FileMapLaws.{content_file}
use Rattle.scut_base.proofs.file_map.FileMap.get.Goals as goal

by_copied : {X : Type 0} (found : Option (Bor X)) (held : Option X) → option_copied found ≡ held → MatchOption found (held ≡ None) (λ c. held ≡ Some c.now)
by_copied None held e = sym e
by_copied (Some c) held e = sym e

pub returns : goal.returns
returns c =
    by_copied c.get.result (content (Some c.args.self.now) c.args.name.now)
    (c.get.ensures.value ∙ sym (content_file c.self.inside.files c.args.name.now) ∙ ap (λ (f : Files). content (Some f) c.args.name.now) c.self.view_is)
