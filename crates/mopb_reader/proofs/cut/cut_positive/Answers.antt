use Rattle.std.proofs.Common.{false}
use Rattle.mopb_reader.specs.Lexemes.{Literal}
use Rattle.mopb_reader.proofs.Cutting.{positive_first, sound_value, literal_token}
use Rattle.mopb_reader.proofs.cut.cut_positive.Goals as goal

pub returns-in-Some : goal.returns-in-Some
returns-in-Some c =
    let found = c.in-Some.ensures in (
      Literal found.0 false,
      positive_first c.args.text.now c.in-Some.rest.now found.0 found.1 found.3,
      literal_token found.0 c.in-Some.var false found.2,
      sound_value found.0 c.in-Some.var false found.2 found.3,
    )
