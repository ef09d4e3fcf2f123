use Rattle.std.proofs.Common.{refl, true}
use Rattle.mopb_reader.specs.Lexemes.{Literal, Other}
use Rattle.mopb_reader.proofs.Cutting.{negated_first, negated_none, sound_value, literal_token}
use Rattle.mopb_reader.proofs.cut.cut_negated.Goals as goal

pub returns-in-Some : goal.returns-in-Some
returns-in-Some c =
    let found = c.in-Some.ensures in (
      Literal found.0 true,
      negated_first c.args.text.now c.args.after.now c.in-Some.rest.now found.0 c.requires found.1 found.3,
      literal_token found.0 c.in-Some.var true found.2,
      sound_value found.0 c.in-Some.var true found.2 found.3,
    )

pub returns-in-None : goal.returns-in-None
returns-in-None c = (Other 126, negated_none c.args.text.now c.args.after.now c.requires c.in-None.ensures, refl, tt)
