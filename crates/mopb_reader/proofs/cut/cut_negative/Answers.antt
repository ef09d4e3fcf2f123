use Rattle.std.proofs.Common.{refl}
use Rattle.mopb_reader.specs.Lexemes.{Other}
use Rattle.mopb_reader.proofs.Cutting.{tilde_alone}
use Rattle.mopb_reader.proofs.cut.cut_negative.Goals as goal

pub returns-in-None : goal.returns-in-None
returns-in-None c = (Other 126, tilde_alone c.args.text.now c.in-None.ensures, refl, tt)
