use Rattle.std.proofs.Common.{refl}
use Rattle.mopb_reader.specs.Lexemes.{Head, Other}
use Rattle.mopb_reader.proofs.Cutting.{m_alone, head_first}
use Rattle.mopb_reader.proofs.cut.cut_head.Goals as goal

pub returns-in-None : goal.returns-in-None
returns-in-None c = (Other 109, m_alone c.args.text.now c.in-None.ensures, refl, tt)

pub returns-in-Some : goal.returns-in-Some
returns-in-Some c = (Head c.in-Some.sense, head_first c.in-Some.sense c.args.text.now c.in-Some.rest.now c.in-Some.ensures, refl, tt)
