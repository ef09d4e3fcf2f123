use Rattle.std.proofs.Common.{refl}
use Rattle.instance.specs.declared.row.Rel.TheVariants.{AtMost}
use Rattle.mopb_reader.specs.Lexemes.{Relation, Other}
use Rattle.mopb_reader.proofs.Cutting.{less_alone}
use Rattle.mopb_reader.proofs.cut.cut_less.Goals as goal

pub returns-in-None : goal.returns-in-None
returns-in-None c = (Other 60, less_alone c.args.text.now c.in-None.ensures, refl, tt)

pub returns-in-Some : goal.returns-in-Some
returns-in-Some c = (Relation AtMost, rw c.in-Some.ensures refl, refl, tt)
