use Rattle.std.proofs.Common.{refl}
use Rattle.instance.specs.declared.row.Rel.TheVariants.{AtLeast}
use Rattle.mopb_reader.specs.Lexemes.{Relation, Other}
use Rattle.mopb_reader.proofs.Cutting.{greater_alone}
use Rattle.mopb_reader.proofs.cut.cut_greater.Goals as goal

pub returns-in-None : goal.returns-in-None
returns-in-None c = (Other 62, greater_alone c.args.text.now c.in-None.ensures, refl, tt)

pub returns-in-Some : goal.returns-in-Some
returns-in-Some c = (Relation AtLeast, rw c.in-Some.ensures refl, refl, tt)
