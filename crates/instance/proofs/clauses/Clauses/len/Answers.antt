use Rattle.std.proofs.Common.{length, ap, arith}
use Rattle.instance.proofs.ClauseEnds.{length-clauses_from}
use Rattle.instance.proofs.clauses.Clauses.len.Goals as goal

pub returns : goal.returns
returns c = omega (arith, c.len.ensures, length-clauses_from 0 c.self.inside.lits.items c.self.inside.ends.items, ap length c.self.view_is)
