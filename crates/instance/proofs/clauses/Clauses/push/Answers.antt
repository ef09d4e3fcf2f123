use Rattle.std.proofs.Common.{◌+◌, length, arith, rules}
use Rattle.instance.proofs.ClauseEnds.{clauses_push, ends_push}
use Rattle.instance.proofs.clauses.Clauses.push.Goals as goal

pub invariant_of-self-2 : goal.invariant_of-self-2
invariant_of-self-2 c =
    let lits = c.self.inside.lits.items in
    let ends = c.self.inside.ends.items in
    let pushed = ends_push (length lits) 0 (length lits + length c.args.clause.now) ends c.self.invariant (omega arith) in
    grind (arith, rules, pushed)

pub returns-clause-ok : goal.returns-clause-ok
returns-clause-ok c =
    let lits = c.self.inside.lits.items in
    let ends = c.self.inside.ends.items in
    let pushed = clauses_push 0 lits c.args.clause.now ends c.self.invariant in
    grind (arith, rules, pushed, c.self.view_is)
