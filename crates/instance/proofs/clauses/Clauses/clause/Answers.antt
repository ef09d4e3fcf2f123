use Rattle.std.proofs.Common.{◌<◌, length, ap, ◌∙◌, arith}
use Rattle.std.proofs.lemmas.List.{get_or_default}
use Rattle.instance.proofs.ClauseEnds.{within_ends, clause_within, clause_at}
use Rattle.instance.proofs.clauses.Clauses.clause.Goals as goal

pub start_of-start-requires : goal.start_of-start-requires
start_of-start-requires c =
    omega (arith, within_ends c.self.inside.lits.items c.self.inside.ends.items c.args.self.now c.args.at c.self.view_is c.requires, ap length c.as_slice.ensures.value)

pub index-requires : goal.index-requires
index-requires c =
    omega (arith, within_ends c.self.inside.lits.items c.self.inside.ends.items c.args.self.now c.args.at c.self.view_is c.requires)

pub between-requires-clause-order : goal.between-requires-clause-order
between-requires-clause-order c =
    let ends = c.self.inside.ends.items in
    let short : c.args.at < length ends = within_ends c.self.inside.lits.items ends c.args.self.now c.args.at c.self.view_is c.requires in
    let within = clause_within (length c.self.inside.lits.items) 0 ends c.args.at short c.self.invariant in
    let end = c.index.ensures ∙ get_or_default ends c.args.at c.index.result.now 0 short in
    rw (c.start_of-start.ensures, c.as_slice.ensures.value, end) within.0

pub between-requires-clause-within : goal.between-requires-clause-within
between-requires-clause-within c =
    let ends = c.self.inside.ends.items in
    let short : c.args.at < length ends = within_ends c.self.inside.lits.items ends c.args.self.now c.args.at c.self.view_is c.requires in
    let within = clause_within (length c.self.inside.lits.items) 0 ends c.args.at short c.self.invariant in
    let end = c.index.ensures ∙ get_or_default ends c.args.at c.index.result.now 0 short in
    rw (c.as_slice-2.ensures.value, end) within.1

pub returns : goal.returns
returns c =
    let ends = c.self.inside.ends.items in
    let short : c.args.at < length ends = within_ends c.self.inside.lits.items ends c.args.self.now c.args.at c.self.view_is c.requires in
    let end = c.index.ensures ∙ get_or_default ends c.args.at c.index.result.now 0 short in
    let clause = clause_at 0 c.self.inside.lits.items ends c.args.at short in
    rw (← c.self.view_is, c.between.ensures, c.as_slice-2.ensures.value, c.start_of-start.ensures, c.as_slice.ensures.value, end) clause
