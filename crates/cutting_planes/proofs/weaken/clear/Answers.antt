use Rattle.std.proofs.Common.{sym}
use Rattle.cutting_planes.proofs.Runs.{others_all, gone_none, others_cleared, gone_one}
use Rattle.cutting_planes.proofs.weaken.clear.Goals as goal

pub returns-in_default-clause-kept : goal.returns-in_default-clause-kept
returns-in_default-clause-kept c = sym (others_all c.args.var c.args.terms.now c.in_default.ensures)

pub returns-in_default-clause-gone : goal.returns-in_default-clause-gone
returns-in_default-clause-gone c = sym (gone_none c.args.var c.args.terms.now c.in_default.ensures)

pub returns-clause-kept : goal.returns-clause-kept
returns-clause-kept c = others_cleared c.args.var c.args.terms.now c.in-Some.place _ c.requires c.in-Some.ensures.0 c.in-Some.ensures.1

pub returns-clause-gone : goal.returns-clause-gone
returns-clause-gone c = sym (gone_one c.args.var c.args.terms.now c.in-Some.place c.index-terms-place-2.result c.requires c.in-Some.ensures.0 c.in-Some.ensures.1)
