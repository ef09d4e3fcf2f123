use Rattle.std.proofs.Common.{subst, List}
use Rattle.std.proofs.lemmas.Result.{err_from_is_err_and}
use Rattle.front_set.specs.declared.entry.Entry.{Entry}
use Rattle.log_checker.specs.ListJudging.{IsFirstWrong}
use Rattle.log_checker.proofs.Comparing.{list_fault}
use Rattle.log_checker.proofs.list.check_list.Goals as goal

pub returns-in_err-check_entries-clause-refused : goal.returns-in_err-check_entries-clause-refused
returns-in_err-check_entries-clause-refused c = λ k why is.
    let p = err_from_is_err_and c.from_residual-in_err-check_entries.result c.from_residual-in_err-check_entries.ensures.1 in
    list_fault c.args.inst.now c.args.bytes.now c.in_ok-list.list.entries k why c.in_ok-list.ensures.spelled
    (subst (λ (es : List Entry). IsFirstWrong c.args.inst.now es k why) c.as_slice.ensures (c.in_err-check_entries.ensures.refused k why (cc (p.1, p.2, is))))
