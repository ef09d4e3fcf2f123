use Rattle.std.proofs.Common.{◌∙◌, subst, sym}
use Rattle.std.specs.Prelude.{IsTrue}
use Rattle.log_checker.proofs.Comparing.{rising_push, is_lt_less}
use Rattle.log_checker.proofs.list.comes_after.Goals as goal

pub returns-in-Some : goal.returns-in-Some
returns-in-Some c =
    let item = c.in-Some.ensures.item in
    let push = rising_push c.args.before.now c.args.entry.now c.in-Some.last.now item.3.0 (sym item.1) c.requires in
    let less = is_lt_less c.cmp.result in (
      λ before. push.0 (sym c.cmp.ensures ∙ less.0 (subst IsTrue c.is_lt.ensures before)),
      λ after. subst IsTrue (sym c.is_lt.ensures) (less.1 (c.cmp.ensures ∙ push.1 after)),
    )
