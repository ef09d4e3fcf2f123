use Rattle.std.proofs.Common.{◌∙◌, arith, sym, ap, ◌++◌, ◌+◌, take, drop}
use Rattle.std.specs.List.{concat}
use Rattle.scut_base.specs.Files.{with_file}
use Rattle.scut_base.proofs.FileLaws.{there_by, appended_by, partly_by, on_err_anyway}
use Rattle.command_base.proofs.Written.{concat_more, concat_rest}
use Rattle.command_base.proofs.whole_file.write_lines.Goals as goal

pub append-requires : goal.append-requires
append-requires g c = there_by _ _ _ _ c.loop-line.invariant.written

pub returns-in_err-append-clause-err : goal.returns-in_err-append-clause-err
returns-in_err-append-clause-err g c =
    on_err_anyway _ (partly_by _ _ _ _ _ _ _ _ c.loop-line.invariant.written c.in_err-append.ensures.fault
    (ap (λ x. concat (take c.loop-line.line-index c.args.lines.now) ++ x ++ concat (drop (c.loop-line.line-index + 1) c.args.lines.now)) c.as_slice.ensures ∙ concat_rest c.args.lines.now c.loop-line.line-index c.line-item.result c.loop-line-test.true c.line-item.is))

pub loop-line-preserved : goal.loop-line-preserved
loop-line-preserved g c = record {
  written = appended_by _ _ _ _ _ _ c.loop-line.invariant.written c.in_ok-append.ensures.appended
      ∙ ap (with_file _ _) (ap (λ x. concat (take c.loop-line.line-index c.args.lines.now) ++ x) c.as_slice.ensures ∙ sym (concat_more c.args.lines.now c.loop-line.line-index c.line-item.result c.loop-line-test.true c.line-item.is));
  said = c.in_ok-append.ensures.said ∙ c.loop-line.invariant.said;
  warned = c.in_ok-append.ensures.warned ∙ c.loop-line.invariant.warned;
  faults = λ call name. omega (arith, c.loop-line.invariant.faults call name, c.in_ok-append.ensures.cause.later call name);
}
