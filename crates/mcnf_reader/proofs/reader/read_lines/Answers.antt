use Rattle.std.proofs.Common.{length, ap, arith}
use Rattle.std.proofs.lemmas.Result.{err_from_is_err_and}
use Rattle.mcnf_reader.specs.Words.{lines_of}
use Rattle.mcnf_reader.proofs.Counts.{lines_count}
use Rattle.mcnf_reader.proofs.Texts.{read_none, read_on, read_all, next_wrong, number_below}
use Rattle.mcnf_reader.proofs.reader.read_lines.Goals as goal

pub overflow_add-number : goal.overflow_add-number
overflow_add-number c = omega (arith, number_below _ _ _ _ c.loop-line.invariant.so_far, ap length c.in-Some.ensures, lines_count c.args.bytes.now)

pub loop-line-init : goal.loop-line-init
loop-line-init c = record {
  ready = c.in_ok-draft.ensures.ready;
  so_far = rw c.new-lines.ensures (read_none (lines_of c.args.bytes.now) c.in_ok-draft.draft c.in_ok-draft.ensures.empty);
}

pub loop-line-preserved : goal.loop-line-preserved
loop-line-preserved c =
    let ok = c.in_ok-read_line.ensures.ok in
    record {
      ready = c.in_ok-read_line.ensures.ready;
      so_far = read_on _ c.loop-line.lines c.next.new.self c.in-Some.line.now c.loop-line.number c.loop-line.draft c.read_line.new.draft ok.0 c.in-Some.ensures ok.1 ok.2 ok.3 c.loop-line.invariant.so_far;
    }

pub returns-in_err-read_line-clause-fault : goal.returns-in_err-read_line-clause-fault
returns-in_err-read_line-clause-fault c =
    let p = err_from_is_err_and c.from_residual-in_err-read_line.result c.from_residual-in_err-read_line.ensures.1 in
    rw (p.1, p.2) (next_wrong c.args.bytes.now c.loop-line.lines c.next.new.self c.in-Some.line.now c.loop-line.number c.loop-line.draft _ c.in-Some.ensures c.loop-line.invariant.so_far c.in_err-read_line.ensures.fault)

pub returns-clause-ok : goal.returns-clause-ok
returns-clause-ok c = read_all c.args.bytes.now c.loop-line.lines c.loop-line.number c.loop-line.draft (c.in_default.ensures.0) c.loop-line.invariant.ready c.loop-line.invariant.so_far
