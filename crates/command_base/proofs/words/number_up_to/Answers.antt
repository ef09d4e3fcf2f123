use Rattle.std.proofs.Common.{arith}
use Rattle.command_base.proofs.NumberWords.{number_read, number_unread}
use Rattle.command_base.proofs.words.number_up_to.Goals as goal

pub returns-then-number-most : goal.returns-then-number-most
returns-then-number-most c = number_read c.args.most c.as_bytes.result.now _ _ c.as_bytes.ensures.value c.in-Ok.ensures (omega arith) (omega arith)

pub returns-in-Err : goal.returns-in-Err
returns-in-Err c = number_unread c.args.most (omega arith) _ c.as_bytes.result.now _ c.as_bytes.ensures.value c.in-Err.ensures
