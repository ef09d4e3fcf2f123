use Rattle.std.proofs.Common.{arith}
use Rattle.proof_lines.proofs.TermLists.{degree_wrong}
use Rattle.proof_lines.proofs.constraint.take_degree.Goals as goal

pub returns-then-degree-sum : goal.returns-then-degree-sum
returns-then-degree-sum c = degree_wrong c.args.words.now c.next.new.self c.in_ok-next.field-0.now c.args.sum c.in_ok-degree.degree c.in_ok-next.ensures c.requires c.in_ok-degree.ensures.0 c.in_ok-degree.ensures.1 (λ small. omega arith)
