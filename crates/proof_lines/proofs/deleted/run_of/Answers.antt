use Rattle.std.proofs.Common.{refl}
use Rattle.std.proofs.lemmas.Bool.{false≢true}
use Rattle.proof_lines.proofs.RunWords.{not_run}
use Rattle.proof_lines.proofs.deleted.run_of.Goals as goal

pub returns-then-not-is_run : goal.returns-then-not-is_run
returns-then-not-is_run c = not_run c.args.spelling c.requires c.args.head.now c.args.tail.now _ c.in_ok-first.first c.in_ok-last.last refl c.in_ok-first.ensures c.in_ok-last.ensures (λ run. absurd (false≢true (c.if-not-is_run.ensures.1 run)))
