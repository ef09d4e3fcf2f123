use Rattle.std.proofs.lemmas.Result.{IfOk-weaker}
use Rattle.mopb_reader.specs.FirstFault.{Bound}
use Rattle.mopb_reader.proofs.Findings.{judged_found, signed_bound, bare_bound}
use Rattle.mopb_reader.proofs.Spelling.{bound_signed, bound_bare}
use Rattle.mopb_reader.proofs.statement.read_bound.Goals as goal

pub returns-in-Some-clause-ok : goal.returns-in-Some-clause-ok
returns-in-Some-clause-ok c =
    IfOk-weaker c.read_magnitude.result _ _ (λ bound found. bound_signed c.next-first.result c.next-next.result c.in-Some.minus found.0 bound
    c.args.tokens.now c.next-first.new.self c.next-next.new.self c.next-first.ensures.left c.in-Some.ensures c.next-next.ensures.left
    found.1 found.2) c.read_magnitude.ensures.ok

pub returns-in-None-clause-ok : goal.returns-in-None-clause-ok
returns-in-None-clause-ok c =
    IfOk-weaker c.read_magnitude-in-None.result _ _ (λ bound found. bound_bare c.next-first.result found.0 bound
    c.args.tokens.now c.next-first.new.self c.next-first.ensures.left found.1 found.2) c.read_magnitude-in-None.ensures.ok

pub returns-in-Some-clause-fault : goal.returns-in-Some-clause-fault
returns-in-Some-clause-fault c sum p room =
    judged_found _ c.next-next.new.self p _ c.read_magnitude.result Bound (signed_bound sum p c.next-first.result c.next-next.result c.in-Some.minus c.args.tokens.now c.next-first.new.self c.next-next.new.self c.in-Some.ensures c.next-first.ensures.taken c.next-first.ensures.last c.next-next.ensures.taken c.next-next.ensures.last) (c.read_magnitude.ensures.fault sum room)

pub returns-in-None-clause-fault : goal.returns-in-None-clause-fault
returns-in-None-clause-fault c sum p room =
    judged_found _ c.next-first.new.self p _ c.read_magnitude-in-None.result Bound (bare_bound sum p c.next-first.result c.args.tokens.now c.next-first.new.self c.in-None.ensures c.next-first.ensures.taken c.next-first.ensures.last) (c.read_magnitude-in-None.ensures.fault sum room)
