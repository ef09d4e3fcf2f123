use Rattle.std.proofs.Common.{ap}
use Rattle.std.proofs.lemmas.Result.{IfOk-weaker}
use Rattle.mopb_reader.specs.Steps.{fault_inside}
use Rattle.mopb_reader.proofs.Spelling.{term_signed, term_bare}
use Rattle.mopb_reader.proofs.Findings.{found_along, signed_begun, bare_begun}
use Rattle.mopb_reader.proofs.term.read_term.Goals as goal

pub returns-in-Some-clause-ok : goal.returns-in-Some-clause-ok
returns-in-Some-clause-ok c =
    IfOk-weaker c.read_unsigned.result _ _ (λ term unsigned. term_signed c.args.first c.next-next.result c.in-Some.minus
    c.args.tokens.now c.next-next.new.self c.read_unsigned.new.tokens term c.in-Some.ensures c.next-next.ensures.left unsigned)
    c.read_unsigned.ensures.ok

pub returns-in-None-clause-ok : goal.returns-in-None-clause-ok
returns-in-None-clause-ok c =
    IfOk-weaker c.read_unsigned-in-None.result _ _ (λ term unsigned. term_bare c.args.first c.args.tokens.now
    c.read_unsigned-in-None.new.tokens term unsigned) c.read_unsigned-in-None.ensures.ok

pub returns-in-Some-clause-fault : goal.returns-in-Some-clause-fault
returns-in-Some-clause-fault c kind sum missing p is room begins =
    found_along _ _ c.read_unsigned.result c.read_unsigned.new.tokens _ (signed_begun kind sum missing p c.args.first c.next-next.result
    c.in-Some.minus c.args.tokens.now c.next-next.new.self c.in-Some.ensures c.next-next.ensures.taken c.next-next.ensures.last)
    (c.read_unsigned.ensures.fault kind sum p is room)

pub returns-in-None-clause-fault : goal.returns-in-None-clause-fault
returns-in-None-clause-fault c kind sum missing p is room begins =
    found_along _ _ c.read_unsigned-in-None.result c.read_unsigned-in-None.new.tokens _
    (ap (fault_inside c.args.tokens.now p) (bare_begun kind sum missing c.args.first c.in-None.ensures begins))
    (c.read_unsigned-in-None.ensures.fault kind sum p is room)
