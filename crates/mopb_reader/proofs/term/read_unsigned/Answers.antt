use Rattle.std.proofs.Common.{ap, sym, ◌∙◌, ◌+◌}
use Rattle.std.proofs.lemmas.Result.{err_from_is_err_and}
use Rattle.mopb_reader.specs.FirstFault.{Sign, Coefficient, Term}
use Rattle.mopb_reader.specs.Steps.{after_taken, fault_at, fault_inside}
use Rattle.std.specs.Prelude.{Some}
use Rattle.mopb_reader.specs.declared.token.Token.TheVariants.{Number}
use Rattle.mopb_reader.proofs.Spelling.{term_is, unsigned_digits, unsigned_lone}
use Rattle.mopb_reader.proofs.Findings.{refused, digits_refused, bare_wrong, bare_counted}
use Rattle.mopb_reader.proofs.term.read_unsigned.Goals as goal

pub returns-in_ok-lit-in-Some-clause-ok : goal.returns-in_ok-lit-in-Some-clause-ok
returns-in_ok-lit-in-Some-clause-ok c =
    let n = c.in_ok-magnitude-in-Some.magnitude in
    let l = c.in_ok-lit-in-Some.lit in
    let t = c.term_of.result in
    unsigned_digits c.args.minus n c.args.first c.next-next.result t l c.args.tokens.now c.next-next.new.self
    (c.in-Some.ensures ∙ ap (λ v. Some (Number v)) c.in_ok-magnitude-in-Some.ensures.ok.0) c.next-next.ensures.left c.in_ok-lit-in-Some.ensures.ok
    (term_is c.args.minus n t l c.term_of.ensures.coefficient c.term_of.ensures.literal)

pub returns-in_ok-magnitude-in-None-clause-ok : goal.returns-in_ok-magnitude-in-None-clause-ok
returns-in_ok-magnitude-in-None-clause-ok c =
    let n = c.in_ok-magnitude-in-None.magnitude in
    let l = c.in_ok-lit-in-None.lit in
    let t = c.term_of-in-None.result in
    unsigned_lone c.args.minus n c.args.first t l c.args.tokens.now c.in_ok-lit-in-None.ensures.ok c.in_ok-magnitude-in-None.ensures.ok.0
    (term_is c.args.minus n t l c.term_of-in-None.ensures.coefficient c.term_of-in-None.ensures.literal)

pub returns-in_err-lit-in-Some-clause-fault : goal.returns-in_err-lit-in-Some-clause-fault
returns-in_err-lit-in-Some-clause-fault c =
    let q = err_from_is_err_and c.from_residual-in_err-lit-in-Some.result c.from_residual-in_err-lit-in-Some.ensures.1 in
    rw (q.1, q.2) (λ kind sum p is room. digits_refused kind sum _ p c.args.limit c.args.first c.next-next.result c.in-Some.value c.args.tokens.now c.next-next.new.self _ c.in-Some.ensures is (c.in_ok-magnitude-in-Some.ensures.fault sum (Coefficient kind) room) c.next-next.ensures.taken c.next-next.ensures.last (c.in_err-lit-in-Some.ensures.fault kind (sum + c.in_ok-magnitude-in-Some.magnitude)))

pub returns-in_err-lit-in-None-clause-fault : goal.returns-in_err-lit-in-None-clause-fault
returns-in_err-lit-in-None-clause-fault c =
    let q = err_from_is_err_and c.from_residual-in_err-lit-in-None.result c.from_residual-in_err-lit-in-None.ensures.1 in
    rw (q.1, q.2) (λ kind sum p is room. refused c.args.tokens.now p (after_taken (Sign kind sum) c.args.first) _ (bare_wrong kind sum c.args.first _ c.in-None.ensures (c.in_err-lit-in-None.ensures.fault kind sum)))

pub returns-in_err-magnitude-in-None-clause-fault : goal.returns-in_err-magnitude-in-None-clause-fault
returns-in_err-magnitude-in-None-clause-fault c =
    let q = err_from_is_err_and c.from_residual-in_err-magnitude-in-None.result c.from_residual-in_err-magnitude-in-None.ensures.1 in
    rw (q.1, q.2) (λ kind sum p is room. refused c.args.tokens.now p (after_taken (Sign kind sum) c.args.first) _ (bare_counted kind sum c.args.limit c.args.first _ c.in-None.ensures is (c.in_ok-lit-in-None.ensures.fault kind sum) (c.in_err-magnitude-in-None.ensures.fault sum (Term kind) room)))

pub returns-in_ok-magnitude-in-None-clause-fault : goal.returns-in_ok-magnitude-in-None-clause-fault
returns-in_ok-magnitude-in-None-clause-fault c kind sum p is room =
    ap (fault_inside c.args.tokens.now p) (bare_counted kind sum c.args.limit c.args.first _ c.in-None.ensures is (c.in_ok-lit-in-None.ensures.fault kind sum) (c.in_ok-magnitude-in-None.ensures.fault sum (Term kind) room))
    ∙ ap (λ n. fault_at c.args.tokens.now p (Term kind (sum + n))) (sym c.term_of-in-None.ensures.magnitude)
