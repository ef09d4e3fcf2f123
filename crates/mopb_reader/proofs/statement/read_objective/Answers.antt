use Rattle.std.proofs.Common.{refl, ap, ◌∙◌, arith}
use Rattle.std.proofs.lemmas.Result.{err_from_is_err_and}
use Rattle.mopb_reader.specs.FirstFault.{Objective, Head, Bound}
use Rattle.mopb_reader.specs.Steps.{after_taken, fault_inside}
use Rattle.mopb_reader.proofs.Places.{took}
use Rattle.mopb_reader.proofs.Findings.{fault_along, refused, objective_so}
use Rattle.mopb_reader.proofs.Spelling.{objective_read}
use Rattle.mopb_reader.proofs.statement.read_objective.Goals as goal

pub returns-in_err-terms-clause-fault : goal.returns-in_err-terms-clause-fault
returns-in_err-terms-clause-fault c =
    let q = err_from_is_err_and c.from_residual.result c.from_residual.ensures.1 in
    rw (q.1, q.2) (λ p. fault_along _ _ _ (took c.next-first.result c.next-first.new.self c.args.tokens.now p Head tt c.next-first.ensures.taken c.next-first.ensures.last) (c.in_err-terms.ensures.fault Objective p refl))

pub returns-in_err-end_statement-clause-fault : goal.returns-in_err-end_statement-clause-fault
returns-in_err-end_statement-clause-fault c =
    let q = err_from_is_err_and c.from_residual-in_err-end_statement.result c.from_residual-in_err-end_statement.ensures.1 in
    let terms = c.in_ok-terms.terms in
    rw (q.1, q.2) (λ p. fault_along _ _ _ (objective_so p c.next-first.result terms.next terms.items c.args.tokens.now c.next-first.new.self c.read_terms.new.tokens c.next-first.ensures.taken c.next-first.ensures.last (c.in_ok-terms.ensures.fault Objective p refl) c.in_ok-terms.ensures.sums.ended) (refused c.read_terms.new.tokens p (after_taken Bound terms.next) _ c.in_err-end_statement.ensures.fault))

pub returns-clause-fault : goal.returns-clause-fault
returns-clause-fault c p =
    let terms = c.in_ok-terms.terms in
    objective_so p c.next-first.result terms.next terms.items c.args.tokens.now c.next-first.new.self c.read_terms.new.tokens c.next-first.ensures.taken c.next-first.ensures.last (c.in_ok-terms.ensures.fault Objective p refl) c.in_ok-terms.ensures.sums.ended ∙ ap (fault_inside c.read_terms.new.tokens p) c.in_ok-end_statement.ensures.fault

pub returns-clause-ok : goal.returns-clause-ok
returns-clause-ok c =
    let terms = c.in_ok-terms.terms in
    let sums = c.in_ok-terms.ensures.sums in
    rw c.new.ensures (record {
      shape = refl;
      read = objective_read c.next-first.result terms.next c.args.tokens.now c.next-first.new.self c.read_terms.new.tokens terms.items
          c.next-first.ensures.left c.in_ok-terms.ensures.ok c.in_ok-end_statement.ensures.ok;
      magnitude = omega (arith, sums.sum, sums.small);
      largest = sums.largest;
      within = sums.within;
    })
