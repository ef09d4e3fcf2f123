use Rattle.std.proofs.Common.{◌<◌, ◌^◌, ◌∙◌, refl, ap, arith}
use Rattle.std.specs.Prelude.{unsigned_abs}
use Rattle.instance.specs.Shape.{terms_magnitude}
use Rattle.std.proofs.lemmas.Result.{err_from_is_err_and}
use Rattle.mopb_reader.specs.FirstFault.{Constraint, Term, Bound}
use Rattle.mopb_reader.specs.Steps.{after_taken, fault_inside}
use Rattle.mopb_reader.proofs.Places.{took}
use Rattle.mopb_reader.proofs.Findings.{fault_along, refused, row_so}
use Rattle.mopb_reader.proofs.Spelling.{row_read, same_number}
use Rattle.mopb_reader.proofs.statement.read_row.Goals as goal

pub returns-clause-ok : goal.returns-clause-ok
returns-clause-ok c =
    let bound = c.in_ok-bound.bound in
    let terms = c.in_ok-terms.terms in
    let sums = c.in_ok-terms.ensures.sums in
    let little : unsigned_abs bound < 2 ^ 63 = omega (arith, c.in_ok-bound.ensures.within) in
    rw (same_number bound little) (record {
      read = row_read (record { terms = terms.items; rel = c.in_ok-rel.rel; bound = bound }) c.args.first terms.next c.next-last.result
          c.args.tokens.now c.read_terms.new.tokens c.read_bound.new.tokens c.next-last.new.self c.in_ok-terms.ensures.ok
          c.in_ok-rel.ensures.ok c.in_ok-bound.ensures.ok c.next-last.ensures.left c.in_ok-end_statement.ensures.ok;
      magnitude = omega (arith, c.in_ok-bound.ensures.within, sums.sum, sums.small);
      largest = sums.largest;
      within = sums.within;
    })

pub returns-in_err-terms-clause-fault : goal.returns-in_err-terms-clause-fault
returns-in_err-terms-clause-fault c =
    let q = err_from_is_err_and c.from_residual.result c.from_residual.ensures.1 in
    rw (q.1, q.2) (λ p. c.in_err-terms.ensures.fault Constraint p refl)

pub returns-in_err-rel-clause-fault : goal.returns-in_err-rel-clause-fault
returns-in_err-rel-clause-fault c =
    let q = err_from_is_err_and c.from_residual-in_err-rel.result c.from_residual-in_err-rel.ensures.1 in
    let terms = c.in_ok-terms.terms in
    let ended = c.in_ok-terms.ensures.sums.ended in
    rw (q.1, q.2) (λ p. fault_along _ _ _ (row_so p c.args.first terms.next terms.items c.args.tokens.now c.read_terms.new.tokens (c.in_ok-terms.ensures.fault Constraint p refl) c.in_ok-terms.ensures.none c.requires.begins ended) (refused c.read_terms.new.tokens p (after_taken (Term Constraint (terms_magnitude terms.items)) terms.next) _ (c.in_err-rel.ensures.fault (terms_magnitude terms.items) ended)))

pub returns-in_err-bound-clause-fault : goal.returns-in_err-bound-clause-fault
returns-in_err-bound-clause-fault c =
    let q = err_from_is_err_and c.from_residual-in_err-bound.result c.from_residual-in_err-bound.ensures.1 in
    let terms = c.in_ok-terms.terms in
    let ended = c.in_ok-terms.ensures.sums.ended in
    let sum = terms_magnitude terms.items in
    rw (q.1, q.2) (λ p. fault_along _ _ _ (row_so p c.args.first terms.next terms.items c.args.tokens.now c.read_terms.new.tokens (c.in_ok-terms.ensures.fault Constraint p refl) c.in_ok-terms.ensures.none c.requires.begins ended ∙ ap (fault_inside c.read_terms.new.tokens p) (c.in_ok-rel.ensures.fault sum ended)) (c.in_err-bound.ensures.fault sum p (omega (arith, c.in_ok-terms.ensures.sums.sum, c.in_ok-terms.ensures.sums.small))))

pub returns-in_err-end_statement-clause-fault : goal.returns-in_err-end_statement-clause-fault
returns-in_err-end_statement-clause-fault c =
    let q = err_from_is_err_and c.from_residual-in_err-end_statement.result c.from_residual-in_err-end_statement.ensures.1 in
    let terms = c.in_ok-terms.terms in
    let ended = c.in_ok-terms.ensures.sums.ended in
    let sum = terms_magnitude terms.items in
    rw (q.1, q.2) (λ p. fault_along _ _ _ (row_so p c.args.first terms.next terms.items c.args.tokens.now c.read_terms.new.tokens (c.in_ok-terms.ensures.fault Constraint p refl) c.in_ok-terms.ensures.none c.requires.begins ended ∙ ap (fault_inside c.read_terms.new.tokens p) (c.in_ok-rel.ensures.fault sum ended) ∙ c.in_ok-bound.ensures.fault sum p (omega (arith, c.in_ok-terms.ensures.sums.sum, c.in_ok-terms.ensures.sums.small)) ∙ took c.next-last.result c.next-last.new.self c.read_bound.new.tokens p Bound tt c.next-last.ensures.taken c.next-last.ensures.last) (refused c.next-last.new.self p (after_taken Bound c.next-last.result) _ c.in_err-end_statement.ensures.fault))

pub returns-clause-fault : goal.returns-clause-fault
returns-clause-fault c p =
    let terms = c.in_ok-terms.terms in
    let ended = c.in_ok-terms.ensures.sums.ended in
    let sum = terms_magnitude terms.items in
    row_so p c.args.first terms.next terms.items c.args.tokens.now c.read_terms.new.tokens (c.in_ok-terms.ensures.fault Constraint p refl) c.in_ok-terms.ensures.none c.requires.begins ended ∙ ap (fault_inside c.read_terms.new.tokens p) (c.in_ok-rel.ensures.fault sum ended) ∙ c.in_ok-bound.ensures.fault sum p (omega (arith, c.in_ok-terms.ensures.sums.sum, c.in_ok-terms.ensures.sums.small)) ∙ took c.next-last.result c.next-last.new.self c.read_bound.new.tokens p Bound tt c.next-last.ensures.taken c.next-last.ensures.last ∙ ap (fault_inside c.next-last.new.self p) c.in_ok-end_statement.ensures.fault
