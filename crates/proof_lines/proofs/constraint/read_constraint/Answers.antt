use Rattle.std.proofs.lemmas.Result.{err_from_is_err_and}
use Rattle.proof_lines.proofs.TermLists.{constraint_read, no_degree, normal_with, sum_small, terms_wrong}
use Rattle.proof_lines.proofs.constraint.read_constraint.Goals as goal

pub returns-in_err-terms : goal.returns-in_err-terms
returns-in_err-terms c =
    let p = err_from_is_err_and c.from_residual.result c.from_residual.ensures.1 in
    rw (p.1, p.2) (terms_wrong _ c.args.words.now c.read_terms.new.words c.read_terms.new.words c.in_err-terms.ensures)

pub take_degree-requires : goal.take_degree-requires
take_degree-requires c =
    let read = c.in_ok-terms.ensures in
    sum_small c.in_ok-terms.terms c.in_ok-terms.sum read.0 read.1

pub into_constraint-requires : goal.into_constraint-requires
into_constraint-requires c =
    let read = c.in_ok-terms.ensures in
    normal_with c.in_ok-terms.terms c.in_ok-terms.sum c.in-Some.degree read.0 read.1 c.in-Some.ensures.0

pub returns-in_ok-into_constraint-in-Some : goal.returns-in_ok-into_constraint-in-Some
returns-in_ok-into_constraint-in-Some c =
    constraint_read c.args.words.now c.read_terms.new.words c.take_degree.new.words c.in_ok-terms.terms c.in_ok-terms.sum c.in-Some.degree c.in_ok-into_constraint-in-Some.field-0 c.in_ok-terms.ensures c.in-Some.ensures c.in_ok-into_constraint-in-Some.ensures

pub returns-in-None : goal.returns-in-None
returns-in-None c =
    let read = c.in_ok-terms.ensures in
    no_degree c.args.words.now c.read_terms.new.words c.in_ok-terms.terms c.in_ok-terms.sum read.0 read.1 read.2 c.in-None.ensures
