use Rattle.std.proofs.Common.{◌≤◌, length, arith}
use Rattle.proof_lines.specs.Reading.{term_words}
use Rattle.proof_lines.proofs.Appends.{all_put, term_put}
use Rattle.proof_lines.proofs.append.append_terms.Goals as goal

pub loop-at-preserved : goal.loop-at-preserved
loop-at-preserved c = term_put c.args.c.now.terms c.loop-at.at c.term-lit.result _ _ _ _ c.term-lit.ensures c.loop-at.invariant c.in_ok-append_wide.ensures c.in_ok-append_literal.ensures

pub returns : goal.returns
returns c =
    let past : length c.args.c.now.terms ≤ c.loop-at.at = omega arith in
    all_put term_words c.args.c.now.terms c.loop-at.at _ _ past c.loop-at.invariant
