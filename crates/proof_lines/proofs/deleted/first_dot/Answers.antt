use Rattle.std.proofs.Common.{◌∙◌, tests, rules}
use Rattle.std.proofs.lemmas.Iterator.{YieldsList-from_slice}
use Rattle.std.proofs.lemmas.Iterator.Search.{position_from_yields_List}
use Rattle.scut_base.proofs.Lists.{first_or_length}
use Rattle.proof_lines.specs.Pieces.{is_dot}
use Rattle.proof_lines.proofs.deleted.first_dot.Goals as goal

pub returns-clause-value : goal.returns-clause-value
returns-clause-value c =
    let xs = c.args.word.now in
    c.unwrap_or.ensures ∙ first_or_length is_dot xs c.position.result (position_from_yields_List is_dot _ _ c.position.result c.position.ensures.ran (YieldsList-from_slice xs cc) (λ x b q k. search (rules, tests)))
