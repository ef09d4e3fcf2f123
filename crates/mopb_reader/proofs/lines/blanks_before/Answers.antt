use Rattle.std.proofs.Common.{◌∙◌, not, tests, rules}
use Rattle.mopb_reader.specs.Lexemes.{is_blank}
use Rattle.std.proofs.lemmas.Iterator.{YieldsList-from_slice}
use Rattle.std.proofs.lemmas.Iterator.Search.{position_from_yields_List}
use Rattle.scut_base.proofs.Lists.{first_or_length, first_within}
use Rattle.mopb_reader.proofs.lines.blanks_before.Goals as goal

pub returns : goal.returns
returns c =
    let xs = c.args.text.now in
    let value = c.unwrap_or.ensures ∙ first_or_length (λ b. not (is_blank b)) xs c.position.result (position_from_yields_List (λ b. not (is_blank b)) _ _ c.position.result c.position.ensures.ran (YieldsList-from_slice xs cc) (λ x b q k. search (rules, tests))) in
    record { value = value; within = rw value (first_within (λ b. not (is_blank b)) xs) }
