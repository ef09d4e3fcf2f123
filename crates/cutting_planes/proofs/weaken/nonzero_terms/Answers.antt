use Rattle.std.proofs.Common.{◌∙◌, ◌==◌, not, rules}
use Rattle.std.proofs.lemmas.Fn.{filter_same}
use Rattle.cutting_planes.proofs.weaken.nonzero_terms.Goals as goal

pub returns : goal.returns
returns c =
    c.from_vec.ensures ∙ filter_same _ (λ t. not (t.1 == 0)) _ (λ x b f' k. search rules) _ _ c.retain.ensures.filtered
