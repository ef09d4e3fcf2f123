use Rattle.std.proofs.Common.{not, rules, List, ℤ}
use Rattle.std.proofs.lemmas.Fn.{filter_same}
use Rattle.front_set.specs.Vector.{is_below}
use Rattle.relaxations.proofs.box_parts.drop_within.Goals as goal

pub returns : goal.returns
returns c = filter_same _ (λ (b : List ℤ). not (is_below b c.args.limits.now)) _ (λ x b f' k. search rules) _ _ c.retain.ensures.filtered
