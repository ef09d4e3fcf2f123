use Rattle.std.proofs.Common.{◌+◌, ◌∙◌}
use Rattle.proof_laws.specs.Steps.{reached_only_if}
use Rattle.proof_rules.proofs.Definitions.{if_ok_as, lower_is, lower_normal}
use Rattle.proof_rules.proofs.definition.reached_only_if.Goals as goal

pub from_terms-requires : goal.from_terms-requires
from_terms-requires c =
    let is = lower_is c.args.vars c.args.sum.now c.in_ok-terms.terms c.as_slice.result.now c.new.result c.missed_by-degree.result c.in_ok-terms.ensures.value c.new.ensures.var c.new.ensures.neg c.missed_by-degree.ensures.value (c.as_slice.ensures ∙ c.in_ok-push_term.ensures) in
    lower_normal c.args.vars c.args.sum.now c.as_slice.result.now c.missed_by-degree.result c.in_ok-terms.ensures.normal c.requires.variables c.requires.small is

pub returns : goal.returns
returns c =
    let is = lower_is c.args.vars c.args.sum.now c.in_ok-terms.terms c.as_slice.result.now c.new.result c.missed_by-degree.result c.in_ok-terms.ensures.value c.new.ensures.var c.new.ensures.neg c.missed_by-degree.ensures.value (c.as_slice.ensures ∙ c.in_ok-push_term.ensures) in
    if_ok_as c.from_terms.result (record { terms = c.as_slice.result.now; degree = c.missed_by-degree.result }) (reached_only_if (c.args.vars + 1) c.args.sum.now) is c.from_terms.ensures
