use Rattle.command_elaborate.proofs.Proving.{both_found, none_found}
use Rattle.command_elaborate.proofs.finding.hints_in.Goals as goal

pub returns-in_ok-spelled-in-Some-clause-proves : goal.returns-in_ok-spelled-in-Some-clause-proves
returns-in_ok-spelled-in-Some-clause-proves g c =
    both_found c.args.state.now c.vars-vars.ensures.state c.args.goal.now c.catch_up.new.next c.catch_up.new.search c.catch_up.ensures.kept.taken c.in_ok-catch_up.ensures.all
    c.in_ok-catch_up.ensures.vars c.len-terms.ensures.normal c.requires.within c.propagates_again-again.result c.propagates_again-again.ensures c.next_id-id.result c.in_ok-hints.field-0 c.in-Some.hints _ c.in_ok-spelled-in-Some.spelled c.next_id-id.ensures c.in-Some.is c.in_ok-hints.ensures.hints
    c.as_slice.ensures c.in_ok-spelled-in-Some.ensures

pub returns-in-None-clause-open : goal.returns-in-None-clause-open
returns-in-None-clause-open g c =
    none_found c.args.state.now c.vars-vars.ensures.state c.args.goal.now c.catch_up.new.next c.catch_up.new.search c.catch_up.ensures.kept.taken c.in_ok-catch_up.ensures.all
    c.in_ok-catch_up.ensures.vars c.requires.within c.next_id-id.result c.in_ok-hints.field-0 c.next_id-id.ensures c.in-None.is c.in_ok-hints.ensures.closed
