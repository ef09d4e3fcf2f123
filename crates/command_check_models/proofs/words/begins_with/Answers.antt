use Rattle.std.specs.Prelude.{codes}
use Rattle.command_check_models.proofs.Names.{found_rest, no_rest, rest_begins, none_begins}
use Rattle.command_check_models.proofs.words.begins_with.Goals as goal

pub returns-in-Some : goal.returns-in-Some
returns-in-Some c =
    rest_begins c.args.base.now (codes ".") c.args.name.now c.in-Some.rest.now c.starts_with.result
    (found_rest c.args.name.now c.args.base.now c.as_bytes.result.now c.as_bytes-2.result.now c.strip_prefix.result c.in-Some.rest c.as_bytes.ensures.value c.as_bytes-2.ensures.value c.in-Some.is c.strip_prefix.ensures.cases)
    c.starts_with.ensures.value

pub returns-in-None : goal.returns-in-None
returns-in-None c =
    none_begins c.args.base.now (codes ".") c.args.name.now
    (no_rest c.args.name.now c.args.base.now c.as_bytes.result.now c.as_bytes-2.result.now c.strip_prefix.result c.as_bytes.ensures.value c.as_bytes-2.ensures.value c.in-None.is c.strip_prefix.ensures.cases)
