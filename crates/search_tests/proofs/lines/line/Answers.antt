use Rattle.std.proofs.Common.{subst}
use Rattle.std.proofs.lemmas.Int.{to_z-of_z}
use Rattle.pb_lin.specs.NormalForm.{IsNormalForm}
use Rattle.pb_lin.proofs.Variables.{normal_form_upto}
use Rattle.search_tests.specs.declared.lines.TheConstants.{VARS}
use Rattle.search_tests.proofs.lines.line.Goals as goal

pub returns : goal.returns
returns c =
    let form = subst (IsNormalForm c.in_ok-line.line c.args.terms.now) (to_z-of_z _ _ c.ranges.degree) c.in_ok-line.ensures.normal_form in
    normal_form_upto c.in_ok-line.line c.args.terms.now c.args.degree VARS c.len-normal.ensures.normal form c.requires
