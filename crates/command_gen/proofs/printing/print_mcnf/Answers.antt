use Rattle.std.proofs.Common.{◌≡◌, List, ap, subst, sym, ◌∙◌}
use Rattle.std.specs.Prelude.{All, ℕ}
use Rattle.instance.specs.Shape.{InstanceValue, IsWithinLimits}
use Rattle.mcnf_reader.specs.Grammar.{Spells}
use Rattle.command_gen.specs.Printed.{AreVariables}
use Rattle.command_gen.proofs.Spelled.{printed_spells, whole_text}
use Rattle.command_gen.proofs.Statements.{ArePrintable}
use Rattle.command_gen.proofs.printing.print_mcnf.Goals as goal

pub returns-clause-spells : goal.returns-clause-spells
returns-clause-spells c =
    let i = c.args.inst.now in
    let clauses : c.inst.inside.clauses ≡ i.clauses = ap (λ (v : InstanceValue). v.clauses) c.inst.view_is in
    let objectives : c.as_slice.result.now ≡ i.objectives = c.as_slice.ensures ∙ ap (λ (v : InstanceValue). v.objectives) c.inst.view_is in
    let text = whole_text i _ _ _ _ _ c.new-text.ensures.items c.in_ok-append_clauses.ensures.text c.in_ok-append_objectives.ensures.text clauses objectives in
    λ occur. subst (λ (bytes : List ℕ). Spells bytes i) (sym text)
    (printed_spells i (subst IsWithinLimits c.inst.view_is c.inst.invariant) c.requires
    (subst (All AreVariables) clauses c.in_ok-append_clauses.ensures.variables)
    (subst (All ArePrintable) objectives c.in_ok-append_objectives.ensures.variables) occur)
