use Rattle.std.proofs.Common.{◌∙◌, ◌<◌, ◌^◌, length, sym, subst, arith}
use Rattle.instance.specs.Shape.{InstanceValue, IsWithinLimits}
use Rattle.command_gen.proofs.Drawing.{made_is}
use Rattle.command_gen.specs.Printed.{AllOccur, IsPlain, mcnf_text}
use Rattle.command_gen.proofs.Occurring.{generated_occurs}
use Rattle.command_gen.proofs.Plain.{generated_plain}
use Rattle.command_gen.proofs.Short.{generated_short}
use Rattle.command_gen.proofs.Within.{generated_within}
use Rattle.command_gen.proofs.making.make.Goals as goal

pub new-requires-2 : goal.new-requires-2
new-requires-2 c =
    let is = made_is c.args.number c.args.vars c.args.objectives c.from.result c.new-draws.result c.draw_clauses.new.draws c.in_ok-clauses.clauses c.new.result c.in_ok-objectives.objectives
    c.from.ensures c.new-draws.ensures c.in_ok-clauses.ensures.clauses c.new.ensures c.in_ok-clauses.ensures.state c.in_ok-objectives.ensures.objectives in
    subst IsWithinLimits (sym is) (generated_within c.args.vars (omega (arith, c.requires.vars.0)) c.requires.vars.1 c.args.number c.args.objectives c.requires.objectives.1)

pub returns-clause-instance : goal.returns-clause-instance
returns-clause-instance c =
    c.new-2.ensures
    ∙ made_is c.args.number c.args.vars c.args.objectives c.from.result c.new-draws.result c.draw_clauses.new.draws c.in_ok-clauses.clauses c.new.result c.in_ok-objectives.objectives
    c.from.ensures c.new-draws.ensures c.in_ok-clauses.ensures.clauses c.new.ensures c.in_ok-clauses.ensures.state c.in_ok-objectives.ensures.objectives

pub returns-clause-occur : goal.returns-clause-occur
returns-clause-occur c =
    subst AllOccur (sym (
    c.new-2.ensures
    ∙ made_is c.args.number c.args.vars c.args.objectives c.from.result c.new-draws.result c.draw_clauses.new.draws c.in_ok-clauses.clauses c.new.result c.in_ok-objectives.objectives
    c.from.ensures c.new-draws.ensures c.in_ok-clauses.ensures.clauses c.new.ensures c.in_ok-clauses.ensures.state c.in_ok-objectives.ensures.objectives))
    (generated_occurs c.args.number c.args.vars c.args.objectives (omega (arith, c.requires.vars.0)) c.requires.vars.1 (omega (arith, c.requires.objectives.0)) c.requires.objectives.1)

pub returns-clause-plain : goal.returns-clause-plain
returns-clause-plain c =
    subst IsPlain (sym (
    c.new-2.ensures
    ∙ made_is c.args.number c.args.vars c.args.objectives c.from.result c.new-draws.result c.draw_clauses.new.draws c.in_ok-clauses.clauses c.new.result c.in_ok-objectives.objectives
    c.from.ensures c.new-draws.ensures c.in_ok-clauses.ensures.clauses c.new.ensures c.in_ok-clauses.ensures.state c.in_ok-objectives.ensures.objectives))
    (generated_plain c.args.number c.args.vars c.args.objectives)

pub returns-clause-short : goal.returns-clause-short
returns-clause-short c =
    subst (λ (i : InstanceValue). length (mcnf_text i) < 2 ^ 32) (sym (
    c.new-2.ensures
    ∙ made_is c.args.number c.args.vars c.args.objectives c.from.result c.new-draws.result c.draw_clauses.new.draws c.in_ok-clauses.clauses c.new.result c.in_ok-objectives.objectives
    c.from.ensures c.new-draws.ensures c.in_ok-clauses.ensures.clauses c.new.ensures c.in_ok-clauses.ensures.state c.in_ok-objectives.ensures.objectives))
    (generated_short c.args.vars (omega (arith, c.requires.vars.0)) c.requires.vars.1 c.args.number c.args.objectives c.requires.objectives.1)
