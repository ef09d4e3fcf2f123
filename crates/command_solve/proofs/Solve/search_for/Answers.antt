use Rattle.std.proofs.Common.{◌≡◌, ◌∙◌, length, sym, subst, rules}
use Rattle.std.proofs.lemmas.Result.{IfOk-weaker}
use Rattle.bioptsat.specs.Aims.{Serves}
use Rattle.bioptsat.specs.declared.aim.Aim.{Aim}
use Rattle.bioptsat.specs.declared.aim.Aim.TheVariants.{Anything}
use Rattle.command_solve.specs.Words.{asked}
use Rattle.command_solve.specs.declared.options.SearchKind.TheVariants.{BiOptSat}
use Rattle.command_solve.proofs.SolveEnds.{objective_count}
use Rattle.command_solve.proofs.TurnNumbers.{two_objectives}
use Rattle.command_solve.proofs.Solve.search_for.Goals as goal

pub search_made-requires-in-BiOptSat-clause-serves : goal.search_made-requires-in-BiOptSat-clause-serves
search_made-requires-in-BiOptSat-clause-serves g c =
    let kind : c.args.self.now.search ≡ BiOptSat = search rules in
    let two : length c.args.inst.now.objectives ≡ 2 = two_objectives (asked c.args.self.now) c.args.inst.now kind c.requires.problem.search in
    let fresh : Serves Anything c.args.problem.now = record {
      count = objective_count c.args.inst.now c.args.problem.now c.requires.problem.normal ∙ two;
      numbers = tt;
    } in
    IfOk-weaker c.relaxed-made-in-BiOptSat.result (λ (aim : Aim). aim ≡ Anything)
    (λ (aim : Aim). Serves aim c.args.problem.now)
    (λ (aim : Aim) is. subst (λ (a : Aim). Serves a c.args.problem.now) (sym is) fresh) c.relaxed-made-in-BiOptSat.ensures
