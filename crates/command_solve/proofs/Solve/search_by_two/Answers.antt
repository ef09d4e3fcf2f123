use Rattle.std.proofs.Common.{◌≡◌, ◌∙◌, inl, length, refl, sym, subst, rules}
use Rattle.std.proofs.lemmas.Result.{IfOk-weaker}
use Rattle.bioptsat.specs.Aims.{Serves}
use Rattle.bioptsat.specs.declared.aim.Aim.{Aim}
use Rattle.bioptsat.specs.declared.aim.Aim.TheVariants.{Anything}
use Rattle.command_base.proofs.Answered.{idle}
use Rattle.command_solve.specs.Table.{SolveTable, solve_calls}
use Rattle.command_solve.specs.Words.{asked}
use Rattle.command_solve.proofs.SolveEnds.{objective_count}
use Rattle.command_solve.proofs.Solve.search_by_two.Goals as goal

pub boxed_search-requires : goal.boxed_search-requires
boxed_search-requires g c =
    let two : length c.args.inst.now.objectives ≡ 2 = search rules in
    let fresh : Serves Anything c.args.problem.now = record {
      count = objective_count c.args.inst.now c.args.problem.now c.requires.problem.normal ∙ two;
      numbers = tt;
    } in
    IfOk-weaker c.relaxed.result (λ (aim : Aim). aim ≡ Anything) (λ (aim : Aim). Serves aim c.args.problem.now)
    (λ (aim : Aim) is. subst (λ (a : Aim). Serves a c.args.problem.now) (sym is) fresh) c.relaxed.ensures

pub returns-in-Err : goal.returns-in-Err
returns-in-Err g c =
    let a = asked c.args.self.now in
    rw c.from.ensures (idle (SolveTable a) (solve_calls a) (g.H.Shelf.world c.args.shelf.now) (inl refl))
