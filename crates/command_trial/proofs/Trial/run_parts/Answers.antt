use Rattle.std.proofs.Common.{◌∙◌, sym}
use Rattle.command_trial.specs.Words.{asked}
use Rattle.command_trial.proofs.TrialEnds.{first_ended, second_ended, third_ended}
use Rattle.command_trial.proofs.Trial.run_parts.Goals as goal

pub returns-then-not-goes_on : goal.returns-then-not-goes_on
returns-then-not-goes_on g c =
    let w = g.H.Shelf.world in
    let made = c.run-made in
    record {
      answered = first_ended (asked c.args.self.now) c.args.input.now c.args.list.now c.args.log.now c.requires _ made.result (w c.args.shelf.now) (w made.new.shelf) c.gen_in-gen_part.ensures
          (sym c.goes_on.ensures ∙ c.if-not-goes_on.true) made.ensures.answered;
      warned = made.ensures.warned;
    }

pub returns-then-not-goes_on-2 : goal.returns-then-not-goes_on-2
returns-then-not-goes_on-2 g c =
    let w = g.H.Shelf.world in
    let made = c.run-made in
    let solved = c.run-solved in
    record {
      answered = second_ended (asked c.args.self.now) c.args.input.now c.args.list.now c.args.log.now c.requires _ _ made.result solved.result (w c.args.shelf.now) (w made.new.shelf) (w solved.new.shelf) c.gen_in-gen_part.ensures
          (sym c.goes_on.ensures ∙ c.if-not-goes_on.false) made.ensures.answered c.solve_in-solve_part.ensures
          (sym c.goes_on-2.ensures ∙ c.if-not-goes_on-2.true) solved.ensures.answered;
      warned = solved.ensures.warned ∙ made.ensures.warned;
    }

pub returns : goal.returns
returns g c =
    let w = g.H.Shelf.world in
    let made = c.run-made in
    let solved = c.run-solved in
    record {
      answered = third_ended (asked c.args.self.now) c.args.input.now c.args.list.now c.args.log.now c.requires _ _ _ made.result solved.result c.run.result (w c.args.shelf.now) (w made.new.shelf) (w solved.new.shelf) (w c.run.new.shelf)
          c.gen_in-gen_part.ensures (sym c.goes_on.ensures ∙ c.if-not-goes_on.false) made.ensures.answered c.solve_in-solve_part.ensures
          (sym c.goes_on-2.ensures ∙ c.if-not-goes_on-2.false) solved.ensures.answered c.check_in-check_part.ensures c.run.ensures.answered;
      warned = c.run.ensures.warned ∙ solved.ensures.warned ∙ made.ensures.warned;
    }
