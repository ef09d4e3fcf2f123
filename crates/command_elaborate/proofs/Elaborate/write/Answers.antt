use Rattle.std.proofs.Common.{subst, ◌∙◌}
use Rattle.proof_lines.specs.declared.spelling.Spelling.TheVariants.{Plain}
use Rattle.command_base.specs.LogLines.{IsLogOf}
use Rattle.command_base.specs.Rewriting.{IsRewriteStop, IsRewritten}
use Rattle.command_elaborate.specs.Elaborating.{HasAnswered, Refuses}
use Rattle.command_elaborate.specs.Words.{ElaborateAsked}
use Rattle.command_elaborate.proofs.ElaborateEnds.{all_done, writing_stopped}
use Rattle.command_elaborate.proofs.Elaborate.write.Goals as goal

pub returns-in-Err : goal.returns-in-Err
returns-in-Err g c =
    let a : ElaborateAsked = c.args.self.now in
    let before = g.H.Shelf.world c.args.shelf.now in
    let after = g.H.Shelf.world c.rewrite_log.new.shelf in
    let lines = c.rewrite_log.new.answerer.elaborator in
    let e = c.in-Err.ensures in
    rw c.from.ensures
    (record {
      answered = writing_stopped a c.args.input.now.inst c.args.input.now.problem before c.requires.of_file lines (e.subject ∙ c.requires.problem) c.in-Err.stop after
          (subst (λ (b : ElaborateAsked). IsRewriteStop (HasAnswered lines) (Refuses lines) c.in-Err.stop before after b.log b.output Plain) c.self.view_is e.stop)
          e.said e.later;
      warned = e.warned;
    })

pub returns-in-Ok : goal.returns-in-Ok
returns-in-Ok g c =
    let w = g.H.Shelf.world in
    let lines = c.rewrite_log.new.answerer.elaborator in
    let e = c.in-Ok.ensures in
    all_done c.args.self.now c.args.input.now.inst c.args.input.now.problem (w c.args.shelf.now) c.requires.of_file lines (e.subject ∙ c.requires.problem) (w c.rewrite_log.new.shelf) (w c.say.new.shelf) c.say.result
    (subst (λ (b : ElaborateAsked). IsRewritten (HasAnswered lines) (w c.args.shelf.now).files (w c.rewrite_log.new.shelf).files b.log b.output Plain IsLogOf) c.self.view_is e.rewritten)
    e.said e.warned e.later c.say.ensures
