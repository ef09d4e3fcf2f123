use Rattle.std.proofs.Common.{subst}
use Rattle.proof_lines.specs.declared.spelling.Spelling.{Spelling}
use Rattle.command_base.specs.Rewriting.{IsRewriteStop, IsRewritten}
use Rattle.command_base.specs.LogLines.{IsLogOf}
use Rattle.command_upgrade.specs.Words.{UpgradeAsked}
use Rattle.command_upgrade.proofs.UpgradeEnds.{Same, all_done, writing_stopped}
use Rattle.command_upgrade.proofs.Upgrade.write.Goals as goal

pub returns-in-Err : goal.returns-in-Err
returns-in-Err g c =
    let a : UpgradeAsked = c.args.self.now in
    let before = g.H.Shelf.world c.args.shelf.now in
    let after = g.H.Shelf.world c.rewrite_log.new.shelf in
    let e = c.in-Err.ensures in
    rw c.from.ensures
    (record {
      answered = writing_stopped a c.args.input.now.inst c.args.input.now.problem before c.requires c.in-Err.stop after
          (subst (λ (s : Spelling). IsRewriteStop Same (λ line why. ⊥) c.in-Err.stop before after a.log a.output s) c.first_of-first.ensures.value
          (subst (λ (b : UpgradeAsked). IsRewriteStop Same (λ line why. ⊥) c.in-Err.stop before after b.log b.output c.first_of-first.result) c.self.view_is e.stop))
          e.said e.later;
      warned = e.warned;
    })

pub returns-in-Ok : goal.returns-in-Ok
returns-in-Ok g c =
    let w = g.H.Shelf.world in
    let e = c.in-Ok.ensures in
    all_done c.args.self.now c.args.input.now.inst c.args.input.now.problem (w c.args.shelf.now) c.requires (w c.rewrite_log.new.shelf) (w c.say.new.shelf) c.say.result
    (subst (λ (s : Spelling). IsRewritten Same (w c.args.shelf.now).files (w c.rewrite_log.new.shelf).files c.args.self.now.log c.args.self.now.output s IsLogOf) c.first_of-first.ensures.value
    (subst (λ (b : UpgradeAsked). IsRewritten Same (w c.args.shelf.now).files (w c.rewrite_log.new.shelf).files b.log b.output c.first_of-first.result IsLogOf) c.self.view_is e.rewritten))
    e.said e.warned e.later c.say.ensures
