use Rattle.command_gen.proofs.GenEnds.{text_is, text_spells}
use Rattle.command_gen.proofs.text_of.Goals as goal

pub returns-clause-text : goal.returns-clause-text
returns-clause-text c = text_is _ c.in_ok-inst.inst _ c.in_ok-inst.ensures.instance c.in_ok-text.ensures.text

pub returns-clause-spelled : goal.returns-clause-spelled
returns-clause-spelled c =
    text_spells _ c.in_ok-inst.inst _ c.in_ok-inst.ensures.instance c.in_ok-text.ensures.text c.in_ok-inst.ensures.short c.in_ok-inst.ensures.occur c.in_ok-text.ensures.spells
