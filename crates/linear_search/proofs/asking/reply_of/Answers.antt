use Rattle.std.proofs.Common.{Ok}
use Rattle.recording.specs.Advice.{IsConservative}
use Rattle.recording.proofs.LinesOfKind.{added_none}
use Rattle.linear_search.specs.declared.reply.Reply.TheVariants.{Unknown}
use Rattle.linear_search.proofs.asking.reply_of.Goals as goal

pub returns-in-Model-clause-recorded : goal.returns-in-Model-clause-recorded
returns-in-Model-clause-recorded g c =
    let a = let R = g.R.Recorder in R.seen c.args.rec.now in
    added_none IsConservative a (Ok c.proposal.result) c.requires.ready.whole tt

pub returns-in-Model-clause-reply : goal.returns-in-Model-clause-reply
returns-in-Model-clause-reply g c = c.proposal.ensures.reply c.args.assumed.now

pub returns-in-Nothing-clause-recorded : goal.returns-in-Nothing-clause-recorded
returns-in-Nothing-clause-recorded g c =
    let a = let R = g.R.Recorder in R.seen c.args.rec.now in
    added_none IsConservative a (Ok Unknown) c.requires.ready.whole tt
