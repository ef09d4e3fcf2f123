use Rattle.watch_prop.proofs.WatchVisits.{followed_none, followed_twice}
use Rattle.watch_prop.proofs.watches.Watches.look_at_all.Goals as goal

pub loop-self-init : goal.loop-self-init
loop-self-init c = record { ready = c.requires.ready; followed = followed_none c.args.self.now c.args.trail.now }

pub returns-in_err-id-clause-followed : goal.returns-in_err-id-clause-followed
returns-in_err-id-clause-followed c =
    followed_twice c.args.self.now c.loop-self.self c.look.new.self c.args.trail.now c.loop-self.trail c.look.new.trail c.loop-self.invariant.followed c.in_err-id.ensures.followed

pub returns-in-Some-clause-followed : goal.returns-in-Some-clause-followed
returns-in-Some-clause-followed c =
    followed_twice c.args.self.now c.loop-self.self c.look.new.self c.args.trail.now c.loop-self.trail c.look.new.trail c.loop-self.invariant.followed c.in_ok-id.ensures.followed

pub loop-self-preserved : goal.loop-self-preserved
loop-self-preserved c = record {
  ready = c.in_ok-id.ensures.ready;
  followed = followed_twice c.args.self.now c.loop-self.self c.look.new.self c.args.trail.now c.loop-self.trail c.look.new.trail c.loop-self.invariant.followed c.in_ok-id.ensures.followed;
}
