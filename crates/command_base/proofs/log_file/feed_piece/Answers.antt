use Rattle.std.proofs.Common.{rules, ◌+◌, ◌<◌, ◌^◌, arith, ap}
use Rattle.std.specs.Prelude.{Err}
use Rattle.std.proofs.lemmas.Result.{err_from_is_err_and}
use Rattle.command_base.proofs.LogFed.{feeding_stops, fed_more, fed_all}
use Rattle.command_base.proofs.log_file.feed_piece.Goals as goal

pub returns-in_err-feed-clause-stop : goal.returns-in_err-feed-clause-stop
returns-in_err-feed-clause-stop g c =
    let f = c.requires.fed in
    let within : c.args.at + c.in_ok-n.n < 2 ^ 62 = search rules in
    let p = err_from_is_err_and c.from_residual-in_err-feed.result c.from_residual-in_err-feed.ensures.1 in
    rw (p.1, p.2)
    (feeding_stops _ _ (g.T.TakesLog.further _) _ _ _ _ _ f.fed c.read_at.new.into c.args.at c.in_ok-n.n f.count f.first c.in_ok-n.ensures.bytes (omega (arith, c.in_ok-n.ensures.bound)) within
    (λ k why is. c.in_err-feed.ensures.refused k why (ap Err is) f.fed f.stands))

pub returns-clause-more : goal.returns-clause-more
returns-clause-more g c =
    let f = c.requires.fed in
    fed_more _ _ _ _ _ c.args.at c.in_ok-n.n _ f c.in_ok-n.ensures.bytes (omega (arith, c.in_ok-n.ensures.bound)) (c.in_ok-feed.ensures.stands f.fed f.stands) (c.in_ok-feed.ensures.passed f.fed f.stands)

pub returns-clause-whole : goal.returns-clause-whole
returns-clause-whole g c = λ none.
    let f = c.requires.fed in
    fed_all _ _ _ _ _ c.args.at c.in_ok-n.n _ f c.in_ok-n.ensures.bytes (omega (arith, c.in_ok-n.ensures.bound)) (c.in_ok-feed.ensures.stands f.fed f.stands) (c.in_ok-feed.ensures.passed f.fed f.stands) none
