-- What is on the board at the end covers what is logged.
use Rattle.std.proofs.Common.{◌∙◌, subst}
use Rattle.pb_lin.specs.Problem.{ProblemValue}
use Rattle.certified_front.specs.Certified.{IsEnding}
use Rattle.certified_front.proofs.Boards.{covers_logged}
use Rattle.certified_front.proofs.searching.front_on.Goals as goal

pub returns : goal.returns
returns g c =
    let R = g.O.Recorder in
    let new = c.search_to_the_end.new in
    let a = R.seen c.args.oracle.now in
    let b = R.seen new.oracle in
    let ended = c.in_ok-ending.ensures in
    let made = c.in_ok-entries.ensures.ok in
    let same = rw made at c.listed_models.ensures.same in
    let rising = rw made at c.listed_models.ensures.rising in
    record {
      covers = covers_logged c.logged_is_reached.ensures c.args.inst.now a.problem b.problem b.lines new.board
          c.in_ok-entries.entries.items (ended.board.instance ∙ c.requires.instance) ended.stays.problem ended.entries
          same rising;
      ending = subst (λ (p : ProblemValue). IsEnding a.limit p b.lines c.in_ok-ending.ending) ended.stays.problem
          ended.ending;
      whole = ended.whole;
      stop = tt;
      stays = ended.stays;
    }
