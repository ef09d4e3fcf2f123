-- A search after boosting, or after a plan.
use Rattle.std.proofs.Common.{◌≡◌, Option, List, Result, Ok, Err, IfOk, ◌++◌, ℕ, arith, subst, sym, ◌∙◌}
use Rattle.std.specs.Prelude.{IfErr, IsErrAnd}
use Rattle.instance.specs.Shape.{InstanceValue}
use Rattle.pb_lin.specs.Problem.{ProblemValue}
use Rattle.proof_laws.specs.Earned.{IsBoosted}
use Rattle.proof_laws.specs.declared.line.Line.{Line}
use Rattle.proof_rules.specs.Recording.{Snapshot}
use Rattle.proof_rules.specs.declared.recorder.RecordFault.{RecordFault}
use Rattle.proof_rules.specs.declared.recorder.RecordFault.TheVariants.{Failed, Full, NoMemory}
use Rattle.search_base.specs.Good.{GoesOn}
use Rattle.core_boosting.specs.Boosting.{BoostedStays}
use Rattle.certified_front.specs.Certified.{IsEnding}
use Rattle.certified_front.specs.Planning.{IsBoostedAtEnd}
use Rattle.certified_front.specs.Stopping.{IsStop, SearchesFront, StaysWith}
use Rattle.certified_front.specs.declared.ending.Ending.{Ending}
use Rattle.certified_front.specs.declared.ending.Ending.TheVariants.{Complete, Incomplete}
use Rattle.certified_front.specs.declared.ending.Found.{Found}
use Rattle.search_base.proofs.Turning.{goes_again}
use Rattle.certified_front.proofs.EndLines.{search_begins, stays_after, stays_by_turns}

-- ---- boosted lines

boosted_then : (p : ProblemValue) (lines : List Line) (how : Ending) → IsBoosted p lines → IsBoostedAtEnd p lines how
boosted_then p lines Complete is = is
boosted_then p lines (Incomplete learned) is = tt

-- what was boosted before a search is so at its end
pub boosted_at_end : BoostedStays → (p : ProblemValue) (a b : Snapshot) (r : Result Found RecordFault) → IsBoosted p a.lines
    → StaysWith a b → IfOk r (λ found. IsBoostedAtEnd p b.lines found.ending)
boosted_at_end law p a b (Ok found) is stays =
    let begins = search_begins a.problem a.lines b.lines stays.lines in
    boosted_then p b.lines found.ending
    (subst (λ (ls : List Line). IsBoosted p ls) (sym begins.1) (law p a.lines begins.0 is))
boosted_at_end law p a b (Err fault) is stays = tt

-- ---- no search

-- memory was wanted before anything was done
pub no_front : (i : InstanceValue) (p : ProblemValue) (a : Snapshot) (fault : RecordFault) (r : Result Found RecordFault)
    → fault ≡ NoMemory → IsErrAnd r (λ f. f ≡ fault) → SearchesFront i p a a r
no_front i p a fault (Ok found) is handed = absurd handed
no_front i p a fault (Err f) is handed = record {
  covers = tt;
  ending = tt;
  whole = tt;
  stop = subst (IsStop a a) (sym (handed ∙ is)) tt;
  stays = stays_by_turns a a (goes_again a);
}

-- ---- a search after turns

stop_after : (a m b : Snapshot) (f : RecordFault) → GoesOn a m → IsStop m b f → IsStop a b f
stop_after a m b Failed on is = let x = on.later in omega arith
stop_after a m b Full on is = is
stop_after a m b NoMemory on is = tt

stops_after : (a m b : Snapshot) (r : Result Found RecordFault) → GoesOn a m → IfErr r (IsStop m b) → IfErr r (IsStop a b)
stops_after a m b (Ok found) on is = tt
stops_after a m b (Err fault) on is = stop_after a m b fault on is

pub searches_after : (i : InstanceValue) (p : ProblemValue) (a m b : Snapshot) (r : Result Found RecordFault) → GoesOn a m
    → SearchesFront i p m b r → SearchesFront i p a b r
searches_after i p a m b r on front = record {
  covers = front.covers;
  ending = subst (λ (n : Option ℕ). IfOk r (λ found. IsEnding n p b.lines found.ending)) on.limit front.ending;
  whole = front.whole;
  stop = stops_after a m b r on front.stop;
  stays = stays_after a m b on front.stays;
}
