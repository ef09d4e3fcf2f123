-- Lines of one kind that were taken.
use Rattle.std.proofs.Common.{◌≡◌, false, Ok, Err, List, subst, sym, take}
use Rattle.std.specs.Prelude.{IfErr, IsErrAnd, Result}
use Rattle.std.specs.List.{All}
use Rattle.std.proofs.lemmas.List.Elements.{All-take}
use Rattle.proof_laws.specs.declared.line.Line.{Line}
use Rattle.proof_rules.specs.Recording.{Snapshot}
use Rattle.proof_rules.specs.declared.recorder.RecordFault.{RecordFault}
use Rattle.proof_rules.specs.declared.recorder.RecordFault.TheVariants.{NoMemory}
use Rattle.recording.specs.Adding.{Adds, IsAdded, IsFaultAt}
use Rattle.recording.specs.Advice.{TakesSome}
use Rattle.recording.proofs.LaterStates.{adds_again, memory_err}

module _ (K : Line → Type 0) where
  -- nothing but lines of a kind was added where all that were handed in are of it
  pub taken_kind : (a b : Snapshot) (given : List Line) → All K given → TakesSome a b given → Adds K a b
  taken_kind a b given kinds (n, takes) = record {
    problem = takes.adds.problem;
    limit = takes.adds.limit;
    later = takes.adds.later;
    around = takes.adds.around;
    more = take n given;
    lines = takes.lines;
    kinds = All-take K n given kinds;
    states = takes.adds.states;
  }

  module _ {T : Type 0} (a : Snapshot) where
    -- nothing was added, and memory alone may have been refused
    pub added_none : (r : Result T RecordFault) → a.broken ≡ false → IfErr r (λ f. f ≡ NoMemory) → IsAdded K a a r
    added_none (Ok x) whole fault = record { continues = adds_again K a; whole = whole; fault = tt }
    added_none (Err f) whole fault = record {
      continues = adds_again K a;
      whole = tt;
      fault = subst (IsFaultAt a a) (sym fault) tt;
    }

    -- a want of memory that is handed on
    pub refused_none : (f : RecordFault) (r : Result T RecordFault) → f ≡ NoMemory → IsErrAnd r (λ g. g ≡ f) → IsAdded K a a r
    refused_none f r memory is = memory_err K a a r (adds_again K a) (subst (λ (h : RecordFault). IsErrAnd r (λ g. g ≡ h)) memory is)
