-- Lines that an adviser proposed, before a search.
use Rattle.std.proofs.Common.{◌≡◌, List, ◌++◌, Result, Ok, Err, ap, ◌∙◌, arith}
use Rattle.std.specs.Prelude.{IfErr, OnOk}
use Rattle.pb_lin.specs.Problem.{ProblemValue}
use Rattle.proof_laws.specs.declared.line.Line.{Line}
use Rattle.proof_rules.specs.Recording.{KeepsRecorder, Snapshot}
use Rattle.proof_rules.specs.declared.recorder.RecordFault.{RecordFault}
use Rattle.proof_rules.specs.declared.recorder.RecordFault.TheVariants.{Failed, Full, NoMemory}
use Rattle.recording.specs.Adding.{Adds, IsFaultAt}
use Rattle.recording.specs.Advice.{IsAdvice}
use Rattle.recording.specs.Recorded.{IsReady}
use Rattle.sum_outputs.proofs.LaterStates.{around_twice}
use Rattle.search_base.specs.Laws.{AdvisedStaysPrepared, IsPrepared}
use Rattle.certified_front.specs.Planning.{ArePrepared, hardened_by}
use Rattle.certified_front.specs.Stopping.{IsStop}
use Rattle.certified_front.specs.declared.preparing.Plan.{Plan}

-- ---- one call of an adviser

pub ready_for : (a : Snapshot) → IsPrepared a → IsReady a
ready_for a prepared = let ready = prepared.ready in record {
  whole = ready.whole;
  state = ready.state;
  reached = ready.reached;
  unended = ready.unended;
}

pub advised_prepared : {T : Type 0} (a b : Snapshot) (r : Result T RecordFault) → AdvisedStaysPrepared → IsPrepared a
    → Adds IsAdvice a b → OnOk r (IsReady b) → OnOk r (IsPrepared b)
advised_prepared a b (Ok x) law prepared adds ready = law a b prepared adds ready.whole
advised_prepared a b (Err f) law prepared adds ready = tt

stop_by : (a b : Snapshot) (f : RecordFault) → IsFaultAt a b f → IsStop a b f
stop_by a b Failed is = is
stop_by a b Full is = is.0
stop_by a b NoMemory is = tt

pub advised_stop : {T : Type 0} (a b : Snapshot) (r : Result T RecordFault) → IfErr r (IsFaultAt a b) → IfErr r (IsStop a b)
advised_stop a b (Ok x) fault = tt
advised_stop a b (Err f) fault = stop_by a b f fault

-- ---- one call after another

pub keeps_then : (a b c : Snapshot) → KeepsRecorder a b → KeepsRecorder b c → KeepsRecorder a c
keeps_then a b c one other = record {
  problem = other.problem ∙ one.problem;
  limit = other.limit ∙ one.limit;
  around = around_twice a.around b.around c.around one.around other.around;
  later = let x = one.later in let y = other.later in omega arith;
}

pub advised_keeps : (a b : Snapshot) → Adds IsAdvice a b → KeepsRecorder a b
advised_keeps a b adds = record { problem = adds.problem; limit = adds.limit; around = adds.around; later = adds.later }

stop_then : (a b c : Snapshot) (f : RecordFault) → KeepsRecorder a b → IsStop b c f → IsStop a c f
stop_then a b c Failed keeps is = let x = keeps.later in omega arith
stop_then a b c Full keeps is = is
stop_then a b c NoMemory keeps is = tt

pub stops_then : {T : Type 0} (a b c : Snapshot) (r : Result T RecordFault) → KeepsRecorder a b → IfErr r (IsStop b c)
    → IfErr r (IsStop a c)
stops_then a b c (Ok x) keeps is = tt
stops_then a b c (Err f) keeps is = stop_then a b c f keeps is

-- hardening's lines, and those of an adviser after them
pub prepared_then : {T : Type 0} (plan : Plan) (p : ProblemValue) (a b : Snapshot) (r : Result T RecordFault)
    → a.lines ≡ hardened_by plan p → Adds IsAdvice a b → OnOk r (ArePrepared plan p b.lines)
prepared_then plan p a b (Ok x) first adds = record {
  advised = adds.more;
  is = adds.lines ∙ ap (λ (ls : List Line). ls ++ adds.more) first;
  kinds = adds.kinds;
}
prepared_then plan p a b (Err f) first adds = tt
