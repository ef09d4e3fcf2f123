-- States after conservative lines were added.
use Rattle.std.proofs.Common.{◌≡◌, Bool, false, ◌++◌, ◌∷◌, [], List, refl, Ok, Err}
use Rattle.std.specs.Prelude.{IsErrAnd, Result}
use Rattle.proof_laws.specs.State.{StateValue}
use Rattle.proof_laws.specs.declared.line.Line.{Line}
use Rattle.proof_laws.specs.declared.line.Line.TheVariants.{Pol, Rup, Def, Red}
use Rattle.proof_rules.specs.Recording.{Snapshot, KeepsRecorder}
use Rattle.proof_rules.specs.declared.recorder.RecordFault.{RecordFault}
use Rattle.proof_rules.specs.declared.recorder.RecordFault.TheVariants.{NoMemory}
use Rattle.recording.specs.Adding.{OnlyAdd}
use Rattle.recording.proofs.LaterStates as any
pub use Rattle.recording.proofs.LaterStates.{deletes, learns, get_other, KeepsLive, line_keeps, not_learned_later, replay_vars, new_not_learned, after_not_learned, own_later, reduced_later, around_again, around_twice, later_twice, added_fault, if_ok_both}
use Rattle.recording.specs.Advice.{IsConservative}
use Rattle.sum_outputs.specs.Adding.{IsReached, Always, IsReady, Continues, IsFaultAt, IsRecorded}

only_conservative : OnlyAdd IsConservative
only_conservative (Pol tokens) is = refl
only_conservative (Def var sum) is = refl
only_conservative (Rup goal hints) is = refl
only_conservative (Red goal w proofs) is = refl
only_conservative line is = absurd is

-- nothing was added
pub continues_same : (a b : Snapshot) → KeepsRecorder a b → b.lines ≡ a.lines → Continues a b
continues_same = any.adds_same IsConservative

pub continues_again : (a : Snapshot) → Continues a a
continues_again = any.adds_again IsConservative

-- one line was added
pub continues_more : (a b : Snapshot) (line : Line) (s t : StateValue) → KeepsRecorder a b → b.lines ≡ a.lines ++ line ∷ []
    → IsConservative line → IsReached a s → IsReached b t → Continues a b
continues_more a b line s t keeps lines kind = any.adds_more IsConservative a b line s t keeps lines kind only_conservative

-- one after the other
pub continues_twice : (a b c : Snapshot) → Continues a b → Continues b c → Continues a c
continues_twice = any.adds_twice IsConservative

-- what is so wherever the kept clauses hold stays so
pub always_later : (a b : Snapshot) (P : List Bool → Type 0) → IsReady a → Continues a b → Always a P → Always b P
always_later = any.always_later IsConservative

pub ready_later : (a b : Snapshot) → IsReady a → Continues a b → b.broken ≡ false → IsReady b
ready_later = any.ready_later IsConservative

-- ---- calls

-- a fault after others
pub fault_later : (a b c : Snapshot) (f : RecordFault) → Continues a b → IsFaultAt b c f → IsFaultAt a c f
fault_later = any.fault_later IsConservative

pub recorded_ok : {T : Type 0} (a b : Snapshot) (x : T) → Continues a b → b.broken ≡ false → IsRecorded a b (Ok x)
recorded_ok = any.recorded_ok IsConservative

pub recorded_err : {T : Type 0} (a b : Snapshot) (f : RecordFault) (r : Result T RecordFault) → r ≡ Err f → Continues a b
    → IsFaultAt a b f → IsRecorded a b r
recorded_err = any.recorded_err IsConservative

-- a fault that a call answered after others were made
pub handed_on : {T U : Type 0} (a b c : Snapshot) (f g : RecordFault) (r : Result T RecordFault) → r ≡ Err g → g ≡ f
    → Continues a b → IsRecorded {T = U} b c (Err f) → IsRecorded a c r
handed_on {T} {U} = any.handed_on IsConservative {T = T} {U = U}

-- a call after others, whose answer is handed on
pub recorded_after : {T : Type 0} (a b c : Snapshot) (r : Result T RecordFault) → Continues a b → IsRecorded b c r
    → IsRecorded a c r
recorded_after = any.recorded_after IsConservative

-- a want of memory, which `?` makes a fault
pub memory_err : {T : Type 0} (a b : Snapshot) (r : Result T RecordFault) → Continues a b
    → IsErrAnd r (λ f. f ≡ NoMemory) → IsRecorded a b r
memory_err = any.memory_err IsConservative

-- a fault that `?` hands on
pub handed_err : {T U : Type 0} (a b c : Snapshot) (f : RecordFault) (r : Result T RecordFault) → Continues a b
    → IsRecorded {T = U} b c (Err f) → IsErrAnd r (λ g. g ≡ f) → IsRecorded a c r
handed_err {T} {U} = any.handed_err IsConservative {T = T} {U = U}
