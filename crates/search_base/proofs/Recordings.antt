-- Answers of recorders that are handed on.
use Rattle.std.proofs.Common.{◌≡◌, Result, Ok, Err, subst}
use Rattle.std.specs.Prelude.{IfOk, IsErrAnd, OnOk}
use Rattle.proof_rules.specs.Recording.{Snapshot}
use Rattle.proof_rules.specs.declared.recorder.RecordFault.{RecordFault}
use Rattle.proof_rules.specs.declared.recorder.RecordFault.TheVariants.{NoMemory}
use Rattle.sum_outputs.specs.Adding.{Continues, IsRecorded}
use Rattle.sum_outputs.proofs.LaterStates.{memory_err}

pub memory_handed : {T : Type 0} (a b : Snapshot) (f : RecordFault) (r : Result T RecordFault) → Continues a b →
    f ≡ NoMemory → IsErrAnd r (λ g. g ≡ f) → IsRecorded a b r
memory_handed {T} a b f r on none is =
    memory_err a b r on (subst (λ (h : RecordFault). IsErrAnd r (λ g. g ≡ h)) none is)

-- what is so where a call went well, with what is so of its answer
pub if_on : {T E : Type 0} (r : Result T E) (P : Type 0) (Q S : T → Type 0) → ((x : T) → P → Q x → S x) → OnOk r P →
    IfOk r Q → IfOk r S
if_on (Ok x) P Q S both p q = both x p q
if_on (Err e) P Q S both p q = tt

-- the same with two facts of the answer
pub if_on_both : {T E : Type 0} (r : Result T E) (P : Type 0) (Q R S : T → Type 0) →
    ((x : T) → P → Q x → R x → S x) → OnOk r P → IfOk r Q → IfOk r R → IfOk r S
if_on_both (Ok x) P Q R S all p q s = all x p q s
if_on_both (Err e) P Q R S all p q s = tt

-- and where only the call is spoken of
pub on_if : {T E : Type 0} (r : Result T E) (P : Type 0) (Q : T → Type 0) (S : Type 0) → ((x : T) → P → Q x → S) →
    OnOk r P → IfOk r Q → OnOk r S
on_if (Ok x) P Q S both p q = both x p q
on_if (Err e) P Q S both p q = tt
