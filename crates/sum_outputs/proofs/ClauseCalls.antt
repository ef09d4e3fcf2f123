-- Calls that add clauses, one after the other, and what they say.
use Rattle.std.proofs.Common.{◌≡◌, ℕ, ◌+◌, ◌<◌, ⊎_elim, ◌⊎◌, [], ◌∷◌, List, get_or, length, subst, sym, refl, arith, Ok, Err}
use Rattle.std.specs.Prelude.{◌-◌, OnOk, IsErrAnd, Result}
use Rattle.std.proofs.lemmas.Bool.{cases_order}
use Rattle.std.proofs.lemmas.List.{get_or_read_under}
use Rattle.std.proofs.lemmas.Result.{err_from_is_err_and}
use Rattle.proof_rules.specs.Recording.{Snapshot}
use Rattle.proof_rules.specs.declared.recorder.RecordFault.{RecordFault}
use Rattle.proof_rules.specs.declared.recorder.RecordFault.TheVariants.{NoMemory}
use Rattle.sum_outputs.specs.Adding.{AddsClauses, Always, Continues, DefinesMore, IsReady, IsRecorded}
use Rattle.sum_outputs.specs.Outputs.{Imply}
use Rattle.sum_outputs.specs.Joining.{PairsImply, SinglesImply}
use Rattle.sum_outputs.specs.declared.sum_output.SumOutput.{SumOutput}
use Rattle.sum_outputs.proofs.LaterStates.{always_later, continues_again, handed_err, memory_err, recorded_after, recorded_ok}
use Rattle.sum_outputs.proofs.OutputsLater.{IsUnderWay, way_starts, way_ready, way_on}
use Rattle.sum_outputs.proofs.JoinMeaning.{lesser_map}

-- ---- one call

-- nothing had to be added
pub adds_nothing : {T : Type 0} (a : Snapshot) (x : T) (P : Type 0) → IsReady a → P → AddsClauses a a (Ok x) P
adds_nothing a x P ready says = record { recorded = recorded_ok a a x (continues_again a) ready.whole; says = says; defines_none = omega arith }

on_err : {T : Type 0} (r : Result T RecordFault) (P : Type 0) (Q : RecordFault → Type 0) → IsErrAnd r Q → OnOk r P
on_err {T} r P Q is = let p = err_from_is_err_and r is in subst (λ (q : Result T RecordFault). OnOk q P) (sym p.1) tt

-- a want of memory, which `?` makes a fault
pub adds_memory : {T : Type 0} (a b : Snapshot) (r : Result T RecordFault) (P : Type 0) → Continues a b → IsErrAnd r (λ f. f ≡ NoMemory) → AddsClauses a b r P
adds_memory a b r P on is = record { recorded = memory_err a b r on is; says = on_err r P (λ f. f ≡ NoMemory) is; defines_none = on_err r (DefinesMore a b 0) (λ f. f ≡ NoMemory) is }

-- a fault that `?` hands on
pub adds_err : {T U : Type 0} (a b c : Snapshot) (f : RecordFault) (r : Result T RecordFault) (P : Type 0) → Continues a b → IsRecorded {T = U} b c (Err f) → IsErrAnd r (λ g. g ≡ f) → AddsClauses a c r P
adds_err a b c f r P on call is = record { recorded = handed_err a b c f r on call is; says = on_err r P (λ g. g ≡ f) is; defines_none = on_err r (DefinesMore a c 0) (λ g. g ≡ f) is }

-- the last of several, whose answer is handed on
pub adds_after : {T : Type 0} (a b c : Snapshot) (r : Result T RecordFault) (P Q : Type 0) → Continues a b → DefinesMore a b 0 → (P → Q) → AddsClauses b c r P → AddsClauses a c r Q
adds_after a b c (Ok x) P Q on none gives call = record { recorded = recorded_after a b c (Ok x) on call.recorded; says = gives call.says; defines_none = let here = call.defines_none in omega arith }
adds_after a b c (Err f) P Q on none gives call = record { recorded = recorded_after a b c (Err f) on call.recorded; says = tt; defines_none = tt }

-- ---- what was said stays so

pub singles_later : (a b : Snapshot) → IsReady a → Continues a b → (parts : List SumOutput) (o : SumOutput) (below : ℕ) → SinglesImply a parts o below → SinglesImply b parts o below
singles_later a b ready on parts o below says = lesser_map parts o.sum below (λ (q : SumOutput). Always a (Imply (q ∷ []) o)) (λ (q : SumOutput). Always b (Imply (q ∷ []) o))
    (λ q is. always_later a b (Imply (q ∷ []) o) ready on is) says

pub pairs_later : (a b : Snapshot) → IsReady a → Continues a b → (part : SumOutput) (others : List SumOutput) (o : SumOutput) (below : ℕ) → PairsImply a part others o below → PairsImply b part others o below
pairs_later a b ready on part others o below says = lesser_map others (o.sum - part.sum) (below - part.sum) (λ (q : SumOutput). Always a (Imply (part ∷ q ∷ []) o)) (λ (q : SumOutput). Always b (Imply (part ∷ q ∷ []) o))
    (λ q is. always_later a b (Imply (part ∷ q ∷ []) o) ready on is) says

-- ---- a call for each element of a list

-- clauses were added for the first elements, and P is so of each of them
pub record AreAddedTo (a b : Snapshot) (P : SumOutput → Type 0) (os : List SumOutput) (count : ℕ) : Type 0 where
  pub way : IsUnderWay a b
  pub defines_none : DefinesMore a b 0
  pub done : (k : ℕ) (d : SumOutput) → k < count → P (get_or os k d)

pub added_none : (a : Snapshot) (P : SumOutput → Type 0) (os : List SumOutput) → IsReady a → AreAddedTo a a P os 0
added_none a P os ready = record { way = way_starts a ready; defines_none = omega arith; done = λ k d low. absurd (omega arith) }

-- one more
pub added_more : (a b c : Snapshot) (P Q : SumOutput → Type 0) (os : List SumOutput) (count : ℕ) (x : SumOutput) → IsReady a → (IsReady b → Continues b c → (o : SumOutput) → P o → Q o) → AreAddedTo a b P os count →
    x ≡ get_or os count x → count < length os → IsRecorded {T = Unit {0}} b c (Ok tt) → DefinesMore b c 0 → Q x → AreAddedTo a c Q os (count + 1)
added_more a b c P Q os count x ready later so_far is short call none says = record {
  way = way_on a b c so_far.way call.continues call.whole;
  defines_none = let before = so_far.defines_none in omega arith;
  done = λ k d low. ⊎_elim
      (λ (same : k ≡ count). subst (λ (j : ℕ). Q (get_or os j d)) (sym same) (subst Q (get_or_read_under os count (length os) x d is short refl) says))
      (λ (other : (k < count) ⊎ (count < k)). ⊎_elim
      (λ (less : k < count). later (way_ready a b ready so_far.way) call.continues (get_or os k d) (so_far.done k d less))
      (λ (more : count < k). absurd (omega arith)) other)
      (cases_order k count);
}

-- all
pub adds_all : {T : Type 0} (a b : Snapshot) (P : SumOutput → Type 0) (Q : Type 0) (os : List SumOutput) (count : ℕ) (x : T) → AreAddedTo a b P os count → Q → AddsClauses a b (Ok x) Q
adds_all a b P Q os count x added says = record { recorded = recorded_ok a b x added.way.on added.way.whole; says = says; defines_none = added.defines_none }
