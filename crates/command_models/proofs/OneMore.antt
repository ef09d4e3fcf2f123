-- One entry more whose models are gathered, or aren't.
use Rattle.std.specs.Prelude.{◌≡◌, ℕ, ◌+◌, ◌<◌, ◌^◌, List, [], ◌∷◌, ◌++◌, length, take, drop, Option, refl}
use Rattle.std.proofs.Common.{inl, inr, sym, ◌∙◌, ap, subst, arith, get_or, append_assoc, length-append, length-take}
use Rattle.scut_base.specs.Faults.{NoneFell, WritingFailed}
use Rattle.scut_base.specs.World.{World}
use Rattle.front_set.specs.declared.entry.Entry.{Entry}
use Rattle.instance.specs.ParetoFront.{problem_vector}
use Rattle.instance.specs.Shape.{InstanceValue}
use Rattle.front_text.specs.declared.reps.Reps.{Reps}
use Rattle.pb_lin.specs.Problem.{ProblemValue}
use Rattle.proof_rules.specs.declared.recorder.RecordFault.{RecordFault}
use Rattle.proof_rules.specs.declared.recorder.RecordFault.TheVariants.{Failed, Full, NoMemory}
use Rattle.representative_search.specs.Gathered.{IsFullSearch, IsGatherStop}
use Rattle.command_base.proofs.Answered.{rose_at_last}
use Rattle.command_check_models.specs.Words.{ModelsAsked, log_name}
use Rattle.command_check_models.proofs.OneEntry.{around, upto}
use Rattle.command_models.specs.Gathering.{AreGathered, AreLogsTouched, IsCause, IsEntryGathered, IsEntryStop, IsGatheringStop, IsLogTouched, LogFailed}
use Rattle.command_models.specs.Table.{HasFullLog, IsEntryOf}
use Rattle.command_models.proofs.Gathered.{gathered_more, touched_more, touched_whole}
use Rattle.command_models.proofs.Touching.{written_at}

module _ (a : ModelsAsked) (i : InstanceValue) (p : ProblemValue) (old mid new : World) (entries : List Entry) (few : length entries < 2 ^ 63)
    (k : ℕ) (within : k < length entries) (e : Entry) (e_is : e ≡ get_or entries k e) where
  count : length (take k entries) ≡ k
  count = omega (arith, within, length-take k entries)

  whole : entries ≡ (take k entries ++ e ∷ []) ++ drop (k + 1) entries
  whole = around entries k e within e_is ∙ sym (append_assoc (take k entries) (e ∷ []) (drop (k + 1) entries))

  bound : length (take k entries ++ e ∷ []) + length (drop (k + 1) entries) < 2 ^ 63
  bound = let is : length entries ≡ length (take k entries ++ e ∷ []) + length (drop (k + 1) entries) = ap (λ (es : List Entry). length es) whole ∙ length-append (take k entries ++ e ∷ []) (drop (k + 1) entries) in omega (arith, few, is)

  -- its log was touched after those before it, and no later one
  pub all_touched : AreLogsTouched old.files mid.files a i p (take k entries) → IsLogTouched mid.files new.files a i p (k + 1) e → AreLogsTouched old.files new.files a i p entries
  all_touched first one = subst (λ (es : List Entry). AreLogsTouched old.files new.files a i p es) (sym whole)
      (touched_whole a i p old.files new.files (take k entries ++ e ∷ []) (touched_more a i p mid.files new.files k e (omega arith) one old.files (take k entries) count first) (drop (k + 1) entries) bound)

  -- its models aren't gathered
  pub gathering_stopped : NoneFell old.faults mid.faults → AreLogsTouched old.files mid.files a i p (take k entries) → (fault : RecordFault) → IsEntryStop fault mid.files new.files a i p (k + 1) e mid.faults new.faults
      → IsGatheringStop fault old.files new.files a i p entries old.faults new.faults
  gathering_stopped fell first fault stop = record { cause = by fault stop.stop; touched = all_touched first stop.touched }
    where
      rose : WritingFailed mid.faults new.faults (log_name a.base (k + 1)) → WritingFailed old.faults new.faults (log_name a.base (k + 1))
      rose (inl begun) = inl (rose_at_last _ _ _ (fell _ (log_name a.base (k + 1))) begun)
      rose (inr more) = inr (rose_at_last _ _ _ (fell _ (log_name a.base (k + 1))) more)

      numbered : IsEntryOf entries (k + 1) e
      numbered = (take k entries, drop (k + 1) entries, around entries k e within e_is, omega (arith, count))

      full : IsFullSearch mid.files new.files (log_name a.base (k + 1)) p (problem_vector i e.costs) → HasFullLog new.files a i p entries
      full (list, q, bounded, is) = (k + 1, e, numbered, λ told. (is.proof, written_at mid.files new.files (log_name a.base (k + 1)) is.proof is.files told, (list, q, bounded, (is.lines, is.spelled, is.full, is.replay))))

      by : (f : RecordFault) → IsGatherStop f mid.files new.files (log_name a.base (k + 1)) p (problem_vector i e.costs) mid.faults new.faults → IsCause f new.files a i p entries (LogFailed a (length entries) old.faults new.faults)
      by Failed failed = (k + 1, omega arith, omega (arith, within), rose failed)
      by Full is = full is
      by NoMemory memory = tt

  -- its models are gathered too
  pub gathered_upto : (rs : List Reps) (r : Reps) → AreGathered old.files mid.files a i p (take k entries) rs → IsEntryGathered mid.files new.files a i p (k + 1) e r → AreGathered old.files new.files a i p (take (k + 1) entries) (rs ++ r ∷ [])
  gathered_upto rs r first one = subst (λ (es : List Entry). AreGathered old.files new.files a i p es (rs ++ r ∷ [])) (sym (upto entries k e within e_is))
      (gathered_more a i p mid.files new.files k e (omega arith) one.touched old.files (take k entries) rs r count first one)
