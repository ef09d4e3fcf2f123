-- A log file as it is fed to what takes its lines.
use Rattle.std.proofs.Common.{◌≡◌, ℕ, ◌+◌, ◌-◌, ◌<◌, ◌≤◌, ◌^◌, ◌++◌, List, [], length, take, drop, refl, sym, ◌∙◌, ap, subst, inl, inr, arith, length-append, length-take}
use Rattle.std.specs.Prelude.{Option, Some}
use Rattle.std.proofs.lemmas.List.{take-append-drop, take-take, take_all, append-nil}
use Rattle.scut_base.specs.Files.{Files, content, IsReadAt}
use Rattle.scut_base.specs.Faults.{Faults}
use Rattle.proof_laws.specs.declared.why.Why.{Why}
use Rattle.command_base.specs.Causes.{HasText}
use Rattle.command_base.specs.Feeding.{IsFedSoFar, IsFedWhole, IsTaken}
use Rattle.command_base.specs.Stops.{IsLogStop}
use Rattle.command_base.specs.StopsFrom.{log_of_line}
use Rattle.command_base.specs.Taking.{IsTooLarge, RefusesNone}
use Rattle.command_base.specs.declared.log_file.LineFault.{LineFault}
use Rattle.command_base.specs.declared.log_file.LineFault.TheVariants.{Refused, NoMemory}
use Rattle.command_base.proofs.ReadSoFar.{read_further, read_all}

module _ (whole every : List ℕ → ℕ → Why → Type 0) (further : (bytes more : List ℕ) (k : ℕ) (why : Why) → whole bytes k why → whole (bytes ++ more) k why) where
  -- what the first bytes refuse, more of them refuse
  fault_within : (fed bytes : List ℕ) (n : ℕ) (k : ℕ) (why : Why) → fed ≡ take (length fed) bytes → length fed ≤ n → whole fed k why → whole (take n bytes) k why
  fault_within fed bytes n k why first short fault =
      let front : take (length fed) (take n bytes) ≡ fed = take-take (length fed) n bytes short ∙ sym first in
      subst (λ (t : List ℕ). whole t k why) (ap (λ (t : List ℕ). t ++ drop (length fed) (take n bytes)) (sym front) ∙ take-append-drop (length fed) (take n bytes))
      (further fed (drop (length fed) (take n bytes)) k why fault)

  -- a line of the bytes that were read is refused
  pub feeding_stops : (fault : LineFault) (files : Option Files) (before after : Faults) (log fed into : List ℕ) (at n : ℕ)
      → length fed ≡ at → ((bytes : List ℕ) → content files log ≡ Some bytes → fed ≡ take (length fed) bytes) → IsReadAt files log at n into → n ≤ length into → at + n < 2 ^ 62
      → ((k : ℕ) (why : Why) → fault ≡ Refused k why → whole (fed ++ take n into) k why)
      → IsLogStop whole every log (log_of_line fault) files before after
  feeding_stops (Refused k why) files before after log fed into at n count first read short within refused = λ told.
      let got = read told in
      let more = read_further files log fed into n first (subst (λ (a : ℕ). IsReadAt files log a n into) (sym count) read) in (
        got.0,
        got.1,
        inr (fault_within (fed ++ take n into) got.0 (2 ^ 62 - 1) k why (more got.0 got.1) (omega (arith, count, length-append fed (take n into), length-take n into, short, within)) (refused k why refl)),
      )
  feeding_stops NoMemory files before after log fed into at n count first read short within refused = tt

-- the log that was read whole is refused
pub finished_stops : (Stands : List ℕ → Type 0) (whole every : List ℕ → ℕ → Why → Type 0) (fault : LineFault) (files : Option Files) (before after : Faults) (log : List ℕ) (n : ℕ) → IsFedWhole files log Stands whole n → n < 2 ^ 62
    → ((k : ℕ) (why : Why) → fault ≡ Refused k why → (bytes : List ℕ) → Stands bytes → every bytes k why)
    → IsLogStop whole every log (log_of_line fault) files before after
finished_stops Stands whole every (Refused k why) files before after log n fed short refused = λ told. (
  fed.so_far.fed,
  fed.all told,
  inl (omega (arith, short, fed.so_far.count), refused k why refl fed.so_far.fed fed.so_far.stands),
)
finished_stops Stands whole every NoMemory files before after log n fed short refused = tt

pub finished_passes : (Stands Passes : List ℕ → Type 0) (whole : List ℕ → ℕ → Why → Type 0) (files : Option Files) (log : List ℕ) (n : ℕ) → IsFedWhole files log Stands whole n → n < 2 ^ 62
    → ((bytes : List ℕ) → Stands bytes → Passes bytes) → HasText files log (λ bytes. (length bytes < 2 ^ 62) × Passes bytes)
finished_passes Stands Passes whole files log n fed short passes = λ told. (
  fed.so_far.fed,
  fed.all told,
  (omega (arith, short, fed.so_far.count), passes fed.so_far.fed fed.so_far.stands),
)

-- what takes the log stands for the whole file
pub finished_taken : (Stood Stands : List ℕ → Type 0) (whole : List ℕ → ℕ → Why → Type 0) (files : Option Files) (log : List ℕ) (n : ℕ) → IsFedWhole files log Stood whole n
    → ((bytes : List ℕ) → Stood bytes → Stands bytes) → IsTaken files log Stands
finished_taken Stood Stands whole files log n fed stands = record { bytes = fed.so_far.fed; stands = stands fed.so_far.fed fed.so_far.stands; all = fed.all }

-- ---- what was fed

module _ (files : Option Files) (name : List ℕ) (Stands : List ℕ → Type 0) (whole : List ℕ → ℕ → Why → Type 0) where
  pub fed_nothing : Stands [] → RefusesNone whole [] → IsFedSoFar files name Stands whole 0
  fed_nothing stands none = record { fed = []; count = refl; first = λ bytes is. refl; stands = stands; passed = none }

  -- a file that has no more bytes was fed whole
  pub fed_to_end : (n : ℕ) → IsFedSoFar files name Stands whole n → HasText files name (λ bytes. length bytes ≤ n) → IsFedWhole files name Stands whole n
  fed_to_end n so_far no_more = record {
    so_far = so_far;
    all = λ told.
        let f = no_more told in
        f.1 ∙ ap Some (sym (so_far.first f.0 f.1 ∙ take_all (length so_far.fed) f.0 (omega (arith, f.2, so_far.count))));
  }

  pub too_large : (n : ℕ) → IsFedSoFar files name Stands whole n → n ≡ 2 ^ 62 - 1 → HasText files name (λ bytes. n < length bytes) → HasText files name (IsTooLarge whole)
  too_large n so_far most more = λ told.
      let f = more told in
      let first : so_far.fed ≡ take (2 ^ 62 - 1) f.0 = so_far.first f.0 f.1 ∙ ap (λ (k : ℕ). take k f.0) (so_far.count ∙ most) in
      (f.0, f.1, (omega (arith, f.2, most), subst (RefusesNone whole) first so_far.passed))

module _ (files : Option Files) (name : List ℕ) (Old New : List ℕ → Type 0) (whole : List ℕ → ℕ → Why → Type 0) (at n : ℕ) (into : List ℕ) (so_far : IsFedSoFar files name Old whole at) (read : IsReadAt files name at n into) (short : n ≤ length into)
    (stands : New (so_far.fed ++ take n into)) (passed : RefusesNone whole (so_far.fed ++ take n into)) where
  -- the bytes that were fed, and the next piece
  pub fed_more : IsFedSoFar files name New whole (at + n)
  fed_more = record {
    fed = so_far.fed ++ take n into;
    count = omega (arith, so_far.count, length-append so_far.fed (take n into), length-take n into, short);
    first = read_further files name so_far.fed into n so_far.first (subst (λ (a : ℕ). IsReadAt files name a n into) (sym so_far.count) read);
    stands = stands;
    passed = passed;
  }

  -- where nothing more came, that was the whole file
  pub fed_all : n ≡ 0 → IsFedWhole files name New whole at
  fed_all none =
      let same : so_far.fed ++ take n into ≡ so_far.fed = ap (λ (k : ℕ). so_far.fed ++ take k into) none ∙ append-nil so_far.fed in
      record {
        so_far = record {
          fed = so_far.fed;
          count = so_far.count;
          first = so_far.first;
          stands = subst New same stands;
          passed = subst (RefusesNone whole) same passed;
        };
        all = read_all files name so_far.fed into so_far.first (subst (λ (k : ℕ). IsReadAt files name (length so_far.fed) k into) none (subst (λ (a : ℕ). IsReadAt files name a n into) (sym so_far.count) read));
      }
