-- What the parts of a checker answer, and what it stands for then.
use Rattle.std.proofs.Common.{◌≡◌, ◌⊎◌, inl, inr, ℕ, ◌+◌, ◌<◌, ◌≤◌, Bool, true, false, List, [], ◌∷◌, ◌++◌, length, refl, sym, subst, ap, ◌∙◌, ⊎_elim, arith, length-append, ℤ, Option, None, Some, Result, Ok, Err}
use Rattle.std.specs.Prelude.{All, OnOk}
use Rattle.std.proofs.lemmas.List.Elements.{All-nil, All-cons, All-head, All-tail, Contains-push, All-contains}
use Rattle.pb_lin.specs.Problem.{ProblemValue}
use Rattle.proof_laws.specs.WellFormed.{IsWellFormed}
use Rattle.proof_laws.specs.State.{StateValue, start}
use Rattle.proof_laws.specs.Legal.{IsNext}
use Rattle.proof_laws.specs.declared.line.Line.{Line}
use Rattle.proof_laws.specs.declared.why.Why.{Why}
use Rattle.proof_laws.specs.declared.why.Why.TheVariants.{Syntax, NoEnd}
use Rattle.proof_laws.proofs.Replays.{leads_further, replay_lines}
use Rattle.proof_rules.specs.declared.fault.StepFault.{StepFault}
use Rattle.proof_rules.specs.declared.fault.StepFault.TheVariants.{Refused as Illegal}
use Rattle.proof_lines.specs.LineText.{line_text, printed}
use Rattle.proof_lines.specs.declared.spelling.Spelling.{Spelling}
use Rattle.proof_text.specs.Versions.{after_lines, log_text}
use Rattle.proof_text.specs.LogText.{BeginsWith, IsSyntaxAt, IsUnfinishedAt, HoldsNoFurtherLine, IsWhole}
use Rattle.proof_text.specs.Reading.{ReaderValue, HasRead, HasReadUpTo, HasGiven, GivesNext, StandsFor as ReaderStandsFor}
use Rattle.log_checker.specs.Accepted.{IsEndedProof}
use Rattle.log_checker.specs.LogFaults.{IsLineFault, IsWholeFault, HasNoWholeFault, IsLogFault}
use Rattle.log_checker.specs.Checking.{CheckerValue, HasTaken, IsFaultBy, HasJudged, StandsFor}
use Rattle.log_checker.specs.Judging.{IsUnderway, IsLineReason, IsLogReason, HasEnded, JudgesLines, JudgesEnd, left, left_by, earlier, noted}
use Rattle.log_checker.specs.declared.fault.CheckFault.{CheckFault}
use Rattle.log_checker.specs.declared.fault.CheckFault.TheVariants.{Refused, ListRefused, NoMemory}
use Rattle.log_checker.proofs.Stepping.{AreCovered}
use Rattle.proof_text.proofs.Logs.{fit_front, log_text_more, spelled_whole}
use Rattle.log_checker.proofs.Texts.{last_line}
use Rattle.log_checker.proofs.Faults.{no_whole_fault, no_syntax, syntax_fault, line_refused, whole_fault_more}

-- ---- the reader

pub given : (r : ReaderValue) (bytes : List ℕ) (lines : List Line) → ReaderStandsFor r bytes lines → HasGiven bytes lines
given r bytes lines stands = by r.wrong stands.read
  where
    read : (begun : Option Spelling) → HasRead begun r.rest bytes lines → HasGiven bytes lines
    read (Some spelling) h = inr (r.rest, h.0)
    read None h = inl h.0

    by : (wrong : Option ℕ) → HasReadUpTo wrong r bytes lines → HasGiven bytes lines
    by None h = read r.begun h
    by (Some k) h = h.2

pub right_upto : (r : ReaderValue) (bytes : List ℕ) (lines : List Line) (k : ℕ) → ReaderStandsFor r bytes lines → r.wrong ≡ Some k → k ≤ length lines + 2
right_upto r bytes lines k stands is = (let h : HasReadUpTo (Some k) r bytes lines = subst (λ (o : Option ℕ). HasReadUpTo o r bytes lines) is stands.read in h.1)

pub gives_line : (new : ReaderValue) (bytes : List ℕ) (lines : List Line) (o : Option Line) (line : Line) → o ≡ Some line → GivesNext new bytes lines o → ReaderStandsFor new bytes (lines ++ line ∷ [])
gives_line new bytes lines o line is given' = (let h : GivesNext new bytes lines (Some line) = subst (λ (x : Option Line). GivesNext new bytes lines x) is given' in h)

pub reason_is : (p : ProblemValue) (vectors : List (List ℤ)) (s : StateValue) (line : Line) (f : StepFault) (why : Why) → f ≡ Illegal why → IsLineReason p vectors s line f → IsLineFault p vectors s line why
reason_is p vectors s line f why is reason = (let h : IsLineReason p vectors s line (Illegal why) = subst (λ (x : StepFault). IsLineReason p vectors s line x) is reason in h)

no_push : (lines : List Line) (line : Line) → lines ++ line ∷ [] ≡ [] → ⊥
no_push [] line e = cc
no_push (l ∷ lines) line e = cc

begins : (r : ReaderValue) (bytes : List ℕ) (lines : List Line) (line : Line) → ReaderStandsFor r bytes (lines ++ line ∷ []) → (rest : List ℕ) × BeginsWith bytes (lines ++ line ∷ []) rest
begins r bytes lines line stands = ⊎_elim
    (λ (none : lines ++ line ∷ [] ≡ []). absurd (no_push lines line none))
    (λ (h : (rest : List ℕ) × BeginsWith bytes (lines ++ line ∷ []) rest). h)
    (given r bytes (lines ++ line ∷ []) stands)

pub line_formed : (r : ReaderValue) (bytes : List ℕ) (lines : List Line) (line : Line) → ReaderStandsFor r bytes (lines ++ line ∷ []) → IsWellFormed line
line_formed r bytes lines line stands = All-contains IsWellFormed (lines ++ line ∷ []) line (begins r bytes lines line stands).1.formed (Contains-push lines line)

all_front : (lines : List Line) (line : Line) → All IsWellFormed (lines ++ line ∷ []) → All IsWellFormed lines
all_front [] line all = All-nil IsWellFormed
all_front (l ∷ lines) line all = All-cons IsWellFormed l lines (All-head IsWellFormed l (lines ++ line ∷ []) all) (all_front lines line (All-tail IsWellFormed l (lines ++ line ∷ []) all))

-- the bytes before the last line that was given
before_last : (bytes : List ℕ) (lines : List Line) (line : Line) (rest : List ℕ) → (h : BeginsWith bytes (lines ++ line ∷ []) rest) → BeginsWith bytes lines (printed (after_lines h.first lines) line ++ rest)
before_last bytes lines line rest h = record {
  first = h.first;
  version = h.version;
  formed = all_front lines line h.formed;
  fit = fit_front h.first lines line h.fit;
  is = h.is ∙ log_text_more h.first lines line rest;
}

pub not_wrong : (o : Option ℕ) → ((k : ℕ) → o ≡ Some k → ⊥) → o ≡ None
not_wrong None h = refl
not_wrong (Some k) h = absurd (h k refl)

-- a line that is given leaves less
pub smaller : (old new : ReaderValue) (bytes : List ℕ) (lines : List Line) (line : Line) → old.wrong ≡ None → ReaderStandsFor old bytes lines → ReaderStandsFor new bytes (lines ++ line ∷ []) → left new < left old
smaller old new bytes lines line right before after = by new.wrong after.read
  where
    left_old : left old ≡ length old.rest + 1
    left_old = ap (λ (o : Option ℕ). left_by o (length old.rest)) right

    long_before : (begun : Option Spelling) → HasRead begun old.rest bytes lines → (rest : List ℕ) → BeginsWith bytes (lines ++ line ∷ []) rest → length rest < length old.rest
    long_before (Some spelling) h rest b =
        let starts = last_line bytes lines line old.rest rest h.0 b in
        omega (arith, ap length starts.whole.is, length-append (line_text (after_lines h.0.first lines) line) (10 ∷ rest))
    long_before None h rest b =
        let spelling : Spelling = after_lines b.first lines in
        let is : old.rest ≡ log_text b.first lines ++ (printed spelling line ++ rest) = sym h.1 ∙ b.is ∙ log_text_more b.first lines line rest in
        omega (arith, ap length is, length-append (log_text b.first lines) (printed spelling line ++ rest), length-append (printed spelling line) rest, length-append (line_text spelling line) (10 ∷ []))

    shorter : (rest : List ℕ) → BeginsWith bytes (lines ++ line ∷ []) rest → length rest < length old.rest
    shorter rest b = long_before old.begun (subst (λ (o : Option ℕ). HasReadUpTo o old bytes lines) right before.read) rest b

    less : (begun : Option Spelling) → HasRead begun new.rest bytes (lines ++ line ∷ []) → length new.rest < length old.rest
    less (Some spelling) h = shorter new.rest h.0
    less None h = absurd (no_push lines line h.0)

    by : (wrong : Option ℕ) → HasReadUpTo wrong new bytes (lines ++ line ∷ []) → left_by wrong (length new.rest) < left old
    by None h = omega (arith, left_old, less new.begun h)
    by (Some k) h = omega (arith, left_old)

module _ (p : ProblemValue) (vectors : List (List ℤ)) where
  -- ---- one line

  pub syntax_refused : (old new : ReaderValue) (s : StateValue) (bytes : List ℕ) (lines : List Line) (k : ℕ) → IsUnderway p vectors old s bytes lines → IsSyntaxAt bytes k → ReaderStandsFor new bytes lines → new.wrong ≡ Some k → IsWholeFault p vectors bytes k Syntax
  syntax_refused old new s bytes lines k underway wrong after is = syntax_fault p vectors bytes lines s k underway.replay underway.covered (given old bytes lines underway.read) wrong (right_upto new bytes lines k after is)

  pub line_is_refused : (old new : ReaderValue) (s : StateValue) (bytes : List ℕ) (lines : List Line) (line : Line) (k : ℕ) (why : Why) → IsUnderway p vectors old s bytes lines → ReaderStandsFor new bytes (lines ++ line ∷ []) → IsLineFault p vectors s line why → k ≡ s.lines + 2 → IsWholeFault p vectors bytes k why
  line_is_refused old new s bytes lines line k why underway after fault number =
      let b = begins new bytes lines line after in
      line_refused p vectors bytes lines line (printed (after_lines b.1.first lines) line ++ b.0) b.0 s k why (before_last bytes lines line b.0 b.1) b.1 underway.replay underway.covered fault (omega (arith, number, replay_lines p lines s underway.replay))

  pub line_taken : (old new : ReaderValue) (s t : StateValue) (bytes : List ℕ) (lines : List Line) (line : Line) → IsUnderway p vectors old s bytes lines → ReaderStandsFor new bytes (lines ++ line ∷ []) → IsNext p s line t → (AreCovered vectors s → AreCovered vectors t) → IsUnderway p vectors new t bytes (lines ++ line ∷ [])
  line_taken old new s t bytes lines line underway after next covered = record { read = after; replay = leads_further p lines (start p) s t line underway.replay next; covered = covered underway.covered }

  -- ---- the end

  pub end_syntax : (r : ReaderValue) (s : StateValue) (bytes : List ℕ) (lines : List Line) (k : ℕ) → IsUnderway p vectors r s bytes lines → HoldsNoFurtherLine bytes lines → IsSyntaxAt bytes k ⊎ IsUnfinishedAt bytes k → IsLogFault p vectors bytes k Syntax
  end_syntax r s bytes lines k underway held wrong = ⊎_elim
      (λ (h : IsSyntaxAt bytes k). absurd (no_syntax p vectors bytes lines k held h))
      (λ (h : IsUnfinishedAt bytes k). inr (no_whole_fault p vectors bytes lines s underway.replay underway.covered held, h))
      wrong

  pub end_missing : (r : ReaderValue) (s : StateValue) (bytes : List ℕ) (lines : List Line) (k : ℕ) → IsUnderway p vectors r s bytes lines → HoldsNoFurtherLine bytes lines → IsWhole bytes → s.ended ≡ false → k ≡ s.lines + 2 → IsLogFault p vectors bytes k NoEnd
  end_missing r s bytes lines k underway held whole unended number = inr (record {
    lines = lines;
    spelled = spelled_whole bytes lines held whole;
    state = s;
    reached = record { replay = underway.replay; covered = underway.covered };
    unended = unended;
    number = omega (arith, number, replay_lines p lines s underway.replay);
  })

  pub end_reached : (r : ReaderValue) (s : StateValue) (bytes : List ℕ) (lines : List Line) → IsUnderway p vectors r s bytes lines → HoldsNoFurtherLine bytes lines → IsWhole bytes → s.ended ≡ true → IsEndedProof p vectors bytes
  end_reached r s bytes lines underway held whole ended = record { lines = lines; spelled = spelled_whole bytes lines held whole; state = s; replay = underway.replay; ended = ended; covered = underway.covered }

-- ---- the checker

pub on_ok : (answer : Result (Unit {0}) CheckFault) (Q : Type 0) → (answer ≡ Ok tt → Q) → OnOk answer Q
on_ok (Ok done) Q f = f refl
on_ok (Err e) Q f = tt

pub nothing_earlier : (o : Option (ℕ × Why)) (failed : Bool) → earlier o failed ≡ Ok tt → (o ≡ None) × (failed ≡ false)
nothing_earlier None true e = cc
nothing_earlier None false e = (refl, refl)
nothing_earlier (Some fault) failed e = cc

taken_underway : (c : CheckerValue) (bytes : List ℕ) (lines : List Line) → HasTaken c bytes lines → IsUnderway c.problem c.vectors c.reader c.state bytes lines
taken_underway c bytes lines taken = record { read = taken.read; replay = taken.replay; covered = taken.covered }

-- the lines that a checker has taken up which has refused none
pub stands_taken : (c : CheckerValue) (bytes : List ℕ) → c.refused ≡ None → StandsFor c bytes → (lines : List Line) × HasTaken c bytes lines
stands_taken c bytes none stands = subst (λ (o : Option (ℕ × Why)). HasJudged o c bytes) none stands

pub stands_underway : (c : CheckerValue) (bytes : List ℕ) → c.refused ≡ None → StandsFor c bytes → (lines : List Line) × IsUnderway c.problem c.vectors c.reader c.state bytes lines
stands_underway c bytes none stands = let h = stands_taken c bytes none stands in (h.0, taken_underway c bytes h.0 h.1)

-- the checker after an answer, which was given for what it was before
pub noted_stands : (c new : CheckerValue) (answer : Result (Unit {0}) CheckFault) (bytes : List ℕ) → new ≡ noted c answer → c.refused ≡ None → c.finished ≡ false → (answer ≡ Err NoMemory → ⊥) → JudgesLines c.problem c.vectors c.reader c.state bytes answer → StandsFor new bytes
noted_stands c new answer bytes is none open' kept judged = subst (λ (d : CheckerValue). StandsFor d bytes) (sym is) (by answer kept judged)
  where
    by : (a : Result (Unit {0}) CheckFault) → (a ≡ Err NoMemory → ⊥) → JudgesLines c.problem c.vectors c.reader c.state bytes a → StandsFor (noted c a) bytes
    by (Ok done) k h = subst (λ (o : Option (ℕ × Why)). HasJudged o c bytes) (sym none) (h.0, record { read = h.1.read; all = h.2; replay = h.1.replay; covered = h.1.covered })
    by (Err (Refused n why)) k h = subst (λ (b : Bool). IsFaultBy b c.problem c.vectors bytes n why) (sym open') h
    by (Err (ListRefused entry why)) k h = absurd h
    by (Err NoMemory) k h = absurd (k refl)

pub again_stands : (o : Option (ℕ × Why)) (failed : Bool) (c : CheckerValue) (bytes more : List ℕ) (e : CheckFault) → earlier o failed ≡ Err e → (e ≡ NoMemory → ⊥) → c.finished ≡ false → HasJudged o c bytes → HasJudged o c (bytes ++ more)
again_stands None true c bytes more e is kept open' stands = absurd (kept (cc))
again_stands None false c bytes more e is kept open' stands = cc
again_stands (Some fault) failed c bytes more e is kept open' stands =
    subst (λ (b : Bool). IsFaultBy b c.problem c.vectors (bytes ++ more) fault.0 fault.1) (sym open')
    (whole_fault_more c.problem c.vectors bytes more fault.0 fault.1 (subst (λ (b : Bool). IsFaultBy b c.problem c.vectors bytes fault.0 fault.1) open' stands))

pub again_whole : (o : Option (ℕ × Why)) (failed : Bool) (c : CheckerValue) (bytes : List ℕ) (k : ℕ) (why : Why) → earlier o failed ≡ Err (Refused k why) → c.finished ≡ false → HasJudged o c bytes → IsWholeFault c.problem c.vectors bytes k why
again_whole None true c bytes k why is open' stands = cc
again_whole None false c bytes k why is open' stands = cc
again_whole (Some fault) failed c bytes k why is open' stands =
    let whole : IsWholeFault c.problem c.vectors bytes fault.0 fault.1 = subst (λ (b : Bool). IsFaultBy b c.problem c.vectors bytes fault.0 fault.1) open' stands in
    let number : fault.0 ≡ k = cc in
    let reason : fault.1 ≡ why = cc in
    subst (λ (n : ℕ). IsWholeFault c.problem c.vectors bytes n why) number (subst (IsWholeFault c.problem c.vectors bytes fault.0) reason whole)

fault_of_log : (finished : Bool) (p : ProblemValue) (vectors : List (List ℤ)) (bytes : List ℕ) (k : ℕ) (why : Why) → IsFaultBy finished p vectors bytes k why → IsLogFault p vectors bytes k why
fault_of_log false p vectors bytes k why h = inl h
fault_of_log true p vectors bytes k why h = h

-- the checker with its log finished
pub finished_stands : (o : Option (ℕ × Why)) (c : CheckerValue) (bytes : List ℕ) → HasJudged o c bytes → HasJudged o (record c { finished = true }) bytes
finished_stands None c bytes stands = (stands.0, record { read = stands.1.read; all = stands.1.all; replay = stands.1.replay; covered = stands.1.covered })
finished_stands (Some fault) c bytes stands = fault_of_log c.finished c.problem c.vectors bytes fault.0 fault.1 stands

-- after the end was judged
pub concluded_stands : (c new : CheckerValue) (answer : Result (Unit {0}) CheckFault) (bytes : List ℕ) → new ≡ record (noted c answer) { finished = true } → (answer ≡ Err NoMemory → ⊥) → JudgesEnd c.problem c.vectors bytes answer → StandsFor c bytes → StandsFor new bytes
concluded_stands c new answer bytes is kept judged stands = subst (λ (d : CheckerValue). StandsFor d bytes) (sym is) (by answer kept judged)
  where
    by : (a : Result (Unit {0}) CheckFault) → (a ≡ Err NoMemory → ⊥) → JudgesEnd c.problem c.vectors bytes a → StandsFor (record (noted c a) { finished = true }) bytes
    by (Ok done) k h = finished_stands c.refused c bytes stands
    by (Err (Refused n why)) k h = h
    by (Err (ListRefused entry why)) k h = absurd h
    by (Err NoMemory) k h = absurd (k refl)

-- an earlier answer is one about the bytes
pub earlier_judged : (o : Option (ℕ × Why)) (failed : Bool) (c : CheckerValue) (bytes : List ℕ) (e : CheckFault) → earlier o failed ≡ Err e → HasJudged o c bytes → IsLogReason c.problem c.vectors bytes e
earlier_judged None true c bytes e is stands = let same : NoMemory ≡ e = cc in subst (λ (x : CheckFault). IsLogReason c.problem c.vectors bytes x) same tt
earlier_judged None false c bytes e is stands = cc
earlier_judged (Some fault) failed c bytes e is stands =
    let same : Refused fault.0 fault.1 ≡ e = cc in
    subst (λ (x : CheckFault). IsLogReason c.problem c.vectors bytes x) same (fault_of_log c.finished c.problem c.vectors bytes fault.0 fault.1 stands)

-- a finished log that has ended is an ended proof
pub settled_judged : (c : CheckerValue) (bytes : List ℕ) → c.refused ≡ None → HasEnded c.reader c.state → StandsFor c bytes → IsEndedProof c.problem c.vectors bytes
settled_judged c bytes none settled stands =
    let t = stands_taken c bytes none stands in
    end_reached c.problem c.vectors c.reader c.state bytes t.0 (taken_underway c bytes t.0 t.1) t.1.all (settled.whole bytes t.0 t.1.read) settled.ended

-- what the parts answer, where the checker has refused nothing
pub judged_fed : (c : CheckerValue) (vectors : List (List ℤ)) (r : ReaderValue) (s : StateValue) (bytes fed : List ℕ) (answer : Result (Unit {0}) CheckFault) → vectors ≡ c.vectors → c.refused ≡ None →
    ((lines : List Line) → IsUnderway c.problem vectors c.reader c.state bytes lines → JudgesLines c.problem vectors r s fed answer) → StandsFor c bytes → JudgesLines c.problem c.vectors r s fed answer
judged_fed c vectors r s bytes fed answer is none judges stands =
    let u = stands_underway c bytes none stands in
    subst (λ (vs : List (List ℤ)). JudgesLines c.problem vs r s fed answer) is (judges u.0 (subst (λ (vs : List (List ℤ)). IsUnderway c.problem vs c.reader c.state bytes u.0) (sym is) u.1))

pub judged_ended : (c : CheckerValue) (bytes : List ℕ) (answer : Result (Unit {0}) CheckFault) → c.refused ≡ None →
    ((lines : List Line) → IsUnderway c.problem c.vectors c.reader c.state bytes lines → HoldsNoFurtherLine bytes lines → JudgesEnd c.problem c.vectors bytes answer) → StandsFor c bytes → JudgesEnd c.problem c.vectors bytes answer
judged_ended c bytes answer none judges stands = let t = stands_taken c bytes none stands in judges t.0 (taken_underway c bytes t.0 t.1) t.1.all

pub lines_have_no_fault : (p : ProblemValue) (vectors : List (List ℤ)) (r : ReaderValue) (s : StateValue) (bytes : List ℕ) → JudgesLines p vectors r s bytes (Ok tt) → HasNoWholeFault p vectors bytes
lines_have_no_fault p vectors r s bytes h = no_whole_fault p vectors bytes h.0 s h.1.replay h.1.covered h.2
