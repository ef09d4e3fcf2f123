-- What a keeper of a log has after each line, and at the end.
use Rattle.std.proofs.Common.{◌≡◌, ◌⊎◌, ℕ, ◌+◌, ◌<◌, ◌^◌, true, List, [], ◌∷◌, ◌++◌, length, refl, sym, ◌∙◌, subst, inl, arith}
use Rattle.std.specs.Prelude.{OnOk, Option, Some, Result, Ok, Err, sum_by}
use Rattle.std.proofs.lemmas.List.Sums.{sum_by-cons}
use Rattle.scut_base.specs.Files.{Files, content}
use Rattle.scut_base.proofs.Options.{some_is}
use Rattle.proof_laws.specs.State.{IsState}
use Rattle.proof_laws.specs.Steps.{made}
use Rattle.proof_laws.specs.declared.line.Line.{Line}
use Rattle.proof_laws.specs.declared.why.Why.{Why}
use Rattle.proof_laws.proofs.Replays.{replay_ids}
use Rattle.proof_text.specs.LogText.{HoldsNoFurtherLine, IsSyntaxAt, IsUnfinishedAt, IsWhole, SpellsLog}
use Rattle.proof_text.specs.Reading.{ReaderValue, StandsFor as ReaderStandsFor}
use Rattle.proof_text.specs.Versions.{lines_text}
use Rattle.proof_text.specs.declared.fault.TextFault.{TextFault}
use Rattle.proof_text.specs.declared.fault.TextFault.TheVariants.{Syntax as SyntaxAt, NoMemory as TextMemory}
use Rattle.proof_text.proofs.Logs.{body, lines_whole, spelled_once, spelled_whole}
use Rattle.log_checker.specs.Accepted.{IsEndedProof}
use Rattle.log_checker.proofs.Answering.{end_syntax, syntax_refused}
use Rattle.log_checker.proofs.Faults.{no_whole_fault}
use Rattle.command_trim.specs.Marks.{made_by}
use Rattle.command_base.specs.Causes.{HasText}
use Rattle.command_base.specs.Feeding.{IsTaken}
use Rattle.command_base.specs.Taking.{RefusesNone}
use Rattle.command_base.specs.Judging.{JudgedBy}
use Rattle.command_base.specs.declared.log_file.LineFault.{LineFault}
use Rattle.command_base.specs.declared.log_file.LineFault.TheVariants.{Refused}
use Rattle.command_trim.specs.Keeping.{AreFew, HoldsProof, IsKeeping, IsLogReason, IsWholeReason, StandsFor, every_by, fault_of, kept_by, whole_by}
use Rattle.command_trim.specs.declared.keeping.Keeper.{Keeper}

-- what was judged of these bytes refuses none
pub none_refused : (by : JudgedBy) (k : Keeper) (bytes : List ℕ) → kept_by k ≡ by → StandsFor k bytes → RefusesNone (whole_by by) bytes
none_refused by k bytes is stands =
    subst (λ (b : JudgedBy). RefusesNone (whole_by b) bytes) is (no_whole_fault k.problem.now k.vectors.now bytes k.lines k.state stands.0.underway.replay stands.0.underway.covered stands.1)

-- so it is of a piece that was kept
pub passes_fed : (r : Result (Unit {0}) LineFault) (k new : Keeper) (piece : List ℕ) → kept_by new ≡ kept_by k → OnOk r ((bytes : List ℕ) → StandsFor k bytes → StandsFor new (bytes ++ piece))
    → OnOk r ((bytes : List ℕ) → StandsFor k bytes → RefusesNone (whole_by (kept_by k)) (bytes ++ piece))
passes_fed (Ok done) k new piece by fed = λ bytes stands. none_refused (kept_by k) new (bytes ++ piece) by (fed bytes stands)
passes_fed (Err fault) k new piece by fed = tt

-- the reader gives no line, since the next one is wrong
pub next_reason : (k : Keeper) (new : ReaderValue) (bytes : List ℕ) (fault : TextFault) → IsKeeping k bytes → ((n : ℕ) → fault ≡ SyntaxAt n → IsSyntaxAt bytes n × ReaderStandsFor new bytes k.lines) → ((n : ℕ) → fault ≡ SyntaxAt n → new.wrong ≡ Some n)
    → IsWholeReason (kept_by k) bytes (fault_of fault)
next_reason k new bytes (SyntaxAt n) keeping wrong is = syntax_refused k.problem.now k.vectors.now k.reader new k.state bytes k.lines n keeping.underway (wrong n refl).0 (wrong n refl).1 (is n refl)
next_reason k new bytes TextMemory keeping wrong is = tt

-- the bytes end where no log may
pub end_reason : (k : Keeper) (bytes : List ℕ) (fault : TextFault) → StandsFor k bytes → ((n : ℕ) → fault ≡ SyntaxAt n → IsSyntaxAt bytes n ⊎ IsUnfinishedAt bytes n) → IsLogReason (kept_by k) bytes (fault_of fault)
end_reason k bytes (SyntaxAt n) stands wrong = end_syntax k.problem.now k.vectors.now k.reader k.state bytes k.lines n stands.0.underway stands.1 (wrong n refl)
end_reason k bytes TextMemory stands wrong = tt

-- the bytes are an ended proof
pub proved : (k : Keeper) (bytes : List ℕ) → StandsFor k bytes → IsWhole bytes → k.state.ended ≡ true → IsEndedProof k.problem.now k.vectors.now bytes
proved k bytes stands whole ended = record {
  lines = k.lines;
  spelled = spelled_whole bytes k.lines stands.1 whole;
  state = k.state;
  replay = stands.0.underway.replay;
  ended = ended;
  covered = stands.0.underway.covered;
}

-- ---- how many ids the lines make

made_sum : (lines : List Line) → sum_by made lines ≡ made_by lines
made_sum [] = refl
made_sum (line ∷ lines) = let rest = made_sum lines in let all : sum_by made (line ∷ lines) ≡ made line + sum_by made lines = sum_by-cons made line lines in omega (arith, rest, all)

pub few_lines : (k : Keeper) (bytes : List ℕ) → IsKeeping k bytes → IsState k.state → AreFew k.problem.now k.lines
few_lines k bytes keeping state =
    let ids = replay_ids k.problem.now k.lines k.state keeping.underway.replay in
    omega (arith, ids, made_sum k.lines, state.next_id, state.lines)

-- ---- the log file

whole_text : (bytes : List ℕ) (lines : List Line) → SpellsLog bytes lines → IsWhole bytes
whole_text bytes lines spelled = record {
  first = spelled.first;
  version = spelled.version;
  after = lines_text spelled.first lines ++ [];
  is = spelled.is ∙ body spelled.first lines [];
  whole = lines_whole spelled.first lines [] (inl refl);
}

-- a log that is an ended proof is one of the lines that are kept
pub holds_proof : (files : Option Files) (log : List ℕ) (k : Keeper) (by : JudgedBy) → IsTaken files log (StandsFor k) → HasText files log (λ bytes. (length bytes < 2 ^ 62) × IsEndedProof by.problem by.vectors bytes) → HoldsProof files log by k.lines
holds_proof files log k by taken passes = λ told.
    let text = passes told in
    let proof = text.2.1 in
    let same : text.0 ≡ taken.bytes = some_is taken.bytes text.0 (content files log) (taken.all told) text.1 in
    let kept : SpellsLog text.0 k.lines = spelled_whole text.0 k.lines (subst (λ (t : List ℕ). HoldsNoFurtherLine t k.lines) (sym same) taken.stands.1) (whole_text text.0 proof.lines proof.spelled) in
    (text.0, text.1, (text.2.0, (proof, spelled_once text.0 proof.lines k.lines proof.spelled kept)))

-- ---- what is refused

pub refused_every : (by : JudgedBy) (bytes : List ℕ) (fault : LineFault) → IsLogReason by bytes fault → (k : ℕ) (why : Why) → fault ≡ Refused k why → every_by by bytes k why
refused_every by bytes fault reason k why is = (let r : IsLogReason by bytes (Refused k why) = subst (IsLogReason by bytes) is reason in r)
