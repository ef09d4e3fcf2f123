-- A log file whose lines come into another file.
use Rattle.std.proofs.Common.{◌≡◌, ◌≢◌, ◌⊎◌, inl, inr, ⊎_elim, ℕ, ◌+◌, ◌<◌, ◌≤◌, ◌^◌, ◌-◌, Option, Some, List, [], ◌∷◌, ◌++◌, length, take, refl, sym, ap, subst, ◌∙◌, arith}
use Rattle.std.specs.Prelude.{IfErr, OnOk, Result, Ok, Err}
use Rattle.std.proofs.lemmas.List.{append-nil, length-append, length-take, take_all}
use Rattle.std.proofs.lemmas.List.Elements.{All-nil}
use Rattle.scut_base.specs.Files.{Files, content, with_file, IsPrefixOf, IsReadAt, IsTold, IsTouched}
use Rattle.scut_base.specs.Faults.{Faults, NoneFell, ReadingFailed, Rose, WritingFailed, count}
use Rattle.scut_base.specs.World.{World}
use Rattle.scut_base.specs.declared.shelf.ShelfCall.TheVariants.{Append, Read}
use Rattle.scut_base.specs.declared.shelf.ShelfFault.{ShelfFault}
use Rattle.scut_base.specs.declared.shelf.ShelfFault.TheVariants.{Failed, NoMemory as ShelfMemory}
use Rattle.scut_base.proofs.FileLaws.{content-same, told_before}
use Rattle.proof_laws.specs.WellFormed.{IsWellFormed}
use Rattle.proof_laws.specs.declared.line.Line.{Line}
use Rattle.proof_laws.specs.declared.why.Why.{Why}
use Rattle.proof_lines.specs.declared.spelling.Spelling.{Spelling}
use Rattle.proof_lines.specs.declared.spelling.Spelling.TheVariants.{Plain}
use Rattle.proof_text.specs.LogFile.{IsNotBegun}
use Rattle.proof_text.specs.LogText.{HoldsNoFurtherLine, IsSyntaxAt, SpellsLog}
use Rattle.proof_text.specs.Reading.{HasGiven, ReaderValue, StandsFor}
use Rattle.proof_text.specs.Recorders.{without_file}
use Rattle.proof_text.specs.Versions.{IsFirst, header_line, header_text, log_text}
use Rattle.proof_text.specs.Writing.{WriterValue, new_writer}
use Rattle.proof_text.proofs.LogFiles.{others_same, without-with}
use Rattle.proof_text.proofs.Logs.{printed_spells}
use Rattle.proof_text.proofs.OneFile.{only_this, told_alike}
use Rattle.log_checker.proofs.Answering.{given}
use Rattle.command_base.specs.Causes.{HasText}
use Rattle.command_base.specs.LogLines.{AreOf, HasNoWrongLine, AreAllWhole, IsLargeAfter, IsLogOf, IsWrongAfter, before_limit}
use Rattle.command_base.specs.Rewriting.{IsLineAfter, IsRefusal, IsRewriteStop, IsRewritten, IsRewrittenPart}
use Rattle.command_base.specs.RewrittenSoFar.{EndsAt, HoldsAnswers, IsCopied, IsCopiedWhole, IsCopyStop, IsLeft, IsLeftOf, IsRefusedAt, IsRefusedHere, IsUnderway, IsWith, StopsAt, WritesOnly}
use Rattle.command_base.specs.StopsFrom.{log_of_shelf}
use Rattle.command_base.specs.Views.{OnlyReads}
use Rattle.command_base.specs.WholeFile.{IsWhole}
use Rattle.command_base.specs.declared.stops.LogStop.{LogStop}
use Rattle.command_base.specs.declared.stops.LogStop.TheVariants.{Refused, Large, NoMemory, ShelfFailed}
use Rattle.command_base.proofs.Answered.{rose_at_last}
use Rattle.command_base.proofs.LogLines.{all_whole, before_in, begins_in, first_of_front, none_wrong, wrong_in}
use Rattle.command_base.proofs.ReadSoFar.{read_all, read_further}

pub err_then : {T E : Type 0} (r : Result T E) (P Q : E → Type 0) → IfErr r P → ((e : E) → P e → Q e) → IfErr r Q
err_then (Ok x) P Q h f = tt
err_then (Err e) P Q h f = f e h

refusal_then : (refuses : Line → Why → Type 0) (k : ℕ) (why : Why) (A B : (List Line → List ℕ → Type 0) → Type 0) → ((P : List Line → List ℕ → Type 0) → A P → B P) → IsRefusal refuses k why A → IsRefusal refuses k why B
refusal_then refuses k why A B f (inl wrong) = inl (wrong.0, f _ wrong.1)
refusal_then refuses k why A B f (inr refused) = inr (refused.0, refused.1, f _ refused.2)

-- ---- one file alone is written

pub read_beside : (w : WriterValue) (a b : World) → b.files ≡ a.files → b.said ≡ a.said → b.warned ≡ a.warned → NoneFell a.faults b.faults → WritesOnly w w a b
read_beside w a b files said warned later = record { name = refl; first = refl; others = ap (λ (f : Option Files). without_file f w.name) files; said = said; warned = warned; later = later }

pub reads_beside : (w : WriterValue) (a b : World) → OnlyReads a b → WritesOnly w w a b
reads_beside w a b reads = read_beside w a b reads.files reads.said reads.warned reads.later

pub writes_then : (w v u : WriterValue) (a b c : World) → WritesOnly w v a b → WritesOnly v u b c → WritesOnly w u a c
writes_then w v u a b c one two = record {
  name = two.name ∙ one.name;
  first = two.first ∙ one.first;
  others = subst (λ (n : List ℕ). without_file c.files n ≡ without_file b.files n) one.name two.others ∙ one.others;
  said = two.said ∙ one.said;
  warned = two.warned ∙ one.warned;
  later = λ call name. omega (arith, one.later call name, two.later call name);
}

-- what another file holds stays
pub moved : (old new : Option Files) (name log : List ℕ) (P : List ℕ → Type 0) → without_file new name ≡ without_file old name → log ≢ name → HasText old log P → HasText new log P
moved old new name log P others other has = λ told.
    let g = has (told_alike old new name others told) in
    (g.0, others_same new old name log others other ∙ g.1, g.2)

moved_lines : (old new : Option Files) (name log : List ℕ) (lines : List Line) → without_file new name ≡ without_file old name → log ≢ name → AreOf old log lines → AreOf new log lines
moved_lines old new name log lines others other (inl none) = inl none
moved_lines old new name log lines others other (inr has) = inr (moved old new name log _ others other has)

-- ---- a piece of the log

-- what is left where nothing more can be read
pub copied_left : (files : Option Files) (log : List ℕ) (r : ReaderValue) (answers : List Line → List Line → Type 0) (w : WriterValue) (n : ℕ) → IsCopied files log r answers w n → IsLeftOf files log answers w
copied_left files log r answers w n copied = record {
  lines = copied.lines;
  news = copied.news;
  answered = copied.underway.answered;
  read = copied.read;
  text = log_text w.first copied.news;
  prefix = ([], append-nil (log_text w.first copied.news));
  file = copied.underway.held.file;
}

pub reading_stops : (files now : Option Files) (log : List ℕ) (r : ReaderValue) (answers : List Line → List Line → Type 0) (refuses : Line → Why → Type 0) (w : WriterValue) (n : ℕ) (before after : Faults) (fault : ShelfFault) → IsCopied files log r answers w n → now ≡ files
    → (fault ≡ Failed → ReadingFailed before after log) → IsCopyStop answers refuses (log_of_shelf fault) now log w before after
reading_stops files now log r answers refuses w n before after Failed copied same rose = (subst (λ (f : Option Files). IsLeftOf f log answers w) (sym same) (copied_left files log r answers w n copied), inl (rose refl))
reading_stops files now log r answers refuses w n before after ShelfMemory copied same rose = subst (λ (f : Option Files). IsLeftOf f log answers w) (sym same) (copied_left files log r answers w n copied)

pub begun_copied : (files : Option Files) (log : List ℕ) (r : ReaderValue) (answers : List Line → List Line → Type 0) (w : WriterValue) → IsUnderway files r answers w [] [] [] → IsCopied files log r answers w 0
begun_copied files log r answers w begun = record {
  bytes = [];
  count = refl;
  first = λ whole is. refl;
  lines = [];
  news = [];
  underway = begun;
  held = inl (Plain, tt, (header_text Plain, refl));
  read = inl refl;
}

module _ (files : Option Files) (log : List ℕ) (r : ReaderValue) (answers : List Line → List Line → Type 0) (w : WriterValue) (at n : ℕ) (into : List ℕ) (copied : IsCopied files log r answers w at) (read : IsReadAt files log at n into) (short : n ≤ length into) (within : at + n < 2 ^ 62) where
  abbrev pub fed : List ℕ
  fed = copied.bytes ++ take n into

  fed_long : length fed ≡ at + n
  fed_long = omega (arith, copied.count, length-append copied.bytes (take n into), length-take n into, short)

  read_here : IsReadAt files log (length copied.bytes) n into
  read_here = subst (λ (a : ℕ). IsReadAt files log a n into) (sym copied.count) read

  first_fed : (whole : List ℕ) → content files log ≡ Some whole → fed ≡ take (length fed) whole
  first_fed = read_further files log copied.bytes into n copied.first read_here

  pub fed_underway : (mid : Option Files) (r2 : ReaderValue) → mid ≡ files → StandsFor r2 fed copied.lines → IsUnderway mid r2 answers w fed copied.lines copied.news
  fed_underway mid r2 same stands = record {
    read = stands;
    short = omega (arith, fed_long, within);
    answered = copied.underway.answered;
    held = subst (λ (f : Option Files). HoldsAnswers f w copied.lines copied.news) (sym same) copied.underway.held;
  }

  log_there : HasText files log (λ whole. fed ≡ take (length fed) whole)
  log_there = λ told. let got = read told in (got.0, got.1, first_fed got.0 got.1)

  are_of : (lines : List Line) → HasGiven fed lines → AreOf files log lines
  are_of lines (inl none) = inl none
  are_of lines (inr begins) = inr (λ told. let t = log_there told in (t.0, t.1, begins_in fed t.0 lines begins.0 t.2 begins.1))

  module _ (now : Option Files) (r2 : ReaderValue) (later : List Line → List Line → Type 0) (v : WriterValue) (others : without_file now w.name ≡ without_file files w.name) (other : log ≢ w.name) where
    pub copied_more : (lines : List Line) × (news : List Line) × IsUnderway now r2 later v fed lines news × HoldsNoFurtherLine fed lines → IsCopied now log r2 later v (at + n)
    copied_more done = record {
      bytes = fed;
      count = fed_long;
      first = λ whole is. first_fed whole (sym (others_same now files w.name log others other) ∙ is);
      lines = done.0;
      news = done.1;
      underway = done.2;
      held = done.3;
      read = moved_lines files now w.name log done.0 others other (are_of done.0 (given r2 fed done.0 done.2.read));
    }

    pub copied_all : (lines : List Line) × (news : List Line) × IsUnderway now r2 later v fed lines news × HoldsNoFurtherLine fed lines → n ≡ 0 → IsCopiedWhole now log r2 later v
    unfolding copied_more
    copied_all done none =
        let same : fed ≡ copied.bytes = ap (λ (k : ℕ). copied.bytes ++ take k into) none ∙ append-nil copied.bytes in
        let all : IsWhole files log copied.bytes = read_all files log copied.bytes into copied.first (subst (λ (k : ℕ). IsReadAt files log (length copied.bytes) k into) none read_here) in
        record {
          count = at + n;
          so_far = copied_more done;
          all = λ told. others_same now files w.name log others other ∙ all (told_alike files now w.name others told) ∙ ap Some (sym same);
        }

    -- what was answered of these lines stands in the file
    held_with : (lines news : List Line) → HasGiven fed lines → later lines news → HoldsAnswers now v lines news → (P : List Line → List ℕ → Type 0) → ((whole : List ℕ) → fed ≡ take (length fed) whole → P lines whole) → IsWith now log later v P
    held_with lines news has answered held P holds = record {
      lines = lines;
      news = news;
      answered = answered;
      text = moved files now w.name log (P lines) others other (λ told. let t = log_there told in (t.0, t.1, holds t.0 t.2));
      file = held.file;
      spelled = printed_spells v.first news held.first held.fit held.formed;
    }

    refused_with : (refuses : Line → Why → Type 0) (k : ℕ) (why : Why) → IsRefusedHere now later refuses v fed k why → IsRefusal refuses k why (IsWith now log later v)
    refused_with refuses k why here = by here.refused
      where
        by : IsRefusedAt refuses here.lines k why fed → IsRefusal refuses k why (IsWith now log later v)
        by (inl wrong) = inl (
          wrong.0,
          held_with here.lines here.news here.given here.answered here.held (λ ls log. IsWrongAfter ls k log) (λ whole first. record {
            wrong = inl (wrong_in fed whole (2 ^ 62 - 1) k first (omega (arith, fed_long, within)) wrong.1);
            before = before_in fed whole k here.lines first wrong.2;
          }),
        )
        by (inr it) = inr (
          it.0,
          it.1,
          held_with here.lines here.news here.given here.answered here.held (λ ls log. IsLineAfter it.0 ls k (before_limit log)) (λ whole first.
              let more = begins_in fed (before_limit whole) (here.lines ++ it.0 ∷ []) it.2.rest (first_of_front fed whole first (omega (arith, fed_long, within))) it.2.there in
              record { rest = more.0; there = more.1; number = it.2.number }),
        )

    left_with : IsLeft now later v fed → IsLeftOf now log later v
    left_with left = record {
      lines = left.lines;
      news = left.news;
      answered = left.answered;
      read = moved_lines files now w.name log left.lines others other (are_of left.lines left.given);
      text = left.text;
      prefix = left.prefix;
      file = left.file;
    }

    pub piece_stops : (refuses : Line → Why → Type 0) (stop : LogStop) (before after : Faults) → StopsAt later refuses stop now v fed → (stop ≡ ShelfFailed → Rose (count before Append v.name) (count after Append v.name)) → IsCopyStop later refuses stop now log v before after
    piece_stops refuses (Refused k why) before after stops rose = refused_with refuses k why stops
    piece_stops refuses Large before after stops rose = absurd stops
    piece_stops refuses NoMemory before after stops rose = left_with stops
    piece_stops refuses ShelfFailed before after stops rose = (left_with stops, inr (rose refl))

-- ---- the end of the log

module _ (files : Option Files) (log : List ℕ) (r : ReaderValue) (answers : List Line → List Line → Type 0) (w : WriterValue) where
  -- a log that has no more bytes was rewritten whole
  pub copied_to_end : (n : ℕ) → IsCopied files log r answers w n → HasText files log (λ bytes. length bytes ≤ n) → IsCopiedWhole files log r answers w
  copied_to_end n copied no_more = record {
    count = n;
    so_far = copied;
    all = λ told.
        let f = no_more told in
        f.1 ∙ ap Some (sym (copied.first f.0 f.1 ∙ take_all (length copied.bytes) f.0 (omega (arith, f.2, copied.count))));
  }

  anew : (n : ℕ) → (copied : IsCopied files log r answers w n) → SpellsLog (log_text w.first copied.news) copied.news
  anew n copied = let held = copied.underway.held in printed_spells w.first copied.news held.first held.fit held.formed

  pub too_large : (n : ℕ) → IsCopied files log r answers w n → n ≡ 2 ^ 62 - 1 → HasText files log (λ bytes. n < length bytes) → IsWith files log answers w IsLargeAfter
  unfolding anew
  too_large n copied most more = record {
    lines = copied.lines;
    news = copied.news;
    answered = copied.underway.answered;
    text = λ told.
        let f = more told in
        let first : copied.bytes ≡ take (2 ^ 62 - 1) f.0 = copied.first f.0 f.1 ∙ ap (λ (k : ℕ). take k f.0) (copied.count ∙ most) in (
          f.0,
          f.1,
          record {
            large = omega (arith, f.2, most);
            right = subst HasNoWrongLine first (none_wrong copied.bytes copied.lines copied.held);
            whole = subst (λ (t : List ℕ). AreAllWhole t copied.lines) first (all_whole copied.bytes copied.lines (given r copied.bytes copied.lines copied.underway.read) copied.held);
          },
        );
    file = copied.underway.held.file;
    spelled = anew n copied;
  }

  module _ (whole : IsCopiedWhole files log r answers w) where
    abbrev so : IsCopied files log r answers w whole.count
    so = whole.so_far

    with_text : (P : List Line → List ℕ → Type 0) → P so.lines so.bytes → IsWith files log answers w P
    unfolding anew
    with_text P holds = record { lines = so.lines; news = so.news; answered = so.underway.answered; text = λ told. (so.bytes, whole.all told, holds); file = so.underway.held.file; spelled = anew whole.count so }

    pub ended_well : (res : Result (Unit {0}) LogStop) → ((bytes : List ℕ) (lines : List Line) → StandsFor r bytes lines → HoldsNoFurtherLine bytes lines → EndsAt bytes lines res) → OnOk res (IsWith files log answers w IsLogOf)
    ended_well (Ok done) ends = with_text IsLogOf (record { taken = so.underway.short; spelled = ends so.bytes so.lines so.underway.read so.held })
    ended_well (Err stop) ends = tt

    badly : (refuses : Line → Why → Type 0) (stop : LogStop) (before after : Faults) → EndsAt so.bytes so.lines (Err stop) → IsCopyStop answers refuses stop files log w before after
    badly refuses (Refused k why) before after ends = inl (ends.0, with_text (λ ls bytes. IsWrongAfter ls k bytes) (record { wrong = inr (so.underway.short, ends.1, ends.2); before = ends.3 }))
    badly refuses Large before after ends = absurd ends
    badly refuses NoMemory before after ends = copied_left files log r answers w whole.count so
    badly refuses ShelfFailed before after ends = absurd ends

    pub ended_badly : (refuses : Line → Why → Type 0) (before after : Faults) (res : Result (Unit {0}) LogStop) → ((bytes : List ℕ) (lines : List Line) → StandsFor r bytes lines → HoldsNoFurtherLine bytes lines → EndsAt bytes lines res)
        → IfErr res (λ stop. IsCopyStop answers refuses stop files log w before after)
    ended_badly refuses before after (Ok done) ends = tt
    ended_badly refuses before after (Err stop) ends = badly refuses stop before after (ends so.bytes so.lines so.underway.read so.held)

-- a stop after calls of which none failed
pub stop_later : (answers : List Line → List Line → Type 0) (refuses : Line → Why → Type 0) (stop : LogStop) (files : Option Files) (log : List ℕ) (w : WriterValue) (a b c : Faults) → NoneFell a b → IsCopyStop answers refuses stop files log w b c → IsCopyStop answers refuses stop files log w a c
stop_later answers refuses (Refused k why) files log w a b c later stops = stops
stop_later answers refuses Large files log w a b c later stops = stops
stop_later answers refuses NoMemory files log w a b c later stops = stops
stop_later answers refuses ShelfFailed files log w a b c later stops = (
  stops.0,
  ⊎_elim
      (λ (rose : ReadingFailed b c log). inl (rose_at_last _ _ _ (later Read log) rose))
      (λ (rose : Rose (count b Append w.name) (count c Append w.name)). inr (rose_at_last _ _ _ (later Append w.name) rose))
      stops.1,
)

-- ---- the new file

-- a writer that has begun
pub begun_underway : (old new : Option Files) (r : ReaderValue) (answers : List Line → List Line → Type 0) (w : WriterValue) (output : List ℕ) (first : Spelling) → w ≡ new_writer output first → IsFirst first → StandsFor r [] [] → answers [] [] → new ≡ with_file old output (header_line first)
    → IsUnderway new r answers w [] [] []
begun_underway old new r answers w output first is version stands none files = subst (λ (u : WriterValue). IsUnderway new r answers u [] [] []) (sym is) (record {
  read = stands;
  short = omega arith;
  answered = none;
  held = record {
    first = version;
    formed = All-nil IsWellFormed;
    fit = tt;
    ids = refl;
    next = refl;
    file = λ told.
        ap (λ (f : Option Files). content f output) files
        ∙ content-same old output (header_line first) (told_before old output (header_line first) (subst IsTold files told))
        ∙ ap Some (sym (append-nil (header_line first)));
  };
})

module _ (answers : List Line → List Line → Type 0) (refuses : Line → Why → Type 0) where
  not_begun_part : (old new : Option Files) (log output : List ℕ) (first : Spelling) → answers [] [] → IsNotBegun old new output first → IsRewrittenPart answers old new log output first
  not_begun_part old new log output first none touched = record { lines = []; news = []; answered = none; read = inl refl; files = by touched }
    where
      by : IsNotBegun old new output first → IsTouched old new output (λ bytes. IsPrefixOf bytes (log_text first []))
      by (inl same) = inl same
      by (inr put) = inr (put.0, (put.1.0, put.1.1 ∙ sym (append-nil (header_line first))), put.2)

  pub not_begun : (old new : World) (log output : List ℕ) (first : Spelling) (fault : ShelfFault) → answers [] [] → IsNotBegun old.files new.files output first → (fault ≡ Failed → WritingFailed old.faults new.faults output)
      → IsRewriteStop answers refuses (log_of_shelf fault) old new log output first
  not_begun old new log output first Failed none touched rose = (not_begun_part old.files new.files log output first none touched, inr (rose refl))
  not_begun old new log output first ShelfMemory none touched rose = not_begun_part old.files new.files log output first none touched

  module _ (old mid new : World) (log output : List ℕ) (first : Spelling) (w v : WriterValue) (is : w ≡ new_writer output first) (begun : mid.files ≡ with_file old.files output (header_line first)) (later : NoneFell old.faults mid.faults) (beside : WritesOnly w v mid new) (other : log ≢ output) where
    name_is : v.name ≡ output
    name_is = beside.name ∙ ap (λ (u : WriterValue). u.name) is

    first_is : v.first ≡ first
    first_is = beside.first ∙ ap (λ (u : WriterValue). u.first) is

    others : without_file new.files output ≡ without_file old.files output
    others = subst (λ (n : List ℕ). without_file new.files n ≡ without_file mid.files n) (ap (λ (u : WriterValue). u.name) is) beside.others
        ∙ ap (λ (f : Option Files). without_file f output) begun
        ∙ without-with old.files output (header_line first)

    holds : (text : List ℕ) → IsWhole new.files v.name text → new.files ≡ with_file old.files output text
    holds text file = only_this output text old.files new.files others (subst (λ (n : List ℕ). IsWhole new.files n text) name_is file)

    back : (P : List ℕ → Type 0) → HasText new.files log P → HasText old.files log P
    back P has = moved new.files old.files output log P (sym others) other has

    pub all_written : (P : List Line → List ℕ → Type 0) → IsWith new.files log answers v P → IsRewritten answers old.files new.files log output first P
    all_written P done = record {
      lines = done.lines;
      news = done.news;
      answered = done.answered;
      text = back (P done.lines) done.text;
      files = subst (λ (s : Spelling). new.files ≡ with_file old.files output (log_text s done.news)) first_is (holds (log_text v.first done.news) done.file);
      spelled = subst (λ (s : Spelling). SpellsLog (log_text s done.news) done.news) first_is done.spelled;
    }

    part_written : IsLeftOf new.files log answers v → IsRewrittenPart answers old.files new.files log output first
    part_written left = record {
      lines = left.lines;
      news = left.news;
      answered = left.answered;
      read = moved_lines new.files old.files output log left.lines (sym others) other left.read;
      files = inr (left.text, subst (λ (s : Spelling). IsPrefixOf left.text (log_text s left.news)) first_is left.prefix, holds left.text left.file);
    }

    pub writing_stops : (stop : LogStop) → IsCopyStop answers refuses stop new.files log v mid.faults new.faults → IsRewriteStop answers refuses stop old new log output first
    writing_stops (Refused k why) stops = refusal_then refuses k why (IsWith new.files log answers v) (IsRewritten answers old.files new.files log output first) all_written stops
    writing_stops Large stops = all_written IsLargeAfter stops
    writing_stops NoMemory stops = part_written stops
    writing_stops ShelfFailed stops = (
      part_written stops.0,
      ⊎_elim
          (λ (rose : ReadingFailed mid.faults new.faults log). inl (rose_at_last _ _ _ (later Read log) rose))
          (λ (rose : Rose (count mid.faults Append v.name) (count new.faults Append v.name)). inr (inr (rose_at_last _ _ _ (later Append output) (subst (λ (n : List ℕ). Rose (count mid.faults Append n) (count new.faults Append n)) name_is rose))))
          stops.1,
    )
