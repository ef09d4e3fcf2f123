-- Where a log goes wrong: at one place alone, for one reason, and nowhere where it is an ended proof.
use Rattle.std.proofs.Common.{◌≡◌, ◌⊎◌, inl, inr, ℕ, zero, suc, ◌+◌, ◌≤◌, List, [], ◌∷◌, ◌++◌, length, refl, sym, subst, ap, ◌∙◌, ⊎_elim, arith, length-append, ℤ}
use Rattle.std.proofs.lemmas.Bool.{false≢true}
use Rattle.pb_lin.specs.Problem.{ProblemValue}
use Rattle.proof_laws.specs.State.{StateValue, start}
use Rattle.proof_laws.specs.Legal.{IsNext, IsRefused}
use Rattle.proof_laws.specs.Replay.{IsReplay}
use Rattle.proof_laws.specs.declared.line.Line.{Line}
use Rattle.proof_laws.specs.declared.why.Why.{Why}
use Rattle.proof_laws.specs.declared.why.Why.TheVariants.{Syntax, NoEnd, Uncovered}
use Rattle.proof_laws.proofs.Unique.{judged_once_law}
use Rattle.proof_laws.proofs.Replays.{leads_split, replay_once}
use Rattle.proof_lines.specs.LineText.{line_text, SpellsNoLine}
use Rattle.proof_lines.specs.declared.spelling.Spelling.{Spelling}
use Rattle.proof_text.specs.Versions.{after_lines}
use Rattle.proof_text.specs.LogText.{BeginsWith, IsHeaderPart, IsOneLine, IsWholeLine, HasWrongHeader, GoesWrongAfter, IsSyntaxAt, IsUnfinishedAt, HoldsNoFurtherLine}
use Rattle.proof_text.proofs.OneLines.{one_nil, same_line}
use Rattle.proof_text.proofs.Logs.{GoesOn, begins_align, header_part_one, never_unfinished, not_headless, one_first, wrong_here}
use Rattle.proof_text.proofs.Readings.{begins_more, wrong_more}
use Rattle.log_checker.specs.Accepted.{IsEndedProof}
use Rattle.log_checker.specs.LogFaults.{Reaches, LogsUncovered, HasRefusedLine, IsLineFault, IsNextFault, IsRefusedAfter, IsWholeFault, HasNoWholeFault, HasNoEnd, IsEndFault, IsLogFault}
use Rattle.log_checker.proofs.Reasons.{not_syntax}
use Rattle.log_checker.proofs.Stepping.{AreCovered, leads_covered}
use Rattle.log_checker.proofs.Texts.{Starts, starts_once, last_line, whole_has_newline, begins_has_newline, unfinished_once}

-- the rest begins with a whole line that is the text of none, whose ids would be spelled so
record HasNoLine (spelling : Spelling) (rest : List ℕ) : Type 0 where
  text : List ℕ
  after : List ℕ
  whole : IsWholeLine rest text after
  wrong : SpellsNoLine spelling text

-- how ids are spelled after the lines, by each of two readings
one_spelling : (bytes : List ℕ) (ls ms : List Line) (r q : List ℕ) → (a : BeginsWith bytes ls r) → (b : BeginsWith bytes ms q) → ls ≡ ms → after_lines a.first ls ≡ after_lines b.first ms
one_spelling bytes ls ms r q a b same = ap (λ (x : Spelling). after_lines x ls) (one_first bytes ls ms r q a b) ∙ ap (after_lines b.first) same

starts_next : (spelling : Spelling) (lines others : List Line) (rest : List ℕ) → (on : GoesOn spelling lines others rest) → Starts spelling rest on.next on.behind
starts_next spelling lines others rest on = record { fine = on.fine; spells = on.spells; whole = on.line }

two_more : (bytes : List ℕ) (n : ℕ) → IsSyntaxAt bytes (n + 2) → GoesWrongAfter bytes n
two_more bytes n h = (let e : n + 2 ≡ suc (suc n) = omega arith in let g : IsSyntaxAt bytes (suc (suc n)) = subst (IsSyntaxAt bytes) e h in g)

module _ (p : ProblemValue) (vectors : List (List ℤ)) where
  -- the bytes begin with these lines, which lead to this state, and the rest follows
  record Reads (bytes : List ℕ) (lines : List Line) (s : StateValue) (rest : List ℕ) : Type 0 where
    begins : BeginsWith bytes lines rest
    reached : Reaches p vectors lines s

  -- the line that the rest begins with, and why it is refused
  record Refusal (spelling : Spelling) (s : StateValue) (rest : List ℕ) (why : Why) : Type 0 where
    line : Line
    after : List ℕ
    starts : Starts spelling rest line after
    reason : IsRefused p s line why ⊎ ((n : ℕ) × (why ≡ Uncovered n) × LogsUncovered p vectors s line n)

  abbrev Seen : Spelling → StateValue → List ℕ → Why → Type 0
  Seen spelling s rest why = ((why ≡ Syntax) × HasNoLine spelling rest) ⊎ Refusal spelling s rest why

  -- where a text goes wrong after as many lines as these, the rest after these is that of no line
  no_line : (bytes : List ℕ) (lines : List Line) (rest : List ℕ) → (begins : BeginsWith bytes lines rest) → GoesWrongAfter bytes (length lines) → HasNoLine (after_lines begins.first lines) rest
  no_line bytes lines rest begins g = ⊎_elim
      (λ (same : (lines ≡ g.lines) × (rest ≡ g.rest)).
      let here : HasNoLine (after_lines g.begins.first g.lines) g.rest = record { text = g.text; after = g.after; whole = g.line; wrong = g.wrong } in
      let spelled : HasNoLine (after_lines begins.first lines) g.rest = subst (λ (x : Spelling). HasNoLine x g.rest) (sym (one_spelling bytes lines g.lines rest g.rest begins g.begins same.0)) here in
      subst (λ (t : List ℕ). HasNoLine (after_lines begins.first lines) t) (sym same.1) spelled)
      (λ (other : GoesOn (after_lines g.begins.first g.lines) lines g.lines g.rest ⊎ GoesOn (after_lines begins.first lines) g.lines lines rest). absurd (⊎_elim
      (λ (on : GoesOn (after_lines g.begins.first g.lines) lines g.lines g.rest). omega (arith, g.right, ap length on.is, length-append g.lines (on.next ∷ on.more)))
      (λ (on : GoesOn (after_lines begins.first lines) g.lines lines rest). omega (arith, g.right, ap length on.is, length-append lines (on.next ∷ on.more)))
      other))
      (begins_align bytes lines g.lines rest g.rest begins g.begins)

  seen : (bytes : List ℕ) (lines : List Line) (rest : List ℕ) (s : StateValue) (why : Why) → (begins : BeginsWith bytes lines rest) → IsNextFault p vectors bytes lines s why → Seen (after_lines begins.first lines) s rest why
  seen bytes lines rest s Syntax begins h = inl (refl, no_line bytes lines rest begins (two_more bytes (length lines) h))
  seen bytes lines rest s (Uncovered n) begins h = inr (record { line = h.line; after = h.after; starts = last_line bytes lines h.line rest h.after begins h.begins; reason = inr (n, refl, h.refused) })
  seen bytes lines rest s why begins h = inr (record { line = h.line; after = h.after; starts = last_line bytes lines h.line rest h.after begins h.begins; reason = inl h.refused })

  -- the text of a line isn't that of none
  not_no_line : (spelling : Spelling) (l : Line) (a rest : List ℕ) → Starts spelling rest l a → HasNoLine spelling rest → ⊥
  not_no_line spelling l a rest starts none =
      none.wrong l (record { formed = starts.spells.formed; fits = starts.spells.fits; is = (same_line none.text (line_text spelling l) none.after a none.whole.one starts.whole.one (sym none.whole.is ∙ starts.whole.is)).0 })

  -- a fault is no legal line whose vectors are covered
  stops : (spelling : Spelling) (s : StateValue) (rest : List ℕ) (why : Why) (l : Line) (a : List ℕ) (t : StateValue) → Seen spelling s rest why → Starts spelling rest l a → IsNext p s l t → AreCovered vectors t → ⊥
  stops spelling s rest why l a t fault starts next covered = ⊎_elim
      (λ (h : (why ≡ Syntax) × HasNoLine spelling rest). not_no_line spelling l a rest starts h.1)
      (λ (h : Refusal spelling s rest why).
      let same : h.line ≡ l = starts_once spelling rest h.line l h.after a h.starts starts in
      let here : IsNext p s h.line t = subst (λ (m : Line). IsNext p s m t) (sym same) next in
      ⊎_elim
      (λ (r : IsRefused p s h.line why). (judged_once_law p s h.line).not_both why t r here)
      (λ (u : (n : ℕ) × (why ≡ Uncovered n) × LogsUncovered p vectors s h.line n). u.2.uncovered (subst (AreCovered vectors) ((judged_once_law p s h.line).one_next t u.2.next here u.2.legal) covered))
      h.reason)
      fault

  one_reason : (spelling : Spelling) (s : StateValue) (rest : List ℕ) (why other : Why) → Seen spelling s rest why → Seen spelling s rest other → why ≡ other
  one_reason spelling s rest why other a b = ⊎_elim
      (λ (h : (why ≡ Syntax) × HasNoLine spelling rest). ⊎_elim
      (λ (g : (other ≡ Syntax) × HasNoLine spelling rest). h.0 ∙ sym g.0)
      (λ (g : Refusal spelling s rest other). absurd (not_no_line spelling g.line g.after rest g.starts h.1))
      b)
      (λ (h : Refusal spelling s rest why). ⊎_elim
      (λ (g : (other ≡ Syntax) × HasNoLine spelling rest). absurd (not_no_line spelling h.line h.after rest h.starts g.1))
      (λ (g : Refusal spelling s rest other).
      let same : g.line ≡ h.line = starts_once spelling rest g.line h.line g.after h.after g.starts h.starts in
      reasons h.line h.reason (subst (λ (l : Line). IsRefused p s l other ⊎ ((n : ℕ) × (other ≡ Uncovered n) × LogsUncovered p vectors s l n)) same g.reason))
      b)
      a
    where
      reasons : (l : Line) → IsRefused p s l why ⊎ ((n : ℕ) × (why ≡ Uncovered n) × LogsUncovered p vectors s l n) → IsRefused p s l other ⊎ ((n : ℕ) × (other ≡ Uncovered n) × LogsUncovered p vectors s l n) → why ≡ other
      reasons l (inl x) (inl y) = (judged_once_law p s l).one_reason why other x y
      reasons l (inl x) (inr y) = absurd ((judged_once_law p s l).not_both why y.2.next x y.2.legal)
      reasons l (inr x) (inl y) = absurd ((judged_once_law p s l).not_both other x.2.next y x.2.legal)
      reasons l (inr x) (inr y) =
          let next : x.2.next ≡ y.2.next = (judged_once_law p s l).one_next x.2.next y.2.next x.2.legal y.2.legal in
          let number : x.0 ≡ y.0 = sym x.2.number ∙ ap (λ (t : StateValue). length t.sols) next ∙ y.2.number in
          x.1 ∙ ap Uncovered number ∙ sym y.1

  fault_has_newline : (spelling : Spelling) (s : StateValue) (rest : List ℕ) (why : Why) → Seen spelling s rest why → IsOneLine rest → ⊥
  fault_has_newline spelling s rest why fault one = ⊎_elim
      (λ (h : (why ≡ Syntax) × HasNoLine spelling rest). whole_has_newline rest h.1.text h.1.after h.1.whole one)
      (λ (h : Refusal spelling s rest why). whole_has_newline rest _ h.after h.starts.whole one)
      fault

  -- ---- two readings

  module _ (bytes : List ℕ) (ls ms : List Line) (s t : StateValue) (r q : List ℕ) (one : Reads bytes ls s r) (two : Reads bytes ms t q) where
    -- no reading goes on after a fault
    no_further : (why : Why) → Seen (after_lines two.begins.first ms) t q why → GoesOn (after_lines two.begins.first ms) ls ms q → ⊥
    no_further why fault on =
        let split = leads_split p ms (on.next ∷ on.more) (start p) s (subst (λ (xs : List Line). IsReplay p xs s) on.is one.reached.replay) in
        let same : split.0 ≡ t = replay_once p ms split.0 t split.1 two.reached.replay in
        let next : IsNext p t on.next split.2.0 = subst (λ (u : StateValue). IsNext p u on.next split.2.0) same split.2.1 in
        stops (after_lines two.begins.first ms) t q why on.next on.behind split.2.0 fault (starts_next (after_lines two.begins.first ms) ls ms q on) next (leads_covered vectors p split.2.0 on.more s split.2.2 one.reached.covered)

    states_same : ls ≡ ms → s ≡ t
    states_same same = replay_once p ms s t (subst (λ (xs : List Line). IsReplay p xs s) same one.reached.replay) two.reached.replay

    fault_excluded : (why : Why) → IsOneLine r → Seen (after_lines two.begins.first ms) t q why → ⊥
    fault_excluded why last fault = ⊎_elim
        (λ (same : (ls ≡ ms) × (r ≡ q)). fault_has_newline (after_lines two.begins.first ms) t q why fault (subst IsOneLine same.1 last))
        (λ (other : GoesOn (after_lines two.begins.first ms) ls ms q ⊎ GoesOn (after_lines one.begins.first ls) ms ls r). ⊎_elim
        (λ (on : GoesOn (after_lines two.begins.first ms) ls ms q). no_further why fault on)
        (λ (on : GoesOn (after_lines one.begins.first ls) ms ls r). whole_has_newline r _ on.behind on.line last)
        other)
        (begins_align bytes ls ms r q one.begins two.begins)

    -- two readings that leave no whole line are one
    both_end : IsOneLine r → IsOneLine q → ls ≡ ms
    both_end last end = ⊎_elim
        (λ (same : (ls ≡ ms) × (r ≡ q)). same.0)
        (λ (other : GoesOn (after_lines two.begins.first ms) ls ms q ⊎ GoesOn (after_lines one.begins.first ls) ms ls r). absurd (⊎_elim
        (λ (on : GoesOn (after_lines two.begins.first ms) ls ms q). whole_has_newline q _ on.behind on.line end)
        (λ (on : GoesOn (after_lines one.begins.first ls) ms ls r). whole_has_newline r _ on.behind on.line last)
        other))
        (begins_align bytes ls ms r q one.begins two.begins)

  faults_same : (bytes : List ℕ) (ls ms : List Line) (s t : StateValue) (r q : List ℕ) (why other : Why) → (one : Reads bytes ls s r) → (two : Reads bytes ms t q) → Seen (after_lines one.begins.first ls) s r why → Seen (after_lines two.begins.first ms) t q other → (ls ≡ ms) × (why ≡ other)
  faults_same bytes ls ms s t r q why other one two a b = ⊎_elim
      (λ (same : (ls ≡ ms) × (r ≡ q)).
      let spelled : Seen (after_lines two.begins.first ms) s r why = subst (λ (x : Spelling). Seen x s r why) (one_spelling bytes ls ms r q one.begins two.begins same.0) a in
      let here : Seen (after_lines two.begins.first ms) t r why = subst (λ (u : StateValue). Seen (after_lines two.begins.first ms) u r why) (states_same bytes ls ms s t r q one two same.0) spelled in
      (same.0, one_reason (after_lines two.begins.first ms) t q why other (subst (λ (x : List ℕ). Seen (after_lines two.begins.first ms) t x why) same.1 here) b))
      (λ (on : GoesOn (after_lines two.begins.first ms) ls ms q ⊎ GoesOn (after_lines one.begins.first ls) ms ls r). absurd (⊎_elim
      (λ (h : GoesOn (after_lines two.begins.first ms) ls ms q). no_further bytes ls ms s t r q one two other b h)
      (λ (h : GoesOn (after_lines one.begins.first ls) ms ls r). no_further bytes ms ls t s q r two one why a h)
      on))
      (begins_align bytes ls ms r q one.begins two.begins)

  -- ---- whole lines

  abbrev before_fault : (bytes : List ℕ) (k : ℕ) (why : Why) → (h : IsRefusedAfter p vectors bytes k why) → Reads bytes h.lines h.state h.rest
  before_fault bytes k why h = record { begins = h.begins; reached = h.reached }

  fault_seen : (bytes : List ℕ) (k : ℕ) (why : Why) → (h : IsRefusedAfter p vectors bytes k why) → Seen (after_lines h.begins.first h.lines) h.state h.rest why
  fault_seen bytes k why h = seen bytes h.lines h.rest h.state why h.begins h.fault

  pub no_whole_fault : (bytes : List ℕ) (lines : List Line) (s : StateValue) → IsReplay p lines s → AreCovered vectors s → HoldsNoFurtherLine bytes lines → HasNoWholeFault p vectors bytes
  no_whole_fault bytes lines s replay covered held k why fault = ⊎_elim
      (λ (part : IsHeaderPart bytes). ⊎_elim
      (λ (h : (k ≡ 1) × (why ≡ Syntax) × HasWrongHeader bytes). h.2.1 part)
      (λ (h : IsRefusedAfter p vectors bytes k why). begins_has_newline bytes h.lines h.rest h.begins (header_part_one bytes part))
      fault)
      (λ (rest : (r : List ℕ) × BeginsWith bytes lines r × IsOneLine r). ⊎_elim
      (λ (h : (k ≡ 1) × (why ≡ Syntax) × HasWrongHeader bytes). not_headless bytes lines rest.0 rest.1 h.2)
      (λ (h : IsRefusedAfter p vectors bytes k why). fault_excluded bytes lines h.lines s h.state rest.0 h.rest (record { begins = rest.1; reached = record { replay = replay; covered = covered } }) (before_fault bytes k why h) why rest.2 (fault_seen bytes k why h))
      fault)
      held

  whole_faults_same : (bytes : List ℕ) (k j : ℕ) (why other : Why) → IsWholeFault p vectors bytes k why → IsWholeFault p vectors bytes j other → (k ≡ j) × (why ≡ other)
  whole_faults_same bytes k j why other (inl a) (inl b) = (a.0 ∙ sym b.0, a.1 ∙ sym b.1)
  whole_faults_same bytes k j why other (inl a) (inr b) = absurd (not_headless bytes b.lines b.rest b.begins a.2)
  whole_faults_same bytes k j why other (inr a) (inl b) = absurd (not_headless bytes a.lines a.rest a.begins b.2)
  whole_faults_same bytes k j why other (inr a) (inr b) =
      let same = faults_same bytes a.lines b.lines a.state b.state a.rest b.rest why other (before_fault bytes k why a) (before_fault bytes j other b) (fault_seen bytes k why a) (fault_seen bytes j other b) in
      (omega (arith, a.number, b.number, ap length same.0), same.1)

  -- ---- ends

  whole_not_end : (bytes : List ℕ) (lines : List Line) (s : StateValue) (k : ℕ) (why : Why) → Reads bytes lines s [] → IsWholeFault p vectors bytes k why → ⊥
  whole_not_end bytes lines s k why reads (inl a) = not_headless bytes lines [] reads.begins a.2
  whole_not_end bytes lines s k why reads (inr a) = fault_excluded bytes lines a.lines s a.state [] a.rest reads (before_fault bytes k why a) why one_nil (fault_seen bytes k why a)

  at_end : (bytes : List ℕ) (k : ℕ) → (h : HasNoEnd p vectors bytes k) → Reads bytes h.lines h.state []
  at_end bytes k h = record { begins = h.spelled; reached = h.reached }

  -- the fault at the end, by its reason
  abbrev EndsWrong : List ℕ → ℕ → Why → Type 0
  EndsWrong bytes k why = ((why ≡ Syntax) × HasNoWholeFault p vectors bytes × IsUnfinishedAt bytes k) ⊎ ((why ≡ NoEnd) × HasNoEnd p vectors bytes k)

  ends_wrong : (bytes : List ℕ) (k : ℕ) (why : Why) → IsEndFault p vectors bytes k why → EndsWrong bytes k why
  ends_wrong bytes k Syntax h = inl (refl, h.0, h.1)
  ends_wrong bytes k NoEnd h = inr (refl, h)
  ends_wrong bytes k why h = absurd h

  end_faults_same : (bytes : List ℕ) (k j : ℕ) (why other : Why) → EndsWrong bytes k why → EndsWrong bytes j other → (k ≡ j) × (why ≡ other)
  end_faults_same bytes k j why other (inl a) (inl b) = (unfinished_once bytes k j a.2 b.2, a.0 ∙ sym b.0)
  end_faults_same bytes k j why other (inl a) (inr b) = absurd (never_unfinished bytes b.1.lines b.1.spelled k a.2)
  end_faults_same bytes k j why other (inr a) (inl b) = absurd (never_unfinished bytes a.1.lines a.1.spelled j b.2)
  end_faults_same bytes k j why other (inr a) (inr b) =
      let same = both_end bytes a.1.lines b.1.lines a.1.state b.1.state [] [] (at_end bytes k a.1) (at_end bytes j b.1) one_nil one_nil in
      (omega (arith, a.1.number, b.1.number, ap length same), a.0 ∙ sym b.0)

  whole_and_end : (bytes : List ℕ) (k j : ℕ) (why other : Why) → IsWholeFault p vectors bytes k why → EndsWrong bytes j other → ⊥
  whole_and_end bytes k j why other a (inl b) = b.1 k why a
  whole_and_end bytes k j why other a (inr b) = whole_not_end bytes b.1.lines b.1.state k why (at_end bytes j b.1) a

  pub log_faults_same : (bytes : List ℕ) (k j : ℕ) (why other : Why) → IsLogFault p vectors bytes k why → IsLogFault p vectors bytes j other → (k ≡ j) × (why ≡ other)
  log_faults_same bytes k j why other (inl a) (inl b) = whole_faults_same bytes k j why other a b
  log_faults_same bytes k j why other (inl a) (inr b) = absurd (whole_and_end bytes k j why other a (ends_wrong bytes j other b))
  log_faults_same bytes k j why other (inr a) (inl b) = absurd (whole_and_end bytes j k other why b (ends_wrong bytes k why a))
  log_faults_same bytes k j why other (inr a) (inr b) = end_faults_same bytes k j why other (ends_wrong bytes k why a) (ends_wrong bytes j other b)

  pub ended_has_no_fault : (bytes : List ℕ) (k : ℕ) (why : Why) → IsEndedProof p vectors bytes → IsLogFault p vectors bytes k why → ⊥
  ended_has_no_fault bytes k why proof fault = by fault
    where
      reads : Reads bytes proof.lines proof.state []
      reads = record { begins = proof.spelled; reached = record { replay = proof.replay; covered = proof.covered } }

      ends : EndsWrong bytes k why → ⊥
      ends (inl a) = never_unfinished bytes proof.lines proof.spelled k a.2
      ends (inr a) =
          let same = both_end bytes proof.lines a.1.lines proof.state a.1.state [] [] reads (at_end bytes k a.1) one_nil one_nil in
          let state : proof.state ≡ a.1.state = states_same bytes proof.lines a.1.lines proof.state a.1.state [] [] reads (at_end bytes k a.1) same in
          false≢true (sym a.1.unended ∙ sym (ap (λ (s : StateValue). s.ended) state) ∙ proof.ended)

      by : IsLogFault p vectors bytes k why → ⊥
      by (inl a) = whole_not_end bytes proof.lines proof.state k why reads a
      by (inr a) = ends (ends_wrong bytes k why a)

  -- ---- what a reader answers

  refused_next : (bytes : List ℕ) (lines : List Line) (s : StateValue) (line : Line) (after : List ℕ) (why : Why) → BeginsWith bytes (lines ++ line ∷ []) after → IsLineFault p vectors s line why → IsNextFault p vectors bytes lines s why
  refused_next bytes lines s line after Syntax begins fault = absurd (not_syntax p s line fault)
  refused_next bytes lines s line after why begins fault = record { line = line; after = after; begins = begins; refused = fault }

  -- a whole line that is wrong is that after the lines that it goes wrong after
  wrong_follows : (bytes : List ℕ) (lines : List Line) (n : ℕ) → (g : GoesWrongAfter bytes n) → GoesOn (after_lines g.begins.first g.lines) lines g.lines g.rest → ⊥
  wrong_follows bytes lines n g on = wrong_here (after_lines g.begins.first g.lines) lines g.lines g.rest g.text g.after g.line g.wrong on

  pub no_syntax : (bytes : List ℕ) (lines : List Line) (k : ℕ) → HoldsNoFurtherLine bytes lines → IsSyntaxAt bytes k → ⊥
  no_syntax bytes lines zero held h = h
  no_syntax bytes lines (suc zero) (inl part) h = h.1 part
  no_syntax bytes lines (suc zero) (inr rest) h = not_headless bytes lines rest.0 rest.1 h
  no_syntax bytes lines (suc (suc n)) (inl part) g = begins_has_newline bytes g.lines g.rest g.begins (header_part_one bytes part)
  no_syntax bytes lines (suc (suc n)) (inr rest) g = ⊎_elim
      (λ (same : (lines ≡ g.lines) × (rest.0 ≡ g.rest)). whole_has_newline g.rest g.text g.after g.line (subst IsOneLine same.1 rest.2))
      (λ (other : GoesOn (after_lines g.begins.first g.lines) lines g.lines g.rest ⊎ GoesOn (after_lines rest.1.first lines) g.lines lines rest.0). ⊎_elim
      (λ (on : GoesOn (after_lines g.begins.first g.lines) lines g.lines g.rest). wrong_follows bytes lines n g on)
      (λ (on : GoesOn (after_lines rest.1.first lines) g.lines lines rest.0). whole_has_newline rest.0 _ on.behind on.line rest.2)
      other)
      (begins_align bytes lines g.lines rest.0 g.rest rest.1 g.begins)

  -- it goes wrong after as many lines as those, and these are those
  wrong_after : (bytes : List ℕ) (lines : List Line) (n : ℕ) → (lines ≡ []) ⊎ ((rest : List ℕ) × BeginsWith bytes lines rest) → (g : GoesWrongAfter bytes n) → n ≤ length lines → g.lines ≡ lines
  wrong_after bytes lines n (inl none) g few = empty g.lines (omega (arith, g.right, ap length none)) ∙ sym none
    where
      empty : (xs : List Line) → length xs ≤ 0 → xs ≡ []
      empty [] low = refl
      empty (x ∷ xs) low = absurd (omega arith)
  wrong_after bytes lines n (inr rest) g few = ⊎_elim
      (λ (same : (lines ≡ g.lines) × (rest.0 ≡ g.rest)). sym same.0)
      (λ (other : GoesOn (after_lines g.begins.first g.lines) lines g.lines g.rest ⊎ GoesOn (after_lines rest.1.first lines) g.lines lines rest.0). absurd (⊎_elim
      (λ (on : GoesOn (after_lines g.begins.first g.lines) lines g.lines g.rest). wrong_follows bytes lines n g on)
      (λ (on : GoesOn (after_lines rest.1.first lines) g.lines lines rest.0). omega (arith, g.right, ap length on.is, length-append lines (on.next ∷ on.more)))
      other))
      (begins_align bytes lines g.lines rest.0 g.rest rest.1 g.begins)

  pub syntax_fault : (bytes : List ℕ) (lines : List Line) (s : StateValue) (k : ℕ) → IsReplay p lines s → AreCovered vectors s → (lines ≡ []) ⊎ ((rest : List ℕ) × BeginsWith bytes lines rest) → IsSyntaxAt bytes k → k ≤ length lines + 2 → IsWholeFault p vectors bytes k Syntax
  syntax_fault bytes lines s zero replay covered given h low = absurd h
  syntax_fault bytes lines s (suc zero) replay covered given h low = inl (refl, refl, h)
  syntax_fault bytes lines s (suc (suc n)) replay covered given g low =
      let same : g.lines ≡ lines = wrong_after bytes lines n given g (omega arith) in
      inr (record {
        lines = lines;
        rest = g.rest;
        begins = subst (λ (xs : List Line). BeginsWith bytes xs g.rest) same g.begins;
        state = s;
        reached = record { replay = replay; covered = covered };
        number = omega (arith, g.right, ap length same);
        fault = (let e : suc (suc n) ≡ length lines + 2 = omega (arith, g.right, ap length same) in subst (IsSyntaxAt bytes) e g);
      })

  pub line_refused : (bytes : List ℕ) (lines : List Line) (line : Line) (rest after : List ℕ) (s : StateValue) (k : ℕ) (why : Why) → BeginsWith bytes lines rest → BeginsWith bytes (lines ++ line ∷ []) after → IsReplay p lines s → AreCovered vectors s → IsLineFault p vectors s line why → length lines + 2 ≡ k → IsWholeFault p vectors bytes k why
  line_refused bytes lines line rest after s k why begins further replay covered fault number = inr (record {
    lines = lines;
    rest = rest;
    begins = begins;
    state = s;
    reached = record { replay = replay; covered = covered };
    number = number;
    fault = refused_next bytes lines s line after why further fault;
  })

  -- ---- more bytes

  pub whole_fault_more : (bytes more : List ℕ) (k : ℕ) (why : Why) → IsWholeFault p vectors bytes k why → IsWholeFault p vectors (bytes ++ more) k why
  whole_fault_more bytes more k why (inl h) = inl (h.0, h.1, wrong_more bytes more 1 h.2)
  whole_fault_more bytes more k why (inr h) = inr (record {
    lines = h.lines;
    rest = h.rest ++ more;
    begins = begins_more bytes h.rest more h.lines h.begins;
    state = h.state;
    reached = h.reached;
    number = h.number;
    fault = fault_more h.lines h.state why h.fault;
  })
    where
      refused_more : (lines : List Line) (s : StateValue) (w : Why) → HasRefusedLine p vectors bytes lines s w → HasRefusedLine p vectors (bytes ++ more) lines s w
      refused_more lines s w f = record { line = f.line; after = f.after ++ more; begins = begins_more bytes f.after more (lines ++ f.line ∷ []) f.begins; refused = f.refused }

      fault_more : (lines : List Line) (s : StateValue) (w : Why) → IsNextFault p vectors bytes lines s w → IsNextFault p vectors (bytes ++ more) lines s w
      fault_more lines s Syntax f = wrong_more bytes more (length lines + 2) f
      fault_more lines s w f = refused_more lines s w f
