-- The file of a recorder, call by call.
use Rattle.std.proofs.Common.{◌≡◌, inl, inr, ℕ, Bool, true, false, cond, Option, None, Some, List, [], ◌∷◌, ◌++◌, length, take, refl, sym, ap, subst, ◌∙◌, arith}
use Rattle.std.specs.Prelude.{MatchOption}
use Rattle.std.specs.Ordering.{nat_cmp, eq_by_cmp}
use Rattle.std.specs.Cmp.Lexicographic.{slice_cmp}
use Rattle.std.specs.FinMap.{get, insert, get-insert, get-remove, same_map, slice_cmp-IsAntisymmetric, nat_cmp-IsAntisymmetric}
use Rattle.std.proofs.lemmas.Cmp.{nat_list_cmp_total}
use Rattle.std.proofs.lemmas.List.{append-nil, length-append, take_at}
use Rattle.scut_base.specs.Files.{Files, content, with_file, with_appended, bytes_or_none, IsTold}
use Rattle.scut_base.proofs.FileLaws.{content-same, told_before, tied_other}
use Rattle.pb_lin.specs.Problem.{ProblemValue}
use Rattle.proof_laws.specs.WellFormed.{IsWellFormed}
use Rattle.proof_laws.specs.State.{StateValue, IsState, Fits, start}
use Rattle.proof_laws.specs.Replay.{IsReplay}
use Rattle.proof_laws.specs.Legal.{IsLegal, IsNext}
use Rattle.proof_laws.specs.declared.line.Line.{Line}
use Rattle.proof_lines.specs.Ids.{FitsNext}
use Rattle.proof_lines.specs.LineText.{printed}
use Rattle.proof_lines.specs.declared.spelling.Spelling.{Spelling}
use Rattle.proof_text.specs.Versions.{IsFirst, after_lines, first_of, header_line, log_text, spelling_at}
use Rattle.proof_text.specs.declared.version.LogVersion.{LogVersion}
use Rattle.proof_text.specs.LogFile.{IsLogFile}
use Rattle.proof_text.specs.Recorders.{IsHeld, IsPutPartly, without_file}
use Rattle.proof_text.proofs.Logs.{fit_push, log_text_push}
use Rattle.proof_text.proofs.Replaying.{fits_here, kept_none, kept_more, spelled_here}

-- ---- the other files

none_twice : (b : Bool) (x y : Option (List ℕ)) → cond b None (cond b x y) ≡ cond b None y
none_twice true x y = refl
none_twice false x y = refl

-- the others are as they were, whatever this one holds
pub without-with : (f : Option Files) (n b : List ℕ) → without_file (with_file f n b) n ≡ without_file f n
unfolding with_file without_file
without-with None n b = refl
without-with (Some m) n b = ap Some (same_map nat_list_cmp_total (slice_cmp-IsAntisymmetric nat_cmp-IsAntisymmetric) _ _ (λ q.
    get-remove nat_list_cmp_total (insert m n b) n q
    ∙ ap (cond (eq_by_cmp (slice_cmp nat_cmp) q n) None) (get-insert nat_list_cmp_total m n b q)
    ∙ none_twice (eq_by_cmp (slice_cmp nat_cmp) q n) (Some b) (get m q)
    ∙ sym (get-remove nat_list_cmp_total m n q)))

-- what they hold is told by them
pub content-without : (f : Option Files) (n q : List ℕ) → (q ≡ n → ⊥) → content (without_file f n) q ≡ content f q
unfolding content without_file
content-without None n q other = refl
content-without (Some m) n q other = get-remove nat_list_cmp_total m n q ∙ ap (λ (t : Bool). cond t None (get m q)) (tied_other q n other)

-- where the others are as they were, each of them is
pub others_same : (f g : Option Files) (n q : List ℕ) → without_file f n ≡ without_file g n → (q ≡ n → ⊥) → content f q ≡ content g q
others_same f g n q same other = sym (content-without f n q other) ∙ ap (λ (h : Option Files). content h q) same ∙ content-without g n q other

pub others_of_part : (f g : Option Files) (n piece : List ℕ) → IsPutPartly f g n piece → without_file g n ≡ without_file f n
others_of_part f g n piece (inl same) = ap (λ (h : Option Files). without_file h n) same
others_of_part f g n piece (inr part) = ap (λ (h : Option Files). without_file h n) part.2 ∙ without-with f n _

-- ---- this file

module _ (p : ProblemValue) (version : LogVersion) where
  abbrev text : List Line → List ℕ
  text lines = log_text (first_of version p) lines

  abbrev here : List Line → Spelling
  here lines = after_lines (first_of version p) lines

  -- the bytes behind the whole log
  grown : (old new : Option Files) (name more : List ℕ) (lines : List Line) → IsLogFile old name p version lines false → new ≡ with_appended old name more → IsTold new → content new name ≡ Some (text lines ++ more)
  grown old new name more lines log is told =
      let told_old : IsTold old = told_before old name _ (subst (λ (f : Option Files). IsTold f) is told) in
      let there : content old name ≡ Some (text lines) = log.file told_old ∙ ap (λ (t : List ℕ). Some (text lines ++ t)) (log.whole refl) ∙ ap Some (append-nil (text lines)) in
      ap (λ (f : Option Files). content f name) is ∙ content-same old name _ told_old ∙ ap (λ (o : Option (List ℕ)). Some (bytes_or_none o ++ more)) there

  log_more : (old new : Option Files) (name : List ℕ) (lines : List Line) (line : Line) → IsLogFile old name p version lines false → FitsNext (here lines) line → new ≡ with_appended old name (printed (here lines) line) → IsLogFile new name p version (lines ++ line ∷ []) false
  log_more old new name lines line log fits is = record {
    first = log.first;
    fit = fit_push (first_of version p) lines line log.fit fits;
    part = [];
    file = λ told. grown old new name (printed (here lines) line) lines log is told ∙ ap Some (sym (log_text_push (first_of version p) lines line) ∙ sym (append-nil (text (lines ++ line ∷ []))));
    whole = λ _. refl;
    next = inl refl;
  }

  log_partly : (old new : Option Files) (name : List ℕ) (lines : List Line) (line : Line) → IsLogFile old name p version lines false → IsWellFormed line → (s : StateValue) → IsReplay p lines s → IsLegal p s line → IsPutPartly old new name (printed (here lines) line) → IsLogFile new name p version lines true
  log_partly old new name lines line log formed s replay legal (inl same) = subst (λ (f : Option Files). IsLogFile f name p version lines true) (sym same) (record {
    first = log.first;
    fit = log.fit;
    part = log.part;
    file = log.file;
    whole = λ bad. cc;
    next = log.next;
  })
  log_partly old new name lines line log formed s replay legal (inr put) = record {
    first = log.first;
    fit = log.fit;
    part = put.0;
    file = λ told. grown old new name put.0 lines log put.2 told;
    whole = λ bad. cc;
    next = inr (record { line = line; formed = formed; state = s; replay = replay; legal = legal; prefix = put.1 });
  }

  -- a log that was just begun
  pub held_none : (old new : Option Files) (name : List ℕ) (s : StateValue) → IsFirst (first_of version p) → s ≡ start p → Fits p s → new ≡ with_file old name (header_line (first_of version p)) → IsHeld new name p version [] s false
  held_none old new name s begins first fits is = record {
    kept = kept_none p s first fits;
    file = record {
      first = begins;
      fit = tt;
      part = [];
      file = λ told. ap (λ (f : Option Files). content f name) is ∙ content-same old name _ (told_before old name _ (subst (λ (f : Option Files). IsTold f) is told)) ∙ ap Some (sym (append-nil (text []) ∙ append-nil (header_line (first_of version p))));
      whole = λ _. refl;
      next = inl refl;
    };
  }

  -- a line more, which the state before it spells
  pub held_more : (old new : Option Files) (name : List ℕ) (lines : List Line) (s : StateValue) (line : Line) (t : StateValue) → IsHeld old name p version lines s false → IsState s → IsWellFormed line → new ≡ with_appended old name (printed (spelling_at version p s) line) → IsNext p s line t → Fits p t → IsHeld new name p version (lines ++ line ∷ []) t false
  held_more old new name lines s line t held state formed is next fits =
      let same : spelling_at version p s ≡ here lines = sym (spelled_here version p lines s held.kept.replay) in
      record {
        kept = kept_more p lines s line t held.kept formed next fits;
        file = log_more old new name lines line held.file (subst (λ (x : Spelling). FitsNext x line) same (fits_here version p s line state))
            (subst (λ (x : Spelling). new ≡ with_appended old name (printed x line)) same is);
      }

  -- a part of a line more
  pub held_partly : (old new : Option Files) (name : List ℕ) (lines : List Line) (s : StateValue) (line : Line) → IsHeld old name p version lines s false → IsWellFormed line → IsLegal p s line → IsPutPartly old new name (printed (spelling_at version p s) line) → IsHeld new name p version lines s true
  held_partly old new name lines s line held formed legal put = record {
    kept = held.kept;
    file = log_partly old new name lines line held.file formed s held.kept.replay legal
        (subst (λ (x : Spelling). IsPutPartly old new name (printed x line)) (sym (spelled_here version p lines s held.kept.replay)) put);
  }

-- ---- the last line

fronts_same : {X : Type 0} (a b : List X) (x y : X) → a ++ x ∷ [] ≡ b ++ y ∷ [] → b ≡ a
fronts_same {X} a b x y e =
    let same : length b ≡ length a = omega (arith, length-append a (x ∷ []), length-append b (y ∷ []), ap length e) in
    sym (take_at b (y ∷ []) (length a) same) ∙ ap (take (length a)) (sym e) ∙ take_at a (x ∷ []) (length a) refl

-- what was pushed last is popped
pub pop_after_push : {X : Type 0} (front old new : List X) (y : X) (r : Option X) → old ≡ front ++ y ∷ [] → MatchOption r ((old ≡ []) × (new ≡ [])) (λ x. old ≡ new ++ x ∷ []) → new ≡ front
pop_after_push front old new y (Some x) pushed popped = fronts_same front new y x (sym pushed ∙ popped)
pop_after_push front old new y None pushed (none, _) =
    let bad : length (front ++ y ∷ []) ≡ 0 = ap length (sym pushed ∙ none) in
    absurd (omega (arith, length-append front (y ∷ []), bad))
