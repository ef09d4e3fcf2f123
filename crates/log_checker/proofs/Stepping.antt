-- What lines make of the logged vectors and of the count of lines.
use Rattle.std.proofs.Common.{◌≡◌, ◌⊎◌, inl, inr, ℕ, ◌+◌, ◌<◌, ◌≤◌, Result, Ok, Err, List, [], ◌∷◌, ◌++◌, length, get_or, sym, subst, ap, ◌∙◌, ⊎_elim, ℤ, arith, length-append}
use Rattle.std.specs.Prelude.{All, IfErr, OnOk}
use Rattle.std.proofs.lemmas.List.{get_or_append_left, get_or-append-add}
use Rattle.std.proofs.lemmas.List.Elements.{All-push}
use Rattle.pb_lin.specs.Problem.{ProblemValue}
use Rattle.proof_laws.specs.State.{StateValue}
use Rattle.proof_laws.specs.Legal.{Makes, IsNext, IsRefused}
use Rattle.proof_laws.specs.Replay.{Leads}
use Rattle.proof_laws.specs.declared.line.Line.{Line}
use Rattle.proof_laws.specs.declared.line.Line.TheVariants.{Pol, Rup, Learn, Def, Red, Dom, Sol, Del, Reduce, End}
use Rattle.proof_laws.specs.declared.why.Why.{Why}
use Rattle.proof_laws.specs.declared.why.Why.TheVariants.{Uncovered}
use Rattle.log_checker.specs.Accepted.{IsCovered}
use Rattle.log_checker.specs.LogFaults.{IsLineFault, LogsUncovered}
use Rattle.proof_rules.specs.Verdict.{IsReason}
use Rattle.proof_rules.specs.declared.fault.StepFault.{StepFault}
use Rattle.proof_rules.specs.declared.fault.StepFault.TheVariants.{Refused, NoMemory}
use Rattle.log_checker.specs.Judging.{IsLineReason, StandsAt}
use Rattle.log_checker.proofs.Reasons.{not_uncovered}

abbrev pub AreCovered : List (List ℤ) → StateValue → Type 0
AreCovered vectors s = All (IsCovered vectors) s.sols

-- ---- one line

pub sols_after : (p : ProblemValue) (s : StateValue) (line : Line) (t : StateValue) → Makes p s line t → (t.sols ≡ s.sols) ⊎ ((v : List ℤ) × (t.sols ≡ s.sols ++ v ∷ []))
sols_after p s (Pol tokens) t m = inl (ap (λ (u : StateValue). u.sols) m.2)
sols_after p s (Rup goal hints) t m = inl (ap (λ (u : StateValue). u.sols) m)
sols_after p s (Learn goal hints) t m = inl (ap (λ (u : StateValue). u.sols) m)
sols_after p s (Def var sum) t m = inl (ap (λ (u : StateValue). u.sols) m)
sols_after p s (Red goal w proofs) t m = inl (ap (λ (u : StateValue). u.sols) m)
sols_after p s (Dom goal w proofs) t m = inl (ap (λ (u : StateValue). u.sols) m)
sols_after p s (Sol model cut ids) t m = inr (_, ap (λ (u : StateValue). u.sols) m)
sols_after p s (Del ids) t m = inl (ap (λ (u : StateValue). u.sols) m)
sols_after p s (Reduce ids) t m = inl (ap (λ (u : StateValue). u.sols) m)
sols_after p s (End id) t m = inl (ap (λ (u : StateValue). u.sols) m)

all_front : {A : Type 0} (P : A → Type 0) (xs ys : List A) → All P (xs ++ ys) → All P xs
all_front P xs ys all k d low = subst P (get_or_append_left xs ys d k low) (all k d (omega (arith, length-append xs ys)))

-- where all is covered after a line, all was before it
pub covered_back : (vectors : List (List ℤ)) (p : ProblemValue) (s : StateValue) (line : Line) (t : StateValue) → IsNext p s line t → AreCovered vectors t → AreCovered vectors s
covered_back vectors p s line t next covered = ⊎_elim
    (λ (same : t.sols ≡ s.sols). subst (All (IsCovered vectors)) same covered)
    (λ (more : (v : List ℤ) × (t.sols ≡ s.sols ++ v ∷ [])). all_front (IsCovered vectors) s.sols (more.0 ∷ []) (subst (All (IsCovered vectors)) more.1 covered))
    (sols_after p s line t next.makes)

-- no further vector was logged
pub covered_same : (vectors : List (List ℤ)) (p : ProblemValue) (s : StateValue) (line : Line) (t : StateValue) → IsNext p s line t → length t.sols ≤ length s.sols → AreCovered vectors s → AreCovered vectors t
covered_same vectors p s line t next short covered = ⊎_elim
    (λ (same : t.sols ≡ s.sols). subst (All (IsCovered vectors)) (sym same) covered)
    (λ (more : (v : List ℤ) × (t.sols ≡ s.sols ++ v ∷ [])). absurd (omega (arith, ap length more.1, length-append s.sols (more.0 ∷ []))))
    (sols_after p s line t next.makes)

-- one was, and it is covered
pub covered_more : (vectors : List (List ℤ)) (p : ProblemValue) (s : StateValue) (line : Line) (t : StateValue) (sol : List ℤ) → IsNext p s line t → length s.sols < length t.sols → sol ≡ get_or t.sols (length s.sols) sol → IsCovered vectors sol → AreCovered vectors s → AreCovered vectors t
covered_more vectors p s line t sol next more is by covered = ⊎_elim
    (λ (same : t.sols ≡ s.sols). absurd (omega (arith, ap length same)))
    (λ (one : (v : List ℤ) × (t.sols ≡ s.sols ++ v ∷ [])).
    let at_end : get_or (s.sols ++ one.0 ∷ []) (length s.sols) sol ≡ one.0 = ap (λ (n : ℕ). get_or (s.sols ++ one.0 ∷ []) n sol) (sym (add-zero' (length s.sols))) ∙ get_or-append-add s.sols (one.0 ∷ []) 0 sol in
    let last : sol ≡ one.0 = is ∙ ap (λ (vs : List (List ℤ)). get_or vs (length s.sols) sol) one.1 ∙ at_end in
    subst (All (IsCovered vectors)) (sym one.1) (All-push (IsCovered vectors) s.sols one.0 covered (subst (IsCovered vectors) last by)))
    (sols_after p s line t next.makes)
  where
    add-zero' : (n : ℕ) → n + 0 ≡ n
    add-zero' n = omega arith

-- one was, and it isn't covered
pub logs_uncovered : (vectors : List (List ℤ)) (p : ProblemValue) (s : StateValue) (line : Line) (t : StateValue) (sol : List ℤ) → IsNext p s line t → length s.sols < length t.sols → sol ≡ get_or t.sols (length s.sols) sol → (IsCovered vectors sol → ⊥) → LogsUncovered p vectors s line (length s.sols + 1)
logs_uncovered vectors p s line t sol next more is not = record {
  next = t;
  legal = next;
  uncovered = λ covered. not (subst (IsCovered vectors) (sym is) (covered (length s.sols) sol more));
  number = ⊎_elim
      (λ (same : t.sols ≡ s.sols). absurd (omega (arith, ap length same)))
      (λ (one : (v : List ℤ) × (t.sols ≡ s.sols ++ v ∷ [])). ap length one.1 ∙ length-append s.sols (one.0 ∷ []))
      (sols_after p s line t next.makes);
}

pub line_fault : (p : ProblemValue) (vectors : List (List ℤ)) (s : StateValue) (line : Line) (why : Why) → IsRefused p s line why → IsLineFault p vectors s line why
line_fault p vectors s line (Uncovered n) h = absurd (not_uncovered p s line n h)
line_fault p vectors s line why h = h

pub line_reason : (p : ProblemValue) (vectors : List (List ℤ)) (s : StateValue) (line : Line) (f : StepFault) → IsReason p s line f → IsLineReason p vectors s line f
line_reason p vectors s line (Refused why) h = line_fault p vectors s line why h
line_reason p vectors s line NoMemory h = tt

-- what was read of the logged vectors is so of the states
pub read_sols : (before after : List (List ℤ)) (s t : StateValue) (sol : List ℤ) → before ≡ s.sols → after ≡ t.sols → length before < length after → sol ≡ get_or after (length before) sol → (length s.sols < length t.sols) × (sol ≡ get_or t.sols (length s.sols) sol)
read_sols before after s t sol same next more is =
    let P : List (List ℤ) → List (List ℤ) → Type 0 = λ us vs. (length us < length vs) × (sol ≡ get_or vs (length us) sol) in
    subst (λ (us : List (List ℤ)). P us t.sols) same (subst (P before) next (more, is))

-- what was read of the logged vectors after a line, and before it
module _ (vectors : List (List ℤ)) (p : ProblemValue) (s : StateValue) (line : Line) (t : StateValue) (before after : List (List ℤ)) (next : IsNext p s line t) (same : before ≡ s.sols) (is : after ≡ t.sols) where
  pub covered_on : (r : Result (Unit {0}) StepFault) → OnOk r ((length after ≤ length before) ⊎ StandsAt (IsCovered vectors) after (length before)) → OnOk r (AreCovered vectors s → AreCovered vectors t)
  covered_on (Ok done) judged = ⊎_elim
      (λ (short : length after ≤ length before). covered_same vectors p s line t next (omega (arith, short, ap length same, ap length is)))
      (λ (at : StandsAt (IsCovered vectors) after (length before)).
      let read = read_sols before after s t at.0 same is at.1 at.2 in
      covered_more vectors p s line t at.0 next read.0 read.1 at.3)
      judged
  covered_on (Err f) judged = tt

  pub refused_on : (r : Result (Unit {0}) StepFault) → IfErr r (λ f. (f ≡ Refused (Uncovered (length before + 1))) × StandsAt (λ sol. IsCovered vectors sol → ⊥) after (length before)) → IfErr r (IsLineReason p vectors s line)
  refused_on (Ok done) judged = tt
  refused_on (Err f) judged =
      let at = judged.1 in
      let read = read_sols before after s t at.0 same is at.1 at.2 in
      subst (IsLineReason p vectors s line) (sym judged.0)
      (subst (λ (n : ℕ). LogsUncovered p vectors s line (n + 1)) (sym (ap length same)) (logs_uncovered vectors p s line t at.0 next read.0 read.1 at.3))

-- ---- many lines

pub leads_covered : (vectors : List (List ℤ)) (p : ProblemValue) (s : StateValue) (lines : List Line) (t : StateValue) → Leads p s lines t → AreCovered vectors t → AreCovered vectors s
leads_covered vectors p s [] t same covered = subst (AreCovered vectors) same covered
leads_covered vectors p s (l ∷ lines) t leads covered = covered_back vectors p s l leads.0 leads.1 (leads_covered vectors p leads.0 lines t leads.2 covered)
