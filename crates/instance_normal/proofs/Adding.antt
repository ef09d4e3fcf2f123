-- One soft clause more in a problem in the making.
use Rattle.std.proofs.Common.{◌≡◌, ℕ, ◌+◌, ◌≤◌, Bool, true, false, cond, List, [], ◌∷◌, ◌++◌, length, filter, Option, None, Some, refl, sym, ap, ◌∙◌, subst, append_assoc, append-nil, length-append, ℤ, arith}
use Rattle.std.specs.Prelude.{option_to_list, is_some, IfSome, All}
use Rattle.std.specs.List.{AllZip}
use Rattle.std.proofs.lemmas.Bool.{false≢true}
use Rattle.std.proofs.lemmas.List.Elements.{All-push, All-weaker, filter-append}
use Rattle.std.proofs.lemmas.List.Sums.{sum_by-cons, sum_by_push}
use Rattle.std.proofs.lemmas.Slice.Zip.{all_zipped_more}
use Rattle.scut_base.specs.Literal.{Literal}
use Rattle.instance.specs.declared.objective.Soft.{Soft}
use Rattle.instance.specs.Shape.{weights_sum}
use Rattle.pb_lin.specs.Constraint.{ConstraintValue}
use Rattle.instance_normal.specs.declared.soft.Relaxation.{Relaxation}
use Rattle.instance_normal.specs.declared.draft.Draft.{Draft}
use Rattle.instance_normal.specs.NormalForm.{RowSource, Clause, IsRowOf, Payment, Never, Always, Where, Relaxed, payment, needs_variable, is_relaxed, next_variable, positive, relaxed_clauses, payment_terms, payment_offset, soft_terms, soft_offset}
use Rattle.instance_normal.specs.Fitting.{Fits, IsRelaxationOf, AddsRows}

-- how many of these need a variable
abbrev pub relaxed_count : List Soft → ℕ
relaxed_count softs = length (filter is_relaxed softs)

next_counts : (var : ℕ) (s : Soft) (softs : List Soft) → next_variable var (payment s) + relaxed_count softs ≡ var + relaxed_count (s ∷ softs)
next_counts var s softs = by (payment s)
  where
    by : (p : Payment) → next_variable var p + relaxed_count softs ≡ var + length (cond (needs_variable p) (s ∷ filter is_relaxed softs) (filter is_relaxed softs))
    by Never = refl
    by Always = refl
    by (Where l) = refl
    by Relaxed = omega arith

pub soft_terms-push : (var : ℕ) (softs : List Soft) (s : Soft) → soft_terms var (softs ++ s ∷ []) ≡ soft_terms var softs ++ payment_terms (var + relaxed_count softs) s.weight (payment s)
soft_terms-push var [] s = append-nil (payment_terms var s.weight (payment s)) ∙ ap (λ (v : ℕ). payment_terms v s.weight (payment s)) (let same : var ≡ var + 0 = omega arith in same)
soft_terms-push var (x ∷ softs) s =
    ap (λ (ts : List (ℤ × Literal)). payment_terms var x.weight (payment x) ++ ts) (soft_terms-push (next_variable var (payment x)) softs s)
    ∙ sym (append_assoc (payment_terms var x.weight (payment x)) (soft_terms (next_variable var (payment x)) softs) (payment_terms (next_variable var (payment x) + relaxed_count softs) s.weight (payment s)))
    ∙ ap (λ (v : ℕ). (payment_terms var x.weight (payment x) ++ soft_terms (next_variable var (payment x)) softs) ++ payment_terms v s.weight (payment s)) (next_counts var x softs)

pub soft_offset-push : (softs : List Soft) (s : Soft) → soft_offset (softs ++ s ∷ []) ≡ soft_offset softs + payment_offset s.weight (payment s)
soft_offset-push softs s = sum_by_push (λ (x : Soft). payment_offset x.weight (payment x)) softs s

pub payment_offset-le : (weight : ℕ) (p : Payment) → payment_offset weight p ≤ weight
payment_offset-le weight Never = omega arith
payment_offset-le weight Always = omega arith
payment_offset-le weight (Where l) = omega arith
payment_offset-le weight Relaxed = omega arith

pub soft_offset-le : (softs : List Soft) → soft_offset softs ≤ weights_sum softs
soft_offset-le [] = omega arith
soft_offset-le (s ∷ softs) = omega (arith, sum_by-cons (λ (x : Soft). payment_offset x.weight (payment x)) s softs, sum_by-cons (λ (x : Soft). x.weight) s softs, payment_offset-le s.weight (payment s), soft_offset-le softs)

relaxed_clauses-push : (var : ℕ) (softs : List Soft) (s : Soft) → relaxed_clauses var (softs ++ s ∷ []) ≡ relaxed_clauses var softs ++ Clause (s.lits ++ positive (var + length softs) ∷ []) ∷ []
relaxed_clauses-push var [] s = ap (λ (v : ℕ). let rs : List RowSource = Clause (s.lits ++ positive v ∷ []) ∷ [] in rs) (let same : var ≡ var + 0 = omega arith in same)
relaxed_clauses-push var (x ∷ softs) s = ap (λ (rs : List RowSource). Clause (x.lits ++ positive var ∷ []) ∷ rs) (relaxed_clauses-push (var + 1) softs s ∙ ap (λ (v : ℕ). relaxed_clauses (var + 1) softs ++ Clause (s.lits ++ positive v ∷ []) ∷ []) (let same : var + 1 + length softs ≡ var + length (x ∷ softs) = omega arith in same))

pub wider : (m n : ℕ) → m ≤ n → (cs : List ConstraintValue) → All (Fits m) cs → All (Fits n) cs
wider m n le cs all = All-weaker (Fits m) (Fits n) (λ c fits. record { upto = All-weaker (λ (t : Literal × ℕ). t.0.var ≤ m) (λ (t : Literal × ℕ). t.0.var ≤ n) (λ t below. omega arith) c.terms fits.upto; small = fits.small }) cs all

filtered : (softs : List Soft) (s : Soft) → filter is_relaxed (softs ++ s ∷ []) ≡ filter is_relaxed softs ++ cond (needs_variable (payment s)) (s ∷ []) []
filtered softs s = filter-append is_relaxed softs (s ∷ [])

-- what a soft clause adds was added
pub one_added : (old mid new : Draft) (softs : List Soft) (s : Soft) (r : Relaxation) → AddsRows old mid softs → IsRelaxationOf s (mid.vars + 1) r → new.rows ≡ mid.rows ++ option_to_list r.row → new.vars ≡ mid.vars + length (option_to_list r.row) → AddsRows old new (softs ++ s ∷ [])
one_added old mid new softs s r so_far is rows vars = by r.row (needs_variable (payment s)) refl is.relaxed is.row rows vars
  where
    by : (row : Option ConstraintValue) (needs : Bool) → needs_variable (payment s) ≡ needs → is_some row ≡ needs_variable (payment s) → IfSome row (λ c. IsRowOf (Clause (s.lits ++ positive (mid.vars + 1) ∷ [])) c × Fits (mid.vars + 1) c) → new.rows ≡ mid.rows ++ option_to_list row → new.vars ≡ mid.vars + length (option_to_list row) → AddsRows old new (softs ++ s ∷ [])
    by None true need some row' rows' vars' = absurd (false≢true (some ∙ need))
    by (Some c) false need some row' rows' vars' = absurd (false≢true (sym need ∙ sym some))
    by None false need some row' rows' vars' =
        let kept : filter is_relaxed (softs ++ s ∷ []) ≡ filter is_relaxed softs = filtered softs s ∙ ap (λ (b : Bool). filter is_relaxed softs ++ cond b (s ∷ []) []) need ∙ append-nil (filter is_relaxed softs) in
        let same : new.rows ≡ mid.rows = rows' ∙ append-nil mid.rows in
        record {
          vars = omega (arith, vars', so_far.vars, ap length kept);
          rows = λ ss zipped. subst (λ (fs : List Soft). AllZip IsRowOf (ss ++ relaxed_clauses (old.vars + 1) fs) new.rows) (sym kept) (subst (AllZip IsRowOf (ss ++ relaxed_clauses (old.vars + 1) (filter is_relaxed softs))) (sym same) (so_far.rows ss zipped));
          fits = λ all. subst (All (Fits new.vars)) (sym same) (wider mid.vars new.vars (omega (arith, vars')) mid.rows (so_far.fits all));
        }
    by (Some c) true need some row' rows' vars' =
        let more : filter is_relaxed (softs ++ s ∷ []) ≡ filter is_relaxed softs ++ s ∷ [] = filtered softs s ∙ ap (λ (b : Bool). filter is_relaxed softs ++ cond b (s ∷ []) []) need in
        let next : old.vars + 1 + length (filter is_relaxed softs) ≡ mid.vars + 1 = omega (arith, so_far.vars) in
        let here : new.vars ≡ mid.vars + 1 = vars' in
        record {
          vars = omega (arith, vars', so_far.vars, ap length more, length-append (filter is_relaxed softs) (s ∷ []));
          rows = λ ss zipped.
              let source : RowSource = Clause (s.lits ++ positive (old.vars + 1 + length (filter is_relaxed softs)) ∷ []) in
              let pushed : (ss ++ relaxed_clauses (old.vars + 1) (filter is_relaxed softs)) ++ source ∷ [] ≡ ss ++ relaxed_clauses (old.vars + 1) (filter is_relaxed (softs ++ s ∷ [])) =
              append_assoc ss (relaxed_clauses (old.vars + 1) (filter is_relaxed softs)) (source ∷ []) ∙ ap (λ (rs : List RowSource). ss ++ rs) (sym (ap (relaxed_clauses (old.vars + 1)) more ∙ relaxed_clauses-push (old.vars + 1) (filter is_relaxed softs) s)) in
              let is_row : IsRowOf source c = subst (λ (v : ℕ). IsRowOf (Clause (s.lits ++ positive v ∷ [])) c) (sym next) row'.0 in
              subst (λ (rs : List RowSource). AllZip IsRowOf rs new.rows) pushed (subst (AllZip IsRowOf ((ss ++ relaxed_clauses (old.vars + 1) (filter is_relaxed softs)) ++ source ∷ [])) (sym rows') (all_zipped_more IsRowOf (ss ++ relaxed_clauses (old.vars + 1) (filter is_relaxed softs)) mid.rows source c (so_far.rows ss zipped) is_row));
          fits = λ all. subst (All (Fits new.vars)) (sym rows') (subst (λ (n : ℕ). All (Fits n) (mid.rows ++ c ∷ [])) (sym here) (All-push (Fits (mid.vars + 1)) mid.rows c (wider mid.vars (mid.vars + 1) (omega arith) mid.rows (so_far.fits all)) row'.1));
        }
