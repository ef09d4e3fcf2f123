-- Answers for one objective after another.
use Rattle.std.proofs.Common.{◌≡◌, inl, inr, ℕ, ◌<◌, List, [], ◌∷◌, ◌++◌, length, get_or, refl, sym, subst, arith, ℤ}
use Rattle.std.proofs.lemmas.Bool.{cases_lt}
use Rattle.std.proofs.lemmas.List.{get_or_append_left, get_or_push, length-append}
use Rattle.pb_lin.specs.CostRow.{CostRowValue}
use Rattle.pb_lin.specs.Problem.{ProblemValue}
use Rattle.proof_laws.specs.declared.line.Line.{Line}
use Rattle.proof_rules.specs.Recording.{Snapshot}
use Rattle.sum_outputs.specs.Adding.{Continues, IsReady}
use Rattle.totalizer.specs.Keeping.{KeepsOwn, OwnLinesStay}
use Rattle.totalizer.specs.declared.bound.Bound.{Bound}
use Rattle.totalizer.specs.declared.reform.Reform.{Reform}
use Rattle.search_base.specs.CostBounds.{HasLiteral, IsAnswerFor, IsCostBound}
use Rattle.search_base.specs.Cutting.{AreAnswers, AreAsked}
use Rattle.search_base.proofs.RowStays.{cost_bound_stays}
use Rattle.search_base.proofs.TurnLines.{own_law, totalizer_lines}

pub no_answers : (p : ProblemValue) (lines : List Line) (answers : List Bound) → answers ≡ [] →
    AreAnswers p lines [] answers
no_answers p lines answers none =
    subst (λ (bs : List Bound). AreAnswers p lines [] bs) (sym none)
    (record { count = refl; each = λ i r v b short. absurd (omega arith) })

-- what is said of each answer, with one more
pub each_more : (P : ℕ → ℤ → Bound → Type 0) (values : List ℤ) (answers : List Bound) (v : ℤ) (b : Bound) →
    length answers ≡ length values →
    ((i : ℕ) (u : ℤ) (c : Bound) → i < length answers → P i (get_or values i u) (get_or answers i c)) →
    P (length answers) v b → (i : ℕ) (u : ℤ) (c : Bound) → i < length (answers ++ b ∷ []) →
    P i (get_or (values ++ v ∷ []) i u) (get_or (answers ++ b ∷ []) i c)
each_more P values answers v b count each next i u c short = elim (cases_lt i (length answers)) [
  | inl before ↦ (
      let value : get_or (values ++ v ∷ []) i u ≡ get_or values i u =
      get_or_append_left values (v ∷ []) u i (omega arith) in
      let answer : get_or (answers ++ b ∷ []) i c ≡ get_or answers i c =
      get_or_append_left answers (b ∷ []) c i before in
      subst (λ (w : ℤ). P i w (get_or (answers ++ b ∷ []) i c)) (sym value)
      (subst (λ (e : Bound). P i (get_or values i u) e) (sym answer) (each i u c before)))
  | inr after ↦ (
      let sizes = length-append answers (b ∷ []) in
      let last : length answers ≡ i = omega arith in
      let value : get_or (values ++ v ∷ []) i u ≡ v = get_or_push values v u i (omega arith) in
      let answer : get_or (answers ++ b ∷ []) i c ≡ b = get_or_push answers b c i last in
      subst (λ (w : ℤ). P i w (get_or (answers ++ b ∷ []) i c)) (sym value)
      (subst (λ (e : Bound). P i v e) (sym answer) (subst (λ (k : ℕ). P k v b) last next)))
]

pub answers_more : (p : ProblemValue) (lines : List Line) (values : List ℤ) (answers : List Bound) (v : ℤ) (b : Bound) →
    AreAnswers p lines values answers →
    ((d : CostRowValue) → IsCostBound p lines (get_or p.costs (length answers) d) v b) →
    AreAnswers p lines (values ++ v ∷ []) (answers ++ b ∷ [])
answers_more p lines values answers v b are next = record {
  count = let count = are.count in omega (arith, length-append answers (b ∷ []), length-append values (v ∷ []));
  each = λ i r u c short. each_more
      (λ j w d. (q : CostRowValue) → IsCostBound p lines (get_or p.costs j q) w d) values answers v b are.count
      (λ j w d less q. are.each j q w d less) next i u c short r;
}

pub no_asked : (reforms : List Reform) (answers : List Bound) → answers ≡ [] → AreAsked reforms [] answers
no_asked reforms answers none =
    subst (λ (bs : List Bound). AreAsked reforms [] bs) (sym none)
    (record { each = λ i r v b short. absurd (omega arith) })

pub asked_more : (reforms : List Reform) (values : List ℤ) (answers : List Bound) (v : ℤ) (b : Bound) →
    length answers ≡ length values → AreAsked reforms values answers →
    ((r : Reform) → IsAnswerFor (get_or reforms (length answers) r) v b
    × HasLiteral reforms (get_or reforms (length answers) r) b) →
    AreAsked reforms (values ++ v ∷ []) (answers ++ b ∷ [])
asked_more reforms values answers v b count are next = record {
  each = λ i r u c short. each_more
      (λ j w d. (q : Reform) → IsAnswerFor (get_or reforms j q) w d × HasLiteral reforms (get_or reforms j q) d) values
      answers v b count (λ j w d less q. are.each j q w d less) next i u c short r;
}

-- they mean what they did after lines of a totalizer
pub answers_later : OwnLinesStay → (a b : Snapshot) (values : List ℤ) (answers : List Bound) → IsReady a →
    Continues a b → AreAnswers a.problem a.lines values answers → AreAnswers b.problem b.lines values answers
answers_later stays a b values answers ready on are =
    let keeps : KeepsOwn a.problem a.lines b.lines = own_law a.problem a.lines b.lines (totalizer_lines a b on) in
    subst (λ (p : ProblemValue). AreAnswers p b.lines values answers) (sym on.problem) (record {
      count = are.count;
      each = λ i r v c short. cost_bound_stays stays a.problem a.lines b.lines ready.state
          (get_or a.problem.costs i r) (get_or values i v) (get_or answers i c) keeps ready.reached
          (are.each i r v c short);
    })
