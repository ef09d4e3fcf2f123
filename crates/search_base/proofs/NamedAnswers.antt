-- Answers as the log names them, one after another.
use Rattle.std.proofs.Common.{◌≡◌, inl, inr, ℕ, ◌<◌, true, ◌&&◌, ◌==◌, List, [], ◌∷◌, ◌++◌, length, get_or, sym, ◌∙◌, subst, arith, ℤ}
use Rattle.std.proofs.Math.Bool.{beq}
use Rattle.std.proofs.lemmas.Bool.{cases_lt}
use Rattle.std.proofs.lemmas.List.{get_or_append_left, get_or_default, get_or_push, length-append}
use Rattle.scut_base.specs.Literal.{Literal}
use Rattle.instance_normal.proofs.Members.{any_of_members}
use Rattle.pb_lin.specs.CostRow.{CostRowValue}
use Rattle.pb_lin.specs.Problem.{ProblemValue}
use Rattle.pb_lin.specs.Restriction.{is_among}
use Rattle.totalizer.specs.declared.bound.Bound.{Bound}
use Rattle.search_base.specs.Cutting.{IsNamed, answered_literal, answered_literals}
use Rattle.search_base.proofs.Covering.{in_piece}

-- one answer whose literal it is
pub among_all : (answers : List Bound) (i : ℕ) (b : Bound) (l : Literal) → i < length answers → b ≡ get_or answers i b →
    is_among (answered_literal b) l ≡ true → is_among (answered_literals answers) l ≡ true
among_all answers i b l short is found =
    any_of_members (λ (m : Literal). m.var == l.var && beq m.neg l.neg) (answered_literal b) (answered_literals answers)
    (λ m there. in_piece answered_literal answers b m (i, short, sym is) there) found

-- ---- one after another

abbrev pub AreNamedSoFar : ProblemValue → List ℤ → List Bound → List Bound → Type 0
AreNamedSoFar p values answers named = (i : ℕ) (r : CostRowValue) (v : ℤ) (b c : Bound) → i < length named →
    IsNamed (get_or p.costs i r) (get_or values i v) (answered_literals answers) (get_or answers i b) (get_or named i c)

pub named_more : (p : ProblemValue) (values : List ℤ) (answers named : List Bound) (row : CostRowValue) (value : ℤ)
    (answer new : Bound) → AreNamedSoFar p values answers named → length named < length p.costs →
    length named < length values → length named < length answers → row ≡ get_or p.costs (length named) row →
    value ≡ get_or values (length named) value → answer ≡ get_or answers (length named) answer →
    IsNamed row value (answered_literals answers) answer new → AreNamedSoFar p values answers (named ++ new ∷ [])
named_more p values answers named row value answer new are in_rows in_values in_answers row_is value_is answer_is is
    i r v b c short = elim (cases_lt i (length named)) [
      | inl before ↦ subst (λ (d : Bound). IsNamed (get_or p.costs i r) (get_or values i v) (answered_literals answers)
          (get_or answers i b) d) (sym (get_or_append_left named (new ∷ []) c i before)) (are i r v b c before)
      | inr after ↦ (
          let sizes = length-append named (new ∷ []) in
          let at : length named ≡ i = omega arith in
          let here : IsNamed (get_or p.costs (length named) r) (get_or values (length named) v) (answered_literals answers)
          (get_or answers (length named) b) new =
          subst (λ (q : CostRowValue). IsNamed q (get_or values (length named) v) (answered_literals answers)
          (get_or answers (length named) b) new) (row_is ∙ get_or_default p.costs (length named) row r in_rows)
          (subst (λ (u : ℤ). IsNamed row u (answered_literals answers) (get_or answers (length named) b) new)
          (value_is ∙ get_or_default values (length named) value v in_values)
          (subst (λ (d : Bound). IsNamed row value (answered_literals answers) d new)
          (answer_is ∙ get_or_default answers (length named) answer b in_answers) is)) in
          subst (λ (d : Bound). IsNamed (get_or p.costs i r) (get_or values i v) (answered_literals answers)
          (get_or answers i b) d) (sym (get_or_push named new c i at))
          (subst (λ (k : ℕ). IsNamed (get_or p.costs k r) (get_or values k v) (answered_literals answers)
          (get_or answers k b) new) at here))
    ]
