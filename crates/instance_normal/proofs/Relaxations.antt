-- What soft clauses add to a problem, by how they are paid for.
use Rattle.std.proofs.Common.{◌≡◌, ℕ, List, [], ◌∷◌, ◌++◌, None, Some, sym, ap, ◌∙◌, ℤ, pos}
use Rattle.scut_base.specs.Literal.{Literal}
use Rattle.instance.specs.declared.objective.Soft.{Soft}
use Rattle.pb_lin.specs.Constraint.{ConstraintValue}
use Rattle.instance_normal.specs.NormalForm.{Clause, IsRowOf, Always, Where, Relaxed, payment, payment_terms, payment_offset, needs_variable, positive}
use Rattle.instance_normal.specs.Fitting.{Fits, IsRelaxationOf}

pub offset_added : (s : Soft) (var : ℕ) → payment s ≡ Always → IsRelaxationOf s var (record { row = None; term = None; offset = s.weight })
offset_added s var paid = record {
  terms = ap (payment_terms var s.weight) (sym paid);
  offset = ap (payment_offset s.weight) (sym paid);
  relaxed = ap needs_variable (sym paid);
  row = tt;
}

pub literal_added : (s : Soft) (var : ℕ) (coefficient : ℤ) (l : Literal) → payment s ≡ Where l → coefficient ≡ pos s.weight → IsRelaxationOf s var (record { row = None; term = Some (coefficient, l); offset = 0 })
literal_added s var coefficient l paid is = record {
  terms = ap (λ (z : ℤ). let ts : List (ℤ × Literal) = (z, l) ∷ [] in ts) is ∙ ap (payment_terms var s.weight) (sym paid);
  offset = ap (payment_offset s.weight) (sym paid);
  relaxed = ap needs_variable (sym paid);
  row = tt;
}

pub variable_added : (s : Soft) (var : ℕ) (coefficient : ℤ) (l : Literal) (c : ConstraintValue) → payment s ≡ Relaxed → coefficient ≡ pos s.weight → l ≡ positive var → IsRowOf (Clause (s.lits ++ positive var ∷ [])) c → Fits var c → IsRelaxationOf s var (record { row = Some c; term = Some (coefficient, l); offset = 0 })
variable_added s var coefficient l c paid is at row fits = record {
  terms = ap (λ (z : ℤ). let ts : List (ℤ × Literal) = (z, l) ∷ [] in ts) is ∙ ap (λ (k : Literal). let ts : List (ℤ × Literal) = (pos s.weight, k) ∷ [] in ts) at ∙ ap (payment_terms var s.weight) (sym paid);
  offset = ap (payment_offset s.weight) (sym paid);
  relaxed = ap needs_variable (sym paid);
  row = (row, fits);
}
