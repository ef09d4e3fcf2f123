-- What is kept while a problem is made; nothing of it has to be believed.
use Rattle.std.specs.Prelude.{◌≡◌, ℕ, ◌+◌, ◌^◌, ◌≤◌, List, [], ◌∷◌, ◌++◌, length, is_some, IfSome, option_to_list, All}
use Rattle.std.specs.List.{AllZip, filter}
use Rattle.instance.specs.declared.objective.Soft.{Soft}
use Rattle.pb_lin.specs.Constraint.{ConstraintValue, UpTo, size}
use Rattle.instance_normal.specs.declared.soft.Relaxation.{Relaxation}
use Rattle.instance_normal.specs.declared.draft.Draft.{Draft}
use Rattle.instance_normal.specs.NormalForm.{RowSource, Clause, IsRowOf, payment, needs_variable, is_relaxed, positive, relaxed_clauses, payment_terms, payment_offset}

-- a row within the limits of a problem over n variables
pub record Fits (n : ℕ) (c : ConstraintValue) : Type 0 where
  pub upto : UpTo n c
  pub small : size c ≤ 2 ^ 66

-- what a soft clause adds, where this is its relaxation variable
pub record IsRelaxationOf (s : Soft) (var : ℕ) (r : Relaxation) : Type 0 where
  pub terms : option_to_list r.term ≡ payment_terms var s.weight (payment s)
  pub offset : r.offset ≡ payment_offset s.weight (payment s)
  pub relaxed : is_some r.row ≡ needs_variable (payment s)
  pub row : IfSome r.row (λ c. IsRowOf (Clause (s.lits ++ positive var ∷ [])) c × Fits var c)

-- after these soft clauses the draft has their rows and variables besides
pub record AddsRows (old new : Draft) (softs : List Soft) : Type 0 where
  pub vars : new.vars ≡ old.vars + length (filter is_relaxed softs)
  pub rows : (ss : List RowSource) → AllZip IsRowOf ss old.rows → AllZip IsRowOf (ss ++ relaxed_clauses (old.vars + 1) (filter is_relaxed softs)) new.rows
  pub fits : All (Fits old.vars) old.rows → All (Fits new.vars) new.rows
