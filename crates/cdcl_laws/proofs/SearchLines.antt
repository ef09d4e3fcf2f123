-- Search lines that follow search lines.
use Rattle.std.proofs.Common.{◌≡◌, ⊎_elim, ℕ, ◌+◌, ◌≤◌, true, cond, List, [], ◌∷◌, ◌++◌, All, refl, arith, ap, sym, subst, ◌∙◌, append-nil, append_assoc}
use Rattle.std.specs.List.{count_by}
use Rattle.std.proofs.lemmas.List.Sums.{sum_by-append}
use Rattle.pb_lin.specs.Constraint.{ConstraintValue}
use Rattle.pb_lin.specs.Problem.{ProblemValue}
use Rattle.hint_rup.specs.declared.hint.Hint.{Hint}
use Rattle.proof_laws.specs.Refusal.{is_clause}
use Rattle.proof_laws.specs.Earned.{IsLearnedId}
use Rattle.proof_laws.specs.declared.line.Line.{Line}
use Rattle.proof_laws.specs.declared.line.Line.TheVariants.{Learn, Reduce, Rup}
use Rattle.oracle.specs.Solving.{AddsSearchLines, IsSearchLine, is_rup}
use Rattle.cdcl_laws.specs.SearchLines.{AddsLearned}
use Rattle.cdcl_laws.proofs.Places.{not_empty, only_place, in_joined}

-- 1 for an implied clause, and else 0
abbrev implies : Line → ℕ
implies line = cond (is_rup line) 1 0

-- ---- no line, and one

pub none_law : (p : ProblemValue) (a : List Line) → AddsLearned p a a
none_law p a = record {
  adds = record {
    more = [];
    is = sym (append-nil a);
    kinds = λ first line after e. absurd (not_empty first after line e);
    one_implied = omega arith;
  };
  none_implied = omega arith;
}

one_kind : (p : ProblemValue) (a : List Line) (line : Line) → IsSearchLine p a line → (first : List Line) (other : Line) (after : List Line) → line ∷ [] ≡ first ++ (other ∷ after) → IsSearchLine p (a ++ first) other
one_kind p a line kind first other after e =
    let place = only_place first after line other e in
    subst (λ (l : Line). IsSearchLine p (a ++ first) l) place.0
    (subst (λ (before : List Line). IsSearchLine p before line) (sym (ap (λ (ls : List Line). a ++ ls) place.1 ∙ append-nil a)) kind)

abbrev one_line : (p : ProblemValue) (a : List Line) (line : Line) → IsSearchLine p a line → count_by is_rup (line ∷ []) ≤ 1 → AddsSearchLines p a (a ++ line ∷ [])
one_line p a line kind few = record { more = line ∷ []; is = refl; kinds = one_kind p a line kind; one_implied = few }

one_learned : (p : ProblemValue) (a : List Line) (line : Line) → IsSearchLine p a line → (none : count_by is_rup (line ∷ []) ≡ 0) → AddsLearned p a (a ++ line ∷ [])
one_learned p a line kind none = record { adds = one_line p a line kind (omega (arith, none)); none_implied = none }

pub learned_law : (p : ProblemValue) (a : List Line) (goal : ConstraintValue) (hints : List Hint) → AddsLearned p a (a ++ Learn goal hints ∷ [])
learned_law p a goal hints = one_learned p a (Learn goal hints) tt (omega arith)

pub reduced_law : (p : ProblemValue) (a : List Line) (ids : List ℕ) → All (IsLearnedId p a) ids → AddsLearned p a (a ++ Reduce ids ∷ [])
reduced_law p a ids learned = one_learned p a (Reduce ids) learned (omega arith)

pub implied_law : (p : ProblemValue) (a : List Line) (goal : ConstraintValue) (hints : List Hint) → is_clause goal ≡ true → AddsSearchLines p a (a ++ Rup goal hints ∷ [])
implied_law p a goal hints clause = one_line p a (Rup goal hints) clause (omega arith)

-- ---- lines after lines

module _ (p : ProblemValue) (a b c : List Line) (one : AddsSearchLines p a b) (other : AddsSearchLines p b c) where
  abbrev both : List Line
  both = one.more ++ other.more

  kind_at : (first : List Line) (line : Line) (after : List Line) → both ≡ first ++ (line ∷ after) → IsSearchLine p (a ++ first) line
  kind_at first line after e = ⊎_elim
      (λ (early : (rest : List Line) × (one.more ≡ first ++ (line ∷ rest))). one.kinds first line early.0 early.1)
      (λ (late : (front : List Line) × (first ≡ one.more ++ front) × (other.more ≡ front ++ (line ∷ after))).
      let before : b ++ late.0 ≡ a ++ first = ap (λ (ls : List Line). ls ++ late.0) one.is ∙ append_assoc a one.more late.0 ∙ ap (λ (ls : List Line). a ++ ls) (sym late.1) in
      subst (λ (ls : List Line). IsSearchLine p ls line) before (other.kinds late.0 line after late.2))
      (in_joined one.more other.more first after line e)

  count_both : count_by is_rup both ≡ count_by is_rup one.more + count_by is_rup other.more
  count_both = sum_by-append implies one.more other.more

  abbrev joined : count_by is_rup both ≤ 1 → AddsSearchLines p a c
  joined few = record {
    more = both;
    is = other.is ∙ ap (λ (ls : List Line). ls ++ other.more) one.is ∙ append_assoc a one.more other.more;
    kinds = kind_at;
    one_implied = few;
  }

pub joined_law : (p : ProblemValue) (a b c : List Line) → AddsLearned p a b → AddsLearned p b c → AddsLearned p a c
joined_law p a b c one other =
    let sum = count_both p a b c one.adds other.adds in
    let none : count_by is_rup (one.adds.more ++ other.adds.more) ≡ 0 = omega (arith, sum, one.none_implied, other.none_implied) in
    record { adds = joined p a b c one.adds other.adds (omega (arith, none)); none_implied = none }

pub then_law : (p : ProblemValue) (a b c : List Line) → AddsLearned p a b → AddsSearchLines p b c → AddsSearchLines p a c
then_law p a b c one other = joined p a b c one.adds other (let sum = count_both p a b c one.adds other in omega (arith, sum, one.none_implied, other.one_implied))
