-- Lines of turns.
use Rattle.std.proofs.Common.{◌≡◌, ⊎_elim, List, [], ◌∷◌, ◌++◌, ap, sym, subst, ◌∙◌, append-nil, append_assoc}
use Rattle.pb_lin.specs.Problem.{ProblemValue}
use Rattle.proof_laws.specs.declared.line.Line.{Line}
use Rattle.proof_laws.specs.declared.line.Line.TheVariants.{Pol, Rup, Learn, Def, Red, Sol, Reduce}
use Rattle.proof_rules.specs.Recording.{Snapshot}
use Rattle.recording.specs.Adding.{Adds}
use Rattle.oracle.specs.Solving.{AddsSearchLines, IsDerived, IsSearchLine}
use Rattle.recording.specs.Advice.{IsConservative}
use Rattle.sum_outputs.specs.Adding.{Continues}
use Rattle.totalizer.specs.Keeping.{DeletesLearned}
use Rattle.search_base.specs.Logged.{AddsTurnLines, IsTurnLine}
use Rattle.search_base.specs.Laws.{TurnLinesJoin, TurnLinesKeepOwn}
use Rattle.search_base.proofs.Places.{not_empty, in_joined, at_place}

-- ---- kinds of lines

search_kind : (p : ProblemValue) (before : List Line) (line : Line) → IsSearchLine p before line →
    IsTurnLine p before line
search_kind p before (Learn goal hints) is = tt
search_kind p before (Reduce ids) is = is
search_kind p before (Rup goal hints) is = tt
search_kind p before line is = absurd is

totalizer_kind : (p : ProblemValue) (before : List Line) (line : Line) → IsConservative line → IsTurnLine p before line
totalizer_kind p before (Def var sum) is = tt
totalizer_kind p before (Pol tokens) is = tt
totalizer_kind p before (Rup goal hints) is = tt
totalizer_kind p before (Red goal w proofs) is = is
totalizer_kind p before line is = absurd is

derived_kind : (p : ProblemValue) (before : List Line) (line : Line) → IsDerived line → IsTurnLine p before line
derived_kind p before (Pol tokens) is = tt
derived_kind p before (Rup goal hints) is = tt
derived_kind p before line is = absurd is

turn_deletes : (p : ProblemValue) (before : List Line) (line : Line) → IsTurnLine p before line →
    DeletesLearned p before line
turn_deletes p before (Pol tokens) is = tt
turn_deletes p before (Rup goal hints) is = tt
turn_deletes p before (Learn goal hints) is = tt
turn_deletes p before (Def var sum) is = tt
turn_deletes p before (Red goal w proofs) is = tt
turn_deletes p before (Sol model cut ids) is = tt
turn_deletes p before (Reduce ids) is = is
turn_deletes p before line is = absurd is

-- ---- lines after lines

pub no_line : (p : ProblemValue) (lines : List Line) → AddsTurnLines p lines lines
no_line p lines = record {
  more = [];
  is = sym (append-nil lines);
  kinds = λ first line after e. absurd (not_empty first after line e);
}

pub search_lines : (p : ProblemValue) (old new : List Line) → AddsSearchLines p old new → AddsTurnLines p old new
search_lines p old new adds = record {
  more = adds.more;
  is = adds.is;
  kinds = λ first line after e. search_kind p (old ++ first) line (adds.kinds first line after e);
}

pub totalizer_lines : (a b : Snapshot) → Continues a b → AddsTurnLines a.problem a.lines b.lines
totalizer_lines a b on = record {
  more = on.more;
  is = on.lines;
  kinds = λ first line after e. totalizer_kind a.problem (a.lines ++ first) line
      (at_place IsConservative on.more first after line e on.kinds);
}

pub derived_lines : (a b : Snapshot) → Adds IsDerived a b → AddsTurnLines a.problem a.lines b.lines
derived_lines a b on = record {
  more = on.more;
  is = on.lines;
  kinds = λ first line after e. derived_kind a.problem (a.lines ++ first) line
      (at_place IsDerived on.more first after line e on.kinds);
}

module _ (p : ProblemValue) (a b c : List Line) (one : AddsTurnLines p a b) (other : AddsTurnLines p b c) where
  kind_at : (first : List Line) (line : Line) (after : List Line) → one.more ++ other.more ≡ first ++ (line ∷ after) →
      IsTurnLine p (a ++ first) line
  kind_at first line after e = ⊎_elim
      (λ (early : (rest : List Line) × (one.more ≡ first ++ (line ∷ rest))). one.kinds first line early.0 early.1)
      (λ (late : (front : List Line) × (first ≡ one.more ++ front) × (other.more ≡ front ++ (line ∷ after))).
      let before : b ++ late.0 ≡ a ++ first = ap (λ (ls : List Line). ls ++ late.0) one.is
      ∙ append_assoc a one.more late.0 ∙ ap (λ (ls : List Line). a ++ ls) (sym late.1) in
      subst (λ (ls : List Line). IsTurnLine p ls line) before (other.kinds late.0 line after late.2))
      (in_joined one.more other.more first after line e)

  pub both_lines : AddsTurnLines p a c
  both_lines = record {
    more = one.more ++ other.more;
    is = other.is ∙ ap (λ (ls : List Line). ls ++ other.more) one.is ∙ append_assoc a one.more other.more;
    kinds = kind_at;
  }

-- ---- the laws

pub join_law : TurnLinesJoin
join_law = record {
  none = no_line;
  search = search_lines;
  totalizer = totalizer_lines;
  derived = derived_lines;
  both = both_lines;
}

pub own_law : TurnLinesKeepOwn
own_law p old new adds = record {
  more = adds.more;
  is = adds.is;
  kinds = λ first line after e. turn_deletes p (old ++ first) line (adds.kinds first line after e);
}
