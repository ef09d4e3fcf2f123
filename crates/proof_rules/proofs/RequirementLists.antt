-- The requirements of a substitution, from one on.
use Rattle.std.proofs.Common.{◌≡◌, ℕ, ◌+◌, ◌<◌, Bool, List, [], ◌∷◌, ◌++◌, map, drop, length, get_or, ap, sym, ◌∙◌}
use Rattle.std.specs.List.{filter}
use Rattle.std.specs.FinMap.{get, entries}
use Rattle.std.proofs.lemmas.List.{map-append, drop_more}
use Rattle.std.proofs.lemmas.List.Elements.{filter-append}
use Rattle.pb_lin.specs.Constraint.{ConstraintValue}
use Rattle.pb_lin.specs.CostRow.{CostRowValue}
use Rattle.pb_lin.specs.LineMap.{LineMap, IsNextAbove}
use Rattle.pb_lin.specs.Substitution.{Images, touches}
use Rattle.proof_laws.specs.State.{numbered}
use Rattle.proof_laws.specs.Substituted.{Requirement, holds_after, not_risen, none_risen, touched_hold}
use Rattle.proof_laws.specs.declared.goal.Goal.TheVariants.{Row}
use Rattle.proof_rules.specs.Verdict.{above, line_at}
use Rattle.proof_rules.proofs.LiveWalk.{walk_next}

module _ (w : Images) where
  pub touched-append : (xs ys : List (ℕ × ConstraintValue)) → touched_hold w (xs ++ ys) ≡ touched_hold w xs ++ touched_hold w ys
  touched-append xs ys =
      let after : ℕ × ConstraintValue → Requirement = λ e. holds_after w (Row e.0) e.1 in
      let is_touched : ℕ × ConstraintValue → Bool = λ e. touches w e.1 in
      ap (map after) (filter-append is_touched xs ys) ∙ map-append after (filter is_touched xs) (filter is_touched ys)

  -- of the live lines above an id, the next and those above it
  pub lines_more : (lines : LineMap) (id next : ℕ) → IsNextAbove (get lines) id next → touched_hold w (above id (entries lines)) ≡ touched_hold w (line_at lines next) ++ touched_hold w (above next (entries lines))
  lines_more lines id next is = ap (touched_hold w) (walk_next lines id next is) ∙ touched-append (line_at lines next) (above next (entries lines))

  -- of the rows from a place on, the one there and those after it
  pub rows_more : (rows : List ConstraintValue) (i : ℕ) (row : ConstraintValue) → i < length rows → row ≡ get_or rows i row →
      touched_hold w (numbered (i + 1) (drop i rows)) ≡ touched_hold w ((i + 1, row) ∷ []) ++ touched_hold w (numbered ((i + 1) + 1) (drop (i + 1) rows))
  rows_more rows i row short is =
      ap (λ (cs : List ConstraintValue). touched_hold w (numbered (i + 1) cs)) (drop_more rows i row short ∙ ap (λ (d : ConstraintValue). d ∷ drop (i + 1) rows) (sym is))
      ∙ touched-append ((i + 1, row) ∷ []) (numbered ((i + 1) + 1) (drop (i + 1) rows))

  -- the same of the objectives
  pub objectives_more : (rows : List CostRowValue) (i : ℕ) (row : CostRowValue) → i < length rows → row ≡ get_or rows i row →
      none_risen w (i + 1) (drop i rows) ≡ (not_risen w (i + 1) row ∷ []) ++ none_risen w ((i + 1) + 1) (drop (i + 1) rows)
  objectives_more rows i row short is = ap (none_risen w (i + 1)) (drop_more rows i row short ∙ ap (λ (d : CostRowValue). d ∷ drop (i + 1) rows) (sym is))
