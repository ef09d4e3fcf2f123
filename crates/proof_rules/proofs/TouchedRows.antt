-- The requirements of the rows that a substitution touches: of all rows, those at given places are enough.
use Rattle.std.proofs.Common.{◌≡◌, ℕ, zero, suc, ◌+◌, ◌<◌, ◌≤◌, Bool, true, false, cond, List, [], ◌∷◌, ◌++◌, map, drop, length, get_or, arith, refl, sym, ap, ◌∙◌, subst, ⊎_elim, append_assoc, Some}
use Rattle.std.specs.Prelude.{IsSome, option_map, option_to_list, Option}
use Rattle.std.specs.FinMap.{get, entries}
use Rattle.std.specs.List.{All, AllPairs, Contains}
use Rattle.std.proofs.lemmas.Bool.{cases_Bool, cases_lt}
use Rattle.std.proofs.lemmas.List.{get_or_default, drop_more, drop_all}
use Rattle.std.proofs.lemmas.List.Elements.{All-cons, All-head, All-tail, All-contains}
use Rattle.scut_base.proofs.Lists.{Contains-cons_cases}
use Rattle.pb_lin.specs.Constraint.{ConstraintValue}
use Rattle.pb_lin.specs.LineMap.{LineMap, IsNextAbove}
use Rattle.pb_lin.specs.Problem.{ProblemValue}
use Rattle.pb_lin.specs.Substitution.{Images, touches}
use Rattle.proof_laws.specs.State.{StateValue, IsState, Fits, numbered}
use Rattle.proof_laws.specs.Substituted.{Requirement, holds_after, none_risen, redundance, touched_hold}
use Rattle.proof_laws.specs.declared.goal.Goal.TheVariants.{Row, Itself}
use Rattle.proof_rules.specs.RowIndex.{HaveTouched}
use Rattle.proof_rules.specs.Verdict.{above}
use Rattle.proof_rules.proofs.LiveWalk.{walk_next, walk_start}
use Rattle.proof_rules.proofs.RequirementLists.{rows_more, touched-append}

-- stands where there is no row
abbrev pub no_row : ConstraintValue
no_row = record { terms = []; degree = 0 }

-- the rows at these places with their ids
abbrev pub rows_at : List ConstraintValue → List ℕ → List (ℕ × ConstraintValue)
rows_at rows places = map (λ k. (k + 1, get_or rows k no_row)) places

rising_tail : (k : ℕ) (ks : List ℕ) → AllPairs (λ i j. i < j) (k ∷ ks) → AllPairs (λ i j. i < j) ks
rising_tail k ks rising i j d less short = rising (suc i) (suc j) d (omega arith) (omega arith)

rising_head : (k : ℕ) (ks : List ℕ) → AllPairs (λ i j. i < j) (k ∷ ks) → All (λ j. k < j) ks
rising_head k ks rising j d short = rising zero (suc j) d (omega arith) (omega arith)

no_places : (n m : ℕ) (places : List ℕ) → m ≤ n → All (λ k. n ≤ k) places → All (λ k. k < m) places → places ≡ []
no_places n m [] le low high = refl
no_places n m (k ∷ ks) le low high = absurd (let one = All-head (λ j. n ≤ j) k ks low in let other = All-head (λ j. j < m) k ks high in omega arith)

module _ (w : Images) (rows : List ConstraintValue) where
  -- the touched rows from the n-th on are at these places
  abbrev AreThere : ℕ → List ℕ → Type 0
  AreThere n places = (k : ℕ) (d : ConstraintValue) → n ≤ k → k < length rows → touches w (get_or rows k d) ≡ true → Contains places k

  untouched : (id : ℕ) (c : ConstraintValue) → touches w c ≡ false → touched_hold w ((id, c) ∷ []) ≡ []
  untouched id c is = ap (λ (b : Bool). map (λ (e : ℕ × ConstraintValue). holds_after w (Row e.0) e.1) (cond b ((id, c) ∷ []) [])) is

  -- a row whose place isn't there is passed over
  passed_over : (n : ℕ) (places : List ℕ) → n < length rows → All (λ k. n < k) places → AreThere n places → touched_hold w (numbered (n + 1) (drop n rows)) ≡ touched_hold w (numbered ((n + 1) + 1) (drop (n + 1) rows))
  passed_over n places short later there =
      let row = get_or rows n no_row in
      rows_more w rows n row short (get_or_default rows n no_row row short)
      ∙ ap (λ (qs : List Requirement). qs ++ touched_hold w (numbered ((n + 1) + 1) (drop (n + 1) rows))) (untouched (n + 1) row (⊎_elim
      (λ (touched : touches w row ≡ true). absurd (let self = All-contains (λ k. n < k) places n later (there n no_row (omega arith) short touched) in omega arith))
      (λ (not_touched : touches w row ≡ false). not_touched)
      (cases_Bool (touches w row))))

  from_next : (n : ℕ) (places : List ℕ) → AreThere n places → AreThere (n + 1) places
  from_next n places there k d from short touched = there k d (omega arith) short touched

  from_rest : (k : ℕ) (ks : List ℕ) → AreThere k (k ∷ ks) → AreThere (k + 1) ks
  from_rest k ks there j d from short touched = ⊎_elim
      (λ (same : k ≡ j). absurd (omega arith))
      (λ (rest : Contains ks j). rest)
      (Contains-cons_cases k j ks (there j d (omega arith) short touched))

  only_touched : (m n : ℕ) (places : List ℕ) → n + m ≡ length rows → AllPairs (λ i j. i < j) places → All (λ k. n ≤ k) places → All (λ k. k < length rows) places → AreThere n places →
      touched_hold w (numbered (n + 1) (drop n rows)) ≡ touched_hold w (rows_at rows places)
  only_touched zero n places long rising low high there =
      ap (λ (cs : List ConstraintValue). touched_hold w (numbered (n + 1) cs)) (drop_all n rows (omega arith))
      ∙ ap (λ (ks : List ℕ). touched_hold w (rows_at rows ks)) (sym (no_places n (length rows) places (omega arith) low high))
  only_touched (suc m) n [] long rising low high there =
      passed_over n [] (omega arith) (λ i d short. absurd (omega arith)) there
      ∙ only_touched m (n + 1) [] (omega arith) rising (λ i d short. absurd (omega arith)) high (from_next n [] there)
  only_touched (suc m) n (k ∷ ks) long rising low high there = ⊎_elim
      (λ (gap : n < k).
      let later : All (λ j. n < j) (k ∷ ks) = All-cons (λ j. n < j) k ks gap (λ j d short. let up = rising_head k ks rising j d short in omega arith) in
      passed_over n (k ∷ ks) (omega arith) later there
      ∙ only_touched m (n + 1) (k ∷ ks) (omega arith) rising (λ j d short. let up = later j d short in omega arith) high (from_next n (k ∷ ks) there))
      (λ (no_gap : k ≤ n).
      let same : k ≡ n = (let le = All-head (λ j. n ≤ j) k ks low in omega arith) in
      let row = get_or rows n no_row in
      let rest = only_touched m (n + 1) ks (omega arith) (rising_tail k ks rising) (λ j d short. let up = rising_head k ks rising j d short in omega arith) (All-tail (λ j. j < length rows) k ks high)
      (subst (λ (j : ℕ). AreThere (j + 1) ks) same (from_rest k ks (subst (λ (j : ℕ). AreThere j (k ∷ ks)) (sym same) there))) in
      rows_more w rows n row (omega arith) (get_or_default rows n no_row row (omega arith))
      ∙ ap (λ (qs : List Requirement). touched_hold w ((n + 1, row) ∷ []) ++ qs) rest
      ∙ sym (touched-append w ((n + 1, row) ∷ []) (rows_at rows ks))
      ∙ ap (λ (j : ℕ). touched_hold w (rows_at rows (j ∷ ks))) (sym same))
      (cases_lt n k)

  -- of all rows those at the places that have all touched ones are enough
  pub touched_rows : (places : List ℕ) → HaveTouched w rows places → touched_hold w (numbered 1 rows) ≡ touched_hold w (rows_at rows places)
  touched_rows places have = only_touched (length rows) 0 places (omega arith) have.rising (λ k d short. omega arith) have.within (λ k d from short touched. have.all k d short touched)

  -- of the rows from a place of the list on, the one there and those after it
  pub places_more : (places : List ℕ) (i k : ℕ) (row : ConstraintValue) → i < length places → k ≡ get_or places i 0 → k < length rows → row ≡ get_or rows k row →
      touched_hold w (rows_at rows (drop i places)) ≡ touched_hold w ((k + 1, row) ∷ []) ++ touched_hold w (rows_at rows (drop (i + 1) places))
  places_more places i k row short at inside is =
      ap (λ (ks : List ℕ). touched_hold w (rows_at rows ks)) (drop_more places i 0 short ∙ ap (λ (j : ℕ). j ∷ drop (i + 1) places) (sym at))
      ∙ ap (λ (c : ConstraintValue). touched_hold w ((k + 1, c) ∷ rows_at rows (drop (i + 1) places))) (get_or_default rows k no_row row inside ∙ sym is)
      ∙ touched-append w ((k + 1, row) ∷ []) (rows_at rows (drop (i + 1) places))

-- ---- rows and the other live lines

module _ (lines : LineMap) (rows : List ConstraintValue) (live : (k : ℕ) (d : ConstraintValue) → k < length rows → get lines (k + 1) ≡ Some (get_or rows k d)) where
  next_row : (n : ℕ) → n < length rows → IsNextAbove (get lines) n (n + 1)
  next_row n short = record {
    above = omega arith;
    live = subst IsSome (sym (live n no_row short)) refl;
    least = λ k over under. absurd (omega arith);
  }

  -- the lines from the n-th row on are the rows from there on, and then the lines above them
  rows_first : (m n : ℕ) → n + m ≡ length rows → above n (entries lines) ≡ numbered (n + 1) (drop n rows) ++ above (length rows) (entries lines)
  rows_first zero n long =
      ap (λ (k : ℕ). above k (entries lines)) (let e : n ≡ length rows = omega arith in e)
      ∙ ap (λ (cs : List ConstraintValue). numbered (n + 1) cs ++ above (length rows) (entries lines)) (sym (drop_all n rows (omega arith)))
  rows_first (suc m) n long =
      let short : n < length rows = omega arith in
      let row = get_or rows n no_row in
      walk_next lines n (n + 1) (next_row n short)
      ∙ ap (λ (o : Option ConstraintValue). option_to_list (option_map (λ (c : ConstraintValue). (n + 1, c)) o) ++ above (n + 1) (entries lines)) (live n no_row short)
      ∙ ap (λ (es : List (ℕ × ConstraintValue)). (n + 1, row) ∷ es) (rows_first m (n + 1) (omega arith))
      ∙ ap (λ (cs : List ConstraintValue). numbered (n + 1) cs ++ above (length rows) (entries lines)) (sym (drop_more rows n no_row short))

-- what redundance requires: of the rows, of the other live lines, and the rest
pub redundance_parts : (p : ProblemValue) (s : StateValue) (w : Images) (g : ConstraintValue) → IsState s → Fits p s →
    redundance p s w g ≡ touched_hold w (numbered 1 p.rows) ++ (touched_hold w (above (length p.rows) (entries s.live)) ++ (holds_after w Itself g ∷ none_risen w 1 p.costs))
redundance_parts p s w g state fits =
    let later : List Requirement = holds_after w Itself g ∷ none_risen w 1 p.costs in
    let first = touched_hold w (numbered 1 p.rows) in
    let second = touched_hold w (above (length p.rows) (entries s.live)) in
    let parts : touched_hold w (entries s.live) ≡ first ++ second
    = ap (touched_hold w) (sym (walk_start s.live (λ id c is. (state.ids id c is).0)) ∙ rows_first s.live p.rows fits.rows (length p.rows) 0 (omega arith)) ∙ touched-append w (numbered 1 p.rows) (above (length p.rows) (entries s.live)) in
    ap (λ (qs : List Requirement). qs ++ later) parts ∙ append_assoc first second later
