-- An index of rows stays right: a line that lives under an old id lived before.
use Rattle.std.proofs.Common.{◌≡◌, ℕ, ◌+◌, ◌<◌, ◌≤◌, true, Some, Result, Ok, Err, List, [], ◌∷◌, length, fold, get_or, arith, sym, subst}
use Rattle.std.specs.Prelude.{IfOk, OnErr, OnOk}
use Rattle.std.specs.List.{All, AllPairs, Contains}
use Rattle.std.specs.FinMap.{get, insert, remove}
use Rattle.pb_lin.specs.Constraint.{ConstraintValue, literals}
use Rattle.pb_lin.specs.LineMap.{LineMap}
use Rattle.pb_lin.specs.Problem.{ProblemValue}
use Rattle.pb_lin.specs.Substitution.{Images, has_image}
use Rattle.proof_laws.specs.State.{StateValue, IsState, Fits}
use Rattle.proof_laws.specs.Steps.{with_line}
use Rattle.proof_laws.specs.Legal.{IsNext, Makes}
use Rattle.proof_laws.specs.declared.line.Line.{Line}
use Rattle.proof_laws.specs.declared.line.Line.TheVariants.{Pol, Rup, Learn, Def, Red, Dom, Sol, Del, Reduce, End}
use Rattle.proof_laws.proofs.Live.{live_remove}
use Rattle.proof_laws.proofs.NextFits.{live_insert_at}
use Rattle.proof_laws.proofs.NextStates.{rows_below}
use Rattle.proof_rules.specs.RowIndex.{AreEntered, HaveTouched, IsIndex, IsRowIndex, RowEntries}
use Rattle.proof_rules.proofs.RowEntries.{touched_found}

-- no id is taken back, and each line of an old id was there
record KeepsOld (s t : StateValue) : Type 0 where
  later : s.next_id ≤ t.next_id
  lived : (id : ℕ) (c : ConstraintValue) → id < s.next_id → get t.live id ≡ Some c → get s.live id ≡ Some c

old_insert : (lines more : LineMap) (next id : ℕ) (c : ConstraintValue) → next ≤ id → ((i : ℕ) (d : ConstraintValue) → i < next → get more i ≡ Some d → get lines i ≡ Some d) → (i : ℕ) (d : ConstraintValue) → i < next → get (insert more id c) i ≡ Some d → get lines i ≡ Some d
old_insert lines more next id c new kept i d old is = live_insert_at (λ j e. j < next → get lines j ≡ Some e) more id c (λ less. absurd (omega arith)) (λ j e there less. kept j e less there) i d is old

old_removed : (lines : LineMap) (ids : List ℕ) (i : ℕ) (d : ConstraintValue) → get (fold remove lines ids) i ≡ Some d → get lines i ≡ Some d
old_removed lines [] i d is = is
old_removed lines (id ∷ ids) i d is = live_remove lines id i d (old_removed (remove lines id) ids i d is)

module _ (s : StateValue) where
  line_keeps : (c : ConstraintValue) → KeepsOld s (with_line s c)
  line_keeps c = record { later = omega arith; lived = λ i d old is. old_insert s.live s.live s.next_id s.next_id c (omega arith) (λ j e less there. there) i d old is }

  -- each legal line does
  next_keeps_old : (p : ProblemValue) (line : Line) (t : StateValue) → Makes p s line t → KeepsOld s t
  next_keeps_old p (Pol tokens) t makes = subst (KeepsOld s) (sym makes.2) (line_keeps makes.0)
  next_keeps_old p (Rup goal hints) t makes = subst (KeepsOld s) (sym makes) (line_keeps goal)
  next_keeps_old p (Learn goal hints) t makes = subst (KeepsOld s) (sym makes) (let line = line_keeps goal in record { later = line.later; lived = line.lived })
  next_keeps_old p (Def var sum) t makes = subst (KeepsOld s) (sym makes) (record {
    later = omega arith;
    lived = λ i d old is. old_insert s.live (insert s.live s.next_id _) s.next_id (s.next_id + 1) _ (omega arith) (λ j e less there. old_insert s.live s.live s.next_id s.next_id _ (omega arith) (λ k f few here. here) j e less there) i d old is;
  })
  next_keeps_old p (Red goal w proofs) t makes = subst (KeepsOld s) (sym makes) (line_keeps goal)
  next_keeps_old p (Dom goal w proofs) t makes = subst (KeepsOld s) (sym makes) (line_keeps goal)
  next_keeps_old p (Sol model cut ids) t makes = subst (KeepsOld s) (sym makes) (let line = line_keeps _ in record { later = line.later; lived = line.lived })
  next_keeps_old p (Del ids) t makes = subst (KeepsOld s) (sym makes) (record { later = omega arith; lived = λ i d old is. old_removed s.live ids i d is })
  next_keeps_old p (Reduce ids) t makes = subst (KeepsOld s) (sym makes) (record { later = omega arith; lived = λ i d old is. old_removed s.live ids i d is })
  next_keeps_old p (End id) t makes = subst (KeepsOld s) (sym makes) (record { later = omega arith; lived = λ i d old is. is })

-- an index stays one
pub index_kept : (p : ProblemValue) (s : StateValue) (line : Line) (t : StateValue) (count : ℕ) (entries : RowEntries) → IsNext p s line t → IsIndex count entries s → IsIndex count entries t
index_kept p s line t count entries next index =
    let keeps = next_keeps_old s p line t next.makes in
    let given = index.given_out in
    let later = keeps.later in
    record {
      in_order = index.in_order;
      given_out = omega arith;
      entered = λ k c few is. index.entered k c few (keeps.lived (k + 1) c (omega arith) is);
    }

-- the same of what is known of a line that was taken up, or not
pub index_kept_on : {E : Type 0} (p : ProblemValue) (s : StateValue) (line : Line) (t : StateValue) (count : ℕ) (entries : RowEntries) (r : Result (Unit {0}) E) → OnOk r (IsNext p s line t) → OnErr r (t ≡ s) → IsIndex count entries s → IsIndex count entries t
index_kept_on p s line t count entries (Ok done) next same index = index_kept p s line t count entries next index
index_kept_on p s line t count entries (Err e) next same index = subst (IsIndex count entries) (sym same) index

-- what an index finds for a substitution
pub touched_on_ok : {V E : Type 0} (items : V → List ℕ) (p : ProblemValue) (s : StateValue) (w : Images) (count n : ℕ) (entries : RowEntries) (r : Result V E) → Fits p s → IsIndex count entries s → length p.rows ≤ count → n ≡ length p.rows →
    IfOk r (λ v. AllPairs (λ i j. i < j) (items v)) → IfOk r (λ v. All (λ k. k < n) (items v)) → IfOk r (λ v. (var k : ℕ) → has_image w var ≡ true → k < n → Contains entries (var, k) → Contains (items v) k) → IfOk r (λ v. HaveTouched w p.rows (items v))
touched_on_ok items p s w count n entries (Ok v) fits index long same rising within all = record {
  rising = rising;
  within = λ k d short. let below = within k d short in omega arith;
  all = λ k d short touched.
      let hit = touched_found w (get_or p.rows k d) entries k (index.entered k (get_or p.rows k d) (omega arith) (fits.rows k d short)) touched in
      all hit.0 k hit.1 (omega arith) hit.2;
}
touched_on_ok items p s w count n entries (Err e) fits index long same rising within all = tt

-- an index of the problem's rows is one of each state that the problem fits
pub index_of_rows : (p : ProblemValue) (s : StateValue) (count : ℕ) (entries : RowEntries) → IsState s → Fits p s → IsRowIndex count entries p.rows → IsIndex count entries s
index_of_rows p s count entries state fits rows = record {
  in_order = rows.in_order;
  given_out = let within = rows.within in let below = rows_below p s state fits in omega arith;
  entered = λ k c few is.
      let within = rows.within in
      let short : k < length p.rows = omega arith in
      let same : get_or p.rows k c ≡ c = (let row = fits.rows k c short in cc) in
      subst (λ (d : ConstraintValue). AreEntered entries k (literals d.terms)) same (rows.entered k c few);
}
