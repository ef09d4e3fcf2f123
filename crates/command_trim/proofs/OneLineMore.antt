-- One line more of a trimmed proof.
use Rattle.std.proofs.Common.{◌≡◌, ℕ, ◌+◌, ◌<◌, Bool, true, false, if◌then◌else◌, List, [], ◌∷◌, ◌++◌, length, refl, sym, ap, ◌∙◌, arith}
use Rattle.std.proofs.lemmas.Bool.{ne_eqb}
use Rattle.std.proofs.lemmas.List.{append_assoc, append-nil, length-append}
use Rattle.proof_laws.specs.Steps.{made}
use Rattle.proof_laws.specs.declared.line.Line.{Line}
use Rattle.proof_laws.specs.declared.line.Line.TheVariants.{Pol, Rup, Learn, Def, Red, Dom, Sol, Del, Reduce, End}
use Rattle.command_trim.specs.Renames.{RenamesValue, added, new_of, next_one, none_of, pairs, renaming}
use Rattle.command_trim.specs.Trimmed.{Renaming, kept_lines, new_line, renamed_after, stays}
use Rattle.command_trim.proofs.NewIds.{pairs_behind}

abbrev renaming_by : ℕ → List (ℕ × ℕ) → Renaming
renaming_by rows made = record { rows = rows; made = made }

-- a new id that isn't 0 is a pair
one_added : (v : RenamesValue) (k : ℕ) → 0 < k → renaming (added v (k ∷ [])) ≡ renaming_by v.rows ((next_one v, k) ∷ (renaming v).made)
one_added v k some =
    ap (renaming_by v.rows) (pairs_behind (v.rows + 1) v.table k
    ∙ ap (λ (b : Bool). (if b then [] else (next_one v, k) ∷ []) ++ pairs (v.rows + 1) v.table) (ne_eqb k 0 (λ e. omega (arith, some, e))))

none_added : (v : RenamesValue) → renaming (added v (0 ∷ [])) ≡ renaming v
none_added v = ap (renaming_by v.rows) (pairs_behind (v.rows + 1) v.table 0)

twice_added : (v : RenamesValue) (a b : ℕ) → added v (a ∷ b ∷ []) ≡ added (added v (a ∷ [])) (b ∷ [])
twice_added v a b = ap (λ (ids : List ℕ). let w : RenamesValue = record { rows = v.rows; table = ids } in w) (sym (append_assoc v.table (a ∷ []) (b ∷ [])))

next_added : (v : RenamesValue) (ids : List ℕ) → next_one (added v ids) ≡ next_one v + length ids
next_added v ids = omega (arith, length-append v.table ids)

nothing_added : (v : RenamesValue) → added v [] ≡ v
nothing_added v = ap (λ (ids : List ℕ). let w : RenamesValue = record { rows = v.rows; table = ids } in w) (append-nil v.table)

module _ (v : RenamesValue) (k : ℕ) (some : 0 < k) where
  two_added : renaming (added v (k ∷ (k + 1) ∷ [])) ≡ renaming_by v.rows ((next_one v + 1, k + 1) ∷ (next_one v, k) ∷ (renaming v).made)
  two_added =
      ap renaming (twice_added v k (k + 1)) ∙ one_added (added v (k ∷ [])) (k + 1) (omega arith)
      ∙ ap (λ n. renaming_by v.rows ((n, k + 1) ∷ (renaming (added v (k ∷ []))).made)) (next_added v (k ∷ []))
      ∙ ap (λ (r : Renaming). renaming_by v.rows ((next_one v + 1, k + 1) ∷ r.made)) (one_added v k some)

  pub kept_renaming : (line : Line) → renaming (added v (new_of line k)) ≡ renamed_after (renaming v) line (next_one v) k
  kept_renaming (Pol tokens) = one_added v k some
  kept_renaming (Rup goal hints) = one_added v k some
  kept_renaming (Learn goal hints) = one_added v k some
  kept_renaming (Def var sum) = two_added
  kept_renaming (Red goal witness proofs) = one_added v k some
  kept_renaming (Dom goal witness proofs) = one_added v k some
  kept_renaming (Sol model cut rows) = one_added v k some
  kept_renaming (Del ids) = ap renaming (nothing_added v)
  kept_renaming (Reduce ids) = ap renaming (nothing_added v)
  kept_renaming (End id) = ap renaming (nothing_added v)

new_count : (line : Line) (k : ℕ) → length (new_of line k) ≡ made line
new_count (Pol tokens) k = refl
new_count (Rup goal hints) k = refl
new_count (Learn goal hints) k = refl
new_count (Def var sum) k = refl
new_count (Red goal witness proofs) k = refl
new_count (Dom goal witness proofs) k = refl
new_count (Sol model cut rows) k = refl
new_count (Del ids) k = refl
new_count (Reduce ids) k = refl
new_count (End id) k = refl

none_count : (line : Line) → length (none_of line) ≡ made line
none_count (Pol tokens) = refl
none_count (Rup goal hints) = refl
none_count (Learn goal hints) = refl
none_count (Def var sum) = refl
none_count (Red goal witness proofs) = refl
none_count (Dom goal witness proofs) = refl
none_count (Sol model cut rows) = refl
none_count (Del ids) = refl
none_count (Reduce ids) = refl
none_count (End id) = refl

pub kept_next : (v : RenamesValue) (line : Line) (k : ℕ) → next_one (added v (new_of line k)) ≡ next_one v + made line
kept_next v line k = next_added v (new_of line k) ∙ ap (λ n. next_one v + n) (new_count line k)

pub left_next : (v : RenamesValue) (line : Line) → next_one (added v (none_of line)) ≡ next_one v + made line
left_next v line = next_added v (none_of line) ∙ ap (λ n. next_one v + n) (none_count line)

pub left_renaming : (v : RenamesValue) (line : Line) → renaming (added v (none_of line)) ≡ renaming v
left_renaming v (Pol tokens) = none_added v
left_renaming v (Rup goal hints) = none_added v
left_renaming v (Learn goal hints) = none_added v
left_renaming v (Def var sum) = ap renaming (twice_added v 0 0) ∙ none_added (added v (0 ∷ [])) ∙ none_added v
left_renaming v (Red goal witness proofs) = none_added v
left_renaming v (Dom goal witness proofs) = none_added v
left_renaming v (Sol model cut rows) = none_added v
left_renaming v (Del ids) = ap renaming (nothing_added v)
left_renaming v (Reduce ids) = ap renaming (nothing_added v)
left_renaming v (End id) = ap renaming (nothing_added v)

-- ---- the list

module _ (v : RenamesValue) (k : ℕ) (need : Bool) (needs : List Bool) (line : Line) (lines : List Line) where
  unfolded : kept_lines (renaming v) (next_one v) k (need ∷ needs) (line ∷ lines)
      ≡ (if stays (renaming v) need line then new_line (renaming v) line ∷ kept_lines (renamed_after (renaming v) line (next_one v) k) (next_one v + made line) (k + made line) needs lines
      else kept_lines (renaming v) (next_one v + made line) k needs lines)
  unfolding kept_lines
  unfolded = refl

  -- the line is kept
  pub kept_here : 0 < k → stays (renaming v) need line ≡ true → kept_lines (renaming v) (next_one v) k (need ∷ needs) (line ∷ lines)
      ≡ new_line (renaming v) line ∷ kept_lines (renaming (added v (new_of line k))) (next_one (added v (new_of line k))) (k + made line) needs lines
  kept_here some is =
      unfolded
      ∙ ap (λ (b : Bool). if b then new_line (renaming v) line ∷ kept_lines (renamed_after (renaming v) line (next_one v) k) (next_one v + made line) (k + made line) needs lines
      else kept_lines (renaming v) (next_one v + made line) k needs lines) is
      ∙ ap (λ (r : Renaming). new_line (renaming v) line ∷ kept_lines r (next_one v + made line) (k + made line) needs lines) (sym (kept_renaming v k some line))
      ∙ ap (λ n. new_line (renaming v) line ∷ kept_lines (renaming (added v (new_of line k))) n (k + made line) needs lines) (sym (kept_next v line k))

  -- it isn't
  pub left_here : stays (renaming v) need line ≡ false → kept_lines (renaming v) (next_one v) k (need ∷ needs) (line ∷ lines)
      ≡ kept_lines (renaming (added v (none_of line))) (next_one (added v (none_of line))) k needs lines
  left_here is =
      unfolded
      ∙ ap (λ (b : Bool). if b then new_line (renaming v) line ∷ kept_lines (renamed_after (renaming v) line (next_one v) k) (next_one v + made line) (k + made line) needs lines
      else kept_lines (renaming v) (next_one v + made line) k needs lines) is
      ∙ ap (λ (r : Renaming). kept_lines r (next_one v + made line) k needs lines) (sym (left_renaming v line))
      ∙ ap (λ n. kept_lines (renaming (added v (none_of line))) n k needs lines) (sym (left_next v line))

pub no_lines_left : (r : Renaming) (n k : ℕ) → kept_lines r n k [] [] ≡ []
unfolding kept_lines
no_lines_left r n k = refl
