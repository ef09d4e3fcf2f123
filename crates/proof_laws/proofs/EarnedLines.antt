-- A line that neither learns nor deletes keeps what a proof has earned.
use Rattle.std.proofs.Common.{◌≡◌, ◌⊎◌, ℕ, ◌+◌, true, false, cond, List, [], ◌∷◌, ◌++◌, length, refl, arith, add-zero, sym, ap, ◌∙◌, inl, inr, ⊎_elim}
use Rattle.std.specs.List.{count_by}
use Rattle.std.proofs.lemmas.List.{length-append}
use Rattle.std.proofs.lemmas.Bool.{cond-false}
use Rattle.std.proofs.lemmas.List.Sums.{sum_by_push}
use Rattle.scut_base.proofs.Lists.{head_same, tail_same}
use Rattle.pb_lin.specs.Problem.{ProblemValue}
use Rattle.proof_laws.specs.State.{StateValue, start}
use Rattle.proof_laws.specs.Legal.{IsNext}
use Rattle.proof_laws.specs.Replay.{IsReplay}
use Rattle.proof_laws.specs.Earned.{is_learn, changes_learned, Splits, IsEarned}
use Rattle.proof_laws.specs.declared.line.Line.{Line}
use Rattle.proof_laws.specs.declared.line.Line.TheVariants.{Pol, Rup, Learn, Def, Red, Dom, Sol, Del, Reduce, End}
use Rattle.proof_laws.proofs.Replays.{leads_further}

-- a place among lines with one more is the last, or a place before
pub split_last : (lines before after : List Line) (x y : Line) → lines ++ x ∷ [] ≡ before ++ (y ∷ after) → (x ≡ y) ⊎ ((rest : List Line) × (lines ≡ before ++ (y ∷ rest)))
split_last [] [] after x y e = inl (head_same x y [] after e)
split_last [] (b ∷ before) after x y e =
    let tails : [] ≡ before ++ (y ∷ after) = tail_same x b [] (before ++ (y ∷ after)) e in
    let sizes : 0 ≡ length (before ++ (y ∷ after)) = ap length tails in
    let whole = length-append before (y ∷ after) in
    absurd (omega arith)
split_last (l ∷ lines) [] after x y e = inr (lines, ap (λ (z : Line). z ∷ lines) (head_same l y (lines ++ x ∷ []) after e))
split_last (l ∷ lines) (b ∷ before) after x y e =
    let heads : l ≡ b = head_same l b (lines ++ x ∷ []) (before ++ (y ∷ after)) e in
    ⊎_elim
    (λ (last : x ≡ y). inl last)
    (λ (early : (rest : List Line) × (lines ≡ before ++ (y ∷ rest))). inr (early.0, ap (λ (z : Line). z ∷ lines) heads ∙ ap (λ (ls : List Line). b ∷ ls) early.1))
    (split_last lines before after x y (tail_same l b (lines ++ x ∷ []) (before ++ (y ∷ after)) e))

no_learn : (line : Line) → changes_learned line ≡ false → is_learn line ≡ false
no_learn (Pol tokens) e = refl
no_learn (Rup goal hints) e = refl
no_learn (Learn goal hints) e = cc
no_learn (Def var sum) e = refl
no_learn (Red goal w proofs) e = refl
no_learn (Dom goal w proofs) e = refl
no_learn (Sol model cut ids) e = refl
no_learn (Del ids) e = refl
no_learn (Reduce ids) e = refl
no_learn (End id) e = refl

module _ (p : ProblemValue) (lines : List Line) (n : ℕ) (s t : StateValue) (line : Line) (earned : IsEarned p lines n) (replay : IsReplay p lines s) (next : IsNext p s line t) (plain : changes_learned line ≡ false) where
  -- a place of a line that learns or deletes is a place before
  early : (before after : List Line) (y : Line) → changes_learned y ≡ true → Splits (lines ++ line ∷ []) before y after → (rest : List Line) × Splits lines before y rest
  early before after y changes e = ⊎_elim
      (λ (last : line ≡ y). let both = ap changes_learned last in absurd (let never : false ≡ true = sym plain ∙ both ∙ changes in cc))
      (λ (found : (rest : List Line) × (lines ≡ before ++ (y ∷ rest))). found)
      (split_last lines before after line y e)

  pub line_keeps_earned : IsEarned p (lines ++ line ∷ []) n
  line_keeps_earned = record {
    replays = (t, leads_further p lines (start p) s t line replay next);
    learned =
        sum_by_push (λ x. cond (is_learn x) 1 0) lines line
        ∙ ap (λ (k : ℕ). count_by is_learn lines + k) (cond-false (is_learn line) 1 0 (no_learn line plain))
        ∙ add-zero (count_by is_learn lines)
        ∙ earned.learned;
    new = λ before goal hints after u splits replayed. let found = early before after (Learn goal hints) refl splits in earned.new before goal hints found.0 u found.1 replayed;
    kept = λ before ids after splits. let found = early before after (Del ids) refl splits in earned.kept before ids found.0 found.1;
    reductions = λ before ids after splits. let found = early before after (Reduce ids) refl splits in earned.reductions before ids found.0 found.1;
  }
