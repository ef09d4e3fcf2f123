-- The trimmed lines come of the old ones in their order.
use Rattle.std.specs.Prelude.{ℕ, ◌+◌, Bool, true, false, if◌then◌else◌, List, [], ◌∷◌, refl}
use Rattle.std.proofs.Common.{ap}
use Rattle.proof_laws.specs.Steps.{made}
use Rattle.proof_laws.specs.declared.line.Line.{Line}
use Rattle.command_trim.specs.Trimmed.{Renaming, kept_lines, needed, new_line, no_renaming, renamed_after, stays}
use Rattle.command_trim.specs.Subsequence.{ComeOf, TrimmedComeOfOld}

-- what comes of lines comes of them with one more before
come_later : (line : Line) (old news : List Line) → ComeOf old news → ComeOf (line ∷ old) news
come_later line old [] come = tt
come_later line old (new ∷ news) come = (line ∷ come.0, come.1, come.2, ap (λ (xs : List Line). line ∷ xs) come.3, come.4, come.5)

kept_come : (r : Renaming) (n k : ℕ) (needs : List Bool) (lines : List Line) → ComeOf lines (kept_lines r n k needs lines)
unfolding kept_lines
kept_come r n k [] lines = tt
kept_come r n k (need ∷ needs) [] = tt
kept_come r n k (need ∷ needs) (line ∷ lines) =
    by (stays r need line) (kept_come (renamed_after r line n k) (n + made line) (k + made line) needs lines) (kept_come r (n + made line) k needs lines)
  where
    by : (b : Bool) → ComeOf lines (kept_lines (renamed_after r line n k) (n + made line) (k + made line) needs lines) → ComeOf lines (kept_lines r (n + made line) k needs lines)
        → ComeOf (line ∷ lines) (if b then new_line r line ∷ kept_lines (renamed_after r line n k) (n + made line) (k + made line) needs lines else kept_lines r (n + made line) k needs lines)
    by true kept left = ([], line, lines, refl, (r, refl), kept)
    by false kept left = come_later line lines (kept_lines r (n + made line) k needs lines) left

pub trimmed_come : TrimmedComeOfOld
trimmed_come p lines = kept_come (no_renaming p) _ _ (needed _ lines) lines
