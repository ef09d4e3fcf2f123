-- Proofs that grow by a line.
use Rattle.std.proofs.Common.{◌≡◌, ◌≢◌, ◌⊎◌, ⊎_elim, ℕ, ◌+◌, ◌^◌, ◌<◌, ◌≤◌, List, [], ◌∷◌, ◌++◌, length, refl, sym, ap, ◌∙◌, arith}
use Rattle.std.specs.List.{sum_by}
use Rattle.std.proofs.lemmas.List.Sums.{sum_by-cons}
use Rattle.std.proofs.lemmas.Bool.{lt-ltb, cases_order}
use Rattle.std.proofs.lemmas.List.Elements.{All-nil, All-push}
use Rattle.pb_lin.specs.Problem.{ProblemValue}
use Rattle.proof_laws.specs.WellFormed.{IsWellFormed}
use Rattle.proof_laws.specs.State.{StateValue, IsState, Fits, start}
use Rattle.proof_laws.specs.Legal.{IsLegal, IsNext}
use Rattle.proof_laws.specs.Replay.{IsReplay}
use Rattle.proof_laws.specs.declared.line.Line.{Line}
use Rattle.proof_laws.proofs.NeverLong.{never_long}
use Rattle.proof_laws.proofs.Replays.{leads_further, replay_ids, replay_lines, replay_once}
use Rattle.proof_laws.specs.Steps.{made}
use Rattle.proof_laws.specs.declared.line.Line.TheVariants.{Pol, Rup, Learn, Def, Red, Dom, Sol, Del, Reduce, End}
use Rattle.proof_lines.specs.Ids.{FitsNext}
use Rattle.proof_lines.specs.declared.spelling.Spelling.{Spelling}
use Rattle.proof_lines.specs.declared.spelling.Spelling.TheVariants.{Plain, Relative}
use Rattle.proof_text.specs.Versions.{after_lines, first_of, spelling_at}
use Rattle.proof_text.specs.declared.version.LogVersion.{LogVersion}
use Rattle.proof_text.specs.declared.version.LogVersion.TheVariants.{One, Two}
use Rattle.proof_rules.specs.Recording.{MayBeAdded, IsNextId}
use Rattle.proof_text.specs.Recorders.{IsKept}

-- ---- what is kept

-- a line that may be added is legal where there is room for it
pub legal_here : (p : ProblemValue) (lines : List Line) (s : StateValue) (line : Line) → IsState s → IsReplay p lines s → length lines ≢ 2 ^ 61 → MayBeAdded p lines line → IsLegal p s line
legal_here p lines s line state replay room may =
    let count : s.lines ≡ length lines = replay_lines p lines s replay in
    let most : s.lines ≤ 2 ^ 61 = state.lines in
    let short : s.lines < 2 ^ 61 = below s.lines (2 ^ 61) most (λ e. room (sym count ∙ e)) in
    ⊎_elim (λ legal. legal) (λ long. absurd (never_long p s line (lt-ltb s.lines (2 ^ 61) short) long)) (may s replay)
  where
    below : (m n : ℕ) → m ≤ n → (m ≡ n → ⊥) → m < n
    below m n le apart = ⊎_elim (λ (e : m ≡ n). absurd (apart e)) (λ other. ⊎_elim (λ (less : m < n). less) (λ (more : n < m). absurd (omega arith)) other) (cases_order m n)

-- the id that the state gives next
pub next_of : (p : ProblemValue) (lines : List Line) (s : StateValue) (id : ℕ) → IsReplay p lines s → id ≡ s.next_id → IsNextId p lines id
next_of p lines s id replay is t other = is ∙ ap (λ (u : StateValue). u.next_id) (replay_once p lines s t replay other)

pub kept_none : (p : ProblemValue) (s : StateValue) → s ≡ start p → Fits p s → IsKept p [] s
kept_none p s is fits = record { formed = All-nil IsWellFormed; replay = is; fits = fits }

pub kept_more : (p : ProblemValue) (lines : List Line) (s : StateValue) (line : Line) (t : StateValue) → IsKept p lines s → IsWellFormed line → IsNext p s line t → Fits p t → IsKept p (lines ++ line ∷ []) t
kept_more p lines s line t kept formed next fits = record {
  formed = All-push IsWellFormed lines line kept.formed formed;
  replay = leads_further p lines (start p) s t line kept.replay next;
  fits = fits;
}

-- ---- ids

few_made : (line : Line) → made line ≤ 2
few_made (Pol tokens) = omega arith
few_made (Rup goal hints) = omega arith
few_made (Learn goal hints) = omega arith
few_made (Def var sum) = omega arith
few_made (Red goal w proofs) = omega arith
few_made (Dom goal w proofs) = omega arith
few_made (Sol model cut ids) = omega arith
few_made (Del ids) = omega arith
few_made (Reduce ids) = omega arith
few_made (End id) = omega arith

plain_after : (lines : List Line) → after_lines Plain lines ≡ Plain
plain_after [] = refl
plain_after (l ∷ lines) = plain_after lines

counted_after : (rows next : ℕ) (lines : List Line) → after_lines (Relative rows next) lines ≡ Relative rows (next + sum_by made lines)
counted_after rows next [] = ap (λ (n : ℕ). Relative rows n) (omega arith)
counted_after rows next (l ∷ lines) = counted_after rows (next + made l) lines ∙ ap (λ (n : ℕ). Relative rows n) (omega (arith, sum_by-cons made l lines))

-- the state after some lines tells how the next one spells its ids
pub spelled_here : (version : LogVersion) (p : ProblemValue) (lines : List Line) (s : StateValue) → IsReplay p lines s → after_lines (first_of version p) lines ≡ spelling_at version p s
spelled_here One p lines s replay = plain_after lines
spelled_here Two p lines s replay = counted_after (length p.rows) (length p.rows + 1) lines ∙ ap (λ (n : ℕ). Relative (length p.rows) n) (sym (replay_ids p lines s replay))

-- no state comes to ids that are too large
pub fits_here : (version : LogVersion) (p : ProblemValue) (s : StateValue) (line : Line) → IsState s → FitsNext (spelling_at version p s) line
fits_here One p s line state = tt
fits_here Two p s line state = omega (arith, state.next_id, state.lines, few_made line)
