-- How many clauses lines learn.
use Rattle.std.proofs.Common.{◌≡◌, ℕ, ◌+◌, cond, List, [], ◌∷◌, refl, arith, ap}
use Rattle.std.specs.List.{count_by}
use Rattle.std.proofs.lemmas.List.Sums.{sum_by-cons}
use Rattle.pb_lin.specs.Problem.{ProblemValue}
use Rattle.proof_laws.specs.State.{StateValue, start}
use Rattle.proof_laws.specs.Legal.{Makes}
use Rattle.proof_laws.specs.Replay.{Leads, IsReplay}
use Rattle.proof_laws.specs.Earned.{is_learn, is_reduce}
use Rattle.proof_laws.specs.declared.line.Line.{Line}
use Rattle.proof_laws.specs.declared.line.Line.TheVariants.{Pol, Rup, Learn, Def, Red, Dom, Sol, Del, Reduce, End}
use Rattle.proof_laws.proofs.Replays.{replay_lines}

-- 1 for a line that learns a clause, and else 0
abbrev pub learns : Line → ℕ
learns line = cond (is_learn line) 1 0

line_learns : (p : ProblemValue) (s : StateValue) (line : Line) (t : StateValue) → Makes p s line t → t.learned ≡ s.learned + learns line
line_learns p s (Pol tokens) t made = let same = ap (λ (u : StateValue). u.learned) made.2 in omega (arith, same)
line_learns p s (Rup goal hints) t made = let same = ap (λ (u : StateValue). u.learned) made in omega (arith, same)
line_learns p s (Learn goal hints) t made = ap (λ (u : StateValue). u.learned) made
line_learns p s (Def var sum) t made = let same = ap (λ (u : StateValue). u.learned) made in omega (arith, same)
line_learns p s (Red goal w proofs) t made = let same = ap (λ (u : StateValue). u.learned) made in omega (arith, same)
line_learns p s (Dom goal w proofs) t made = let same = ap (λ (u : StateValue). u.learned) made in omega (arith, same)
line_learns p s (Sol model cut ids) t made = let same = ap (λ (u : StateValue). u.learned) made in omega (arith, same)
line_learns p s (Del ids) t made = let same = ap (λ (u : StateValue). u.learned) made in omega (arith, same)
line_learns p s (Reduce ids) t made = let same = ap (λ (u : StateValue). u.learned) made in omega (arith, same)
line_learns p s (End id) t made = let same = ap (λ (u : StateValue). u.learned) made in omega (arith, same)

leads_learns : (p : ProblemValue) (lines : List Line) (s t : StateValue) → Leads p s lines t → t.learned ≡ s.learned + count_by is_learn lines
leads_learns p [] s t leads = let same : t.learned ≡ s.learned = ap (λ (u : StateValue). u.learned) leads in omega (arith, same)
leads_learns p (line ∷ lines) s t leads =
    let one = line_learns p s line leads.0 leads.1.makes in
    let rest = leads_learns p lines leads.0 t leads.2 in
    let sum = sum_by-cons learns line lines in
    omega (arith, one, rest, sum)

pub counted_law : (p : ProblemValue) (lines : List Line) (s : StateValue) → IsReplay p lines s → s.learned ≡ count_by is_learn lines
counted_law p lines s replay = let all = leads_learns p lines (start p) s replay in omega (arith, all)

-- with no line there is no reduction
pub first_law : (p : ProblemValue) (lines : List Line) (s : StateValue) → IsReplay p lines s → s.lines ≡ 0 → count_by is_reduce lines ≡ 0
first_law p [] s replay none = refl
first_law p (line ∷ lines) s replay none = absurd (let all = replay_lines p (line ∷ lines) s replay in omega (arith, all, none))
