-- Lines that lead from state to state: to one at most, in parts, with a line more, how many they are, and how many constraints they make.
use Rattle.std.proofs.Common.{◌≡◌, ◌+◌, List, [], ◌∷◌, ◌++◌, length, sum_by, refl, arith, sym, subst, ap, ◌∙◌}
use Rattle.std.proofs.lemmas.List.Sums.{sum_by-cons}
use Rattle.pb_lin.specs.Problem.{ProblemValue}
use Rattle.proof_laws.specs.State.{StateValue, start}
use Rattle.proof_laws.specs.Steps.{made}
use Rattle.proof_laws.specs.Legal.{IsNext, Makes}
use Rattle.proof_laws.specs.Replay.{Leads, IsReplay}
use Rattle.proof_laws.specs.Laws.{ReplaysGoOn}
use Rattle.proof_laws.specs.declared.line.Line.{Line}
use Rattle.proof_laws.specs.declared.line.Line.TheVariants.{Pol, Rup, Learn, Def, Red, Dom, Sol, Del, Reduce, End}
use Rattle.proof_laws.proofs.Unique.{judged_once_law}

-- ---- one state

leads_once : (p : ProblemValue) (lines : List Line) (s t u : StateValue) → Leads p s lines t → Leads p s lines u → t ≡ u
leads_once p [] s t u one other = one ∙ sym other
leads_once p (line ∷ lines) s t u one other =
    let same : other.0 ≡ one.0 = (judged_once_law p s line).one_next other.0 one.0 other.1 one.1 in
    leads_once p lines one.0 t u one.2 (subst (λ (v : StateValue). Leads p v lines u) same other.2)

pub replay_once : (p : ProblemValue) (lines : List Line) (s t : StateValue) → IsReplay p lines s → IsReplay p lines t → s ≡ t
replay_once p lines s t one other = leads_once p lines (start p) s t one other

-- ---- parts, and a line more

-- the lines before a place lead to the state that those after it start from
pub leads_split : (p : ProblemValue) (before after : List Line) (s t : StateValue) → Leads p s (before ++ after) t → (u : StateValue) × Leads p s before u × Leads p u after t
leads_split p [] after s t leads = (s, refl, leads)
leads_split p (line ∷ before) after s t leads =
    let rest = leads_split p before after leads.0 t leads.2 in
    (rest.0, (leads.0, leads.1, rest.1), rest.2)

-- a line after lines
pub leads_further : (p : ProblemValue) (lines : List Line) (s u t : StateValue) (line : Line) → Leads p s lines u → IsNext p u line t → Leads p s (lines ++ line ∷ []) t
leads_further p [] s u t line is next = (t, subst (λ (v : StateValue). IsNext p v line t) is next, refl)
leads_further p (l ∷ lines) s u t line leads next = (leads.0, leads.1, leads_further p lines leads.0 u t line leads.2 next)

-- the state before the last line
pub replay_before : (p : ProblemValue) (lines : List Line) (line : Line) (s t : StateValue) → IsReplay p lines s → IsReplay p (lines ++ line ∷ []) t → IsNext p s line t
replay_before p lines line s t replay more =
    let parts = leads_split p lines (line ∷ []) (start p) t more in
    let last = parts.2 in
    let same : parts.0 ≡ s = replay_once p lines parts.0 s parts.1 replay in
    subst (λ (u : StateValue). IsNext p u line t) same (subst (λ (u : StateValue). IsNext p parts.0 line u) (sym last.2) last.1)

-- ---- how many

next_lines : (p : ProblemValue) (s : StateValue) (line : Line) (t : StateValue) → Makes p s line t → t.lines ≡ s.lines + 1
next_lines p s (Pol tokens) t is = ap (λ (u : StateValue). u.lines) is.2
next_lines p s (Rup goal hints) t is = ap (λ (u : StateValue). u.lines) is
next_lines p s (Learn goal hints) t is = ap (λ (u : StateValue). u.lines) is
next_lines p s (Def var sum) t is = ap (λ (u : StateValue). u.lines) is
next_lines p s (Red goal w proofs) t is = ap (λ (u : StateValue). u.lines) is
next_lines p s (Dom goal w proofs) t is = ap (λ (u : StateValue). u.lines) is
next_lines p s (Sol model cut ids) t is = ap (λ (u : StateValue). u.lines) is
next_lines p s (Del ids) t is = ap (λ (u : StateValue). u.lines) is
next_lines p s (Reduce ids) t is = ap (λ (u : StateValue). u.lines) is
next_lines p s (End id) t is = ap (λ (u : StateValue). u.lines) is

leads_lines : (p : ProblemValue) (lines : List Line) (s t : StateValue) → Leads p s lines t → t.lines ≡ s.lines + length lines
leads_lines p [] s t leads = let same : t.lines ≡ s.lines = ap (λ (u : StateValue). u.lines) leads in omega (arith, same)
leads_lines p (line ∷ lines) s t leads =
    let one = next_lines p s line leads.0 leads.1.makes in
    let rest = leads_lines p lines leads.0 t leads.2 in
    omega (arith, one, rest)

-- a state counts the lines that lead to it
pub replay_lines : (p : ProblemValue) (lines : List Line) (s : StateValue) → IsReplay p lines s → s.lines ≡ length lines
replay_lines p lines s replay = let all = leads_lines p lines (start p) s replay in omega (arith, all)

-- ---- how many constraints

next_ids : (p : ProblemValue) (s : StateValue) (line : Line) (t : StateValue) → Makes p s line t → t.next_id ≡ s.next_id + made line
next_ids p s (Pol tokens) t is = ap (λ (u : StateValue). u.next_id) is.2
next_ids p s (Rup goal hints) t is = ap (λ (u : StateValue). u.next_id) is
next_ids p s (Learn goal hints) t is = ap (λ (u : StateValue). u.next_id) is
next_ids p s (Def var sum) t is = ap (λ (u : StateValue). u.next_id) is
next_ids p s (Red goal w proofs) t is = ap (λ (u : StateValue). u.next_id) is
next_ids p s (Dom goal w proofs) t is = ap (λ (u : StateValue). u.next_id) is
next_ids p s (Sol model cut ids) t is = ap (λ (u : StateValue). u.next_id) is
next_ids p s (Del ids) t is = ap (λ (u : StateValue). u.next_id) is
next_ids p s (Reduce ids) t is = ap (λ (u : StateValue). u.next_id) is
next_ids p s (End id) t is = ap (λ (u : StateValue). u.next_id) is

leads_ids : (p : ProblemValue) (lines : List Line) (s t : StateValue) → Leads p s lines t → t.next_id ≡ s.next_id + sum_by made lines
leads_ids p [] s t leads = let same : t.next_id ≡ s.next_id = ap (λ (u : StateValue). u.next_id) leads in omega (arith, same)
leads_ids p (line ∷ lines) s t leads =
    let one = next_ids p s line leads.0 leads.1.makes in
    let rest = leads_ids p lines leads.0 t leads.2 in
    let all : sum_by made (line ∷ lines) ≡ made line + sum_by made lines = sum_by-cons made line lines in
    omega (arith, one, rest, all)

-- the ids that the lines have taken come after those of the rows
pub replay_ids : (p : ProblemValue) (lines : List Line) (s : StateValue) → IsReplay p lines s → s.next_id ≡ length p.rows + 1 + sum_by made lines
replay_ids p lines s replay = leads_ids p lines (start p) s replay

pub replays_law : ReplaysGoOn
replays_law = record {
  one = replay_once;
  last = replay_before;
  next = λ p lines line s t replay step. leads_further p lines (start p) s t line replay step;
  counted = replay_lines;
  ids = replay_ids;
}
