-- States after lines of turns.
use Rattle.std.proofs.Common.{◌≡◌, Bool, true, false, List, [], ◌∷◌, ◌++◌, ap, refl, subst, ◌∙◌}
use Rattle.std.specs.List.{All}
use Rattle.std.proofs.lemmas.List.Elements.{All-head, All-tail}
use Rattle.pb_lin.specs.Problem.{ProblemValue}
use Rattle.proof_laws.specs.State.{StateValue, start}
use Rattle.proof_laws.specs.Legal.{Makes}
use Rattle.proof_laws.specs.Replay.{IsReplay, Leads}
use Rattle.proof_laws.specs.declared.line.Line.{Line}
use Rattle.proof_laws.specs.declared.line.Line.TheVariants.{Pol, Rup, Learn, Def, Red, Dom, Sol, Del, Reduce, End}
use Rattle.proof_laws.proofs.Replays.{leads_split, replay_once}
use Rattle.proof_rules.specs.Recording.{Snapshot}
use Rattle.sum_outputs.specs.Adding.{IsReached, IsReady}
use Rattle.search_base.specs.Logged.{AddsTurnLines, IsTurnLine}
use Rattle.search_base.proofs.Places.{from_places}

-- ---- the lines after others

-- the new lines lead from the one state to the other
pub replay_after : (p : ProblemValue) (old new more : List Line) (s t : StateValue) → new ≡ old ++ more →
    IsReplay p old s → IsReplay p new t → Leads p s more t
replay_after p old new more s t is before after =
    let parts = leads_split p old more (start p) t (subst (λ (ls : List Line). IsReplay p ls t) is after) in
    subst (λ (u : StateValue). Leads p u more t) (replay_once p old parts.0 s parts.1 before) parts.2

-- ---- no line of a turn ends a proof

abbrev ends : Line → Bool
ends (End id) = true
ends line = false

turn_never_ends : (p : ProblemValue) (before : List Line) (line : Line) → IsTurnLine p before line → ends line ≡ false
turn_never_ends p before (Pol tokens) is = refl
turn_never_ends p before (Rup goal hints) is = refl
turn_never_ends p before (Learn goal hints) is = refl
turn_never_ends p before (Def var sum) is = refl
turn_never_ends p before (Red goal w proofs) is = refl
turn_never_ends p before (Sol model cut ids) is = refl
turn_never_ends p before (Reduce ids) is = refl
turn_never_ends p before line is = absurd is

abbrev ended_of : StateValue → Bool
ended_of s = s.ended

made_open : (p : ProblemValue) (s t : StateValue) (line : Line) → ends line ≡ false → Makes p s line t →
    s.ended ≡ false → t.ended ≡ false
made_open p s t (Pol tokens) on made open' = ap ended_of made.2 ∙ open'
made_open p s t (Rup goal hints) on made open' = ap ended_of made ∙ open'
made_open p s t (Learn goal hints) on made open' = ap ended_of made ∙ open'
made_open p s t (Def var sum) on made open' = ap ended_of made ∙ open'
made_open p s t (Red goal w proofs) on made open' = ap ended_of made ∙ open'
made_open p s t (Dom goal w proofs) on made open' = ap ended_of made ∙ open'
made_open p s t (Sol model cut ids) on made open' = ap ended_of made ∙ open'
made_open p s t (Del ids) on made open' = ap ended_of made ∙ open'
made_open p s t (Reduce ids) on made open' = ap ended_of made ∙ open'
made_open p s t (End id) on made open' = cc

lines_open : (p : ProblemValue) (s t : StateValue) (lines : List Line) → All (λ line. ends line ≡ false) lines →
    Leads p s lines t → s.ended ≡ false → t.ended ≡ false
lines_open p s t [] on leads open' = ap ended_of leads ∙ open'
lines_open p s t (line ∷ lines) on leads open' =
    lines_open p leads.0 t lines (All-tail (λ l. ends l ≡ false) line lines on) leads.2
    (made_open p s leads.0 line (All-head (λ l. ends l ≡ false) line lines on) leads.1.makes open')

-- lines may be added after lines of turns
pub ready_after : (a b : Snapshot) (t : StateValue) → IsReady a → AddsTurnLines a.problem a.lines b.lines →
    b.problem ≡ a.problem → b.broken ≡ false → IsReached b t → IsReady b
ready_after a b t ready adds problem whole reached =
    let again : IsReplay a.problem b.lines t = subst (λ (p : ProblemValue). IsReplay p b.lines t) problem reached in
    let never = from_places (λ (line : Line). ends line ≡ false) adds.more
    (λ first line after e. turn_never_ends a.problem (a.lines ++ first) line (adds.kinds first line after e)) in
    record {
      whole = whole;
      state = t;
      reached = reached;
      unended = lines_open a.problem ready.state t adds.more never
          (replay_after a.problem a.lines b.lines adds.more ready.state t adds.is ready.reached again) ready.unended;
    }
