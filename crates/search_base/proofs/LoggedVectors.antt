-- What lines have logged.
use Rattle.std.proofs.Common.{◌≡◌, List, [], ◌∷◌, ◌++◌, ap, refl, sym, ◌∙◌, append-nil, append_assoc, ℤ}
use Rattle.std.specs.List.{All}
use Rattle.std.proofs.lemmas.List.Elements.{All-head, All-tail}
use Rattle.pb_lin.specs.Problem.{ProblemValue}
use Rattle.proof_laws.specs.State.{StateValue, start}
use Rattle.proof_laws.specs.Legal.{Makes}
use Rattle.proof_laws.specs.Replay.{Leads}
use Rattle.proof_laws.specs.declared.line.Line.{Line}
use Rattle.proof_laws.specs.declared.line.Line.TheVariants.{Pol, Rup, Learn, Def, Red, Dom, Sol, Del, Reduce, End}
use Rattle.proof_rules.specs.Recording.{Snapshot}
use Rattle.oracle.specs.Solving.{AddsSearchLines, IsSearchLine}
use Rattle.recording.specs.Advice.{IsConservative}
use Rattle.sum_outputs.specs.Adding.{Continues}
use Rattle.search_base.specs.Logged.{LogsNone, logged, logged_by}
use Rattle.search_base.specs.Laws.{LoggedIsReached}
use Rattle.search_base.proofs.Places.{at_place, from_places}

-- ---- states

abbrev sols_of : StateValue → List (List ℤ)
sols_of s = s.sols

made_logs : (p : ProblemValue) (s t : StateValue) (line : Line) → Makes p s line t → t.sols ≡ s.sols ++ logged_by p line
made_logs p s t (Pol tokens) made = ap sols_of made.2 ∙ sym (append-nil s.sols)
made_logs p s t (Rup goal hints) made = ap sols_of made ∙ sym (append-nil s.sols)
made_logs p s t (Learn goal hints) made = ap sols_of made ∙ sym (append-nil s.sols)
made_logs p s t (Def var sum) made = ap sols_of made ∙ sym (append-nil s.sols)
made_logs p s t (Red goal w proofs) made = ap sols_of made ∙ sym (append-nil s.sols)
made_logs p s t (Dom goal w proofs) made = ap sols_of made ∙ sym (append-nil s.sols)
made_logs p s t (Sol model cut ids) made = ap sols_of made
made_logs p s t (Del ids) made = ap sols_of made ∙ sym (append-nil s.sols)
made_logs p s t (Reduce ids) made = ap sols_of made ∙ sym (append-nil s.sols)
made_logs p s t (End id) made = ap sols_of made ∙ sym (append-nil s.sols)

lines_log : (p : ProblemValue) (s t : StateValue) (lines : List Line) → Leads p s lines t →
    t.sols ≡ s.sols ++ logged p lines
lines_log p s t [] leads = ap sols_of leads ∙ sym (append-nil s.sols)
lines_log p s t (line ∷ lines) leads =
    lines_log p leads.0 t lines leads.2
    ∙ ap (λ (vs : List (List ℤ)). vs ++ logged p lines) (made_logs p s leads.0 line leads.1.makes)
    ∙ append_assoc s.sols (logged_by p line) (logged p lines)

pub reached_law : LoggedIsReached
reached_law p lines s replay = lines_log p (start p) s lines replay

-- ---- lines that log nothing

pub logged_append : (p : ProblemValue) (xs ys : List Line) → logged p (xs ++ ys) ≡ logged p xs ++ logged p ys
logged_append p [] ys = refl
logged_append p (x ∷ xs) ys = ap (λ (vs : List (List ℤ)). logged_by p x ++ vs) (logged_append p xs ys)
    ∙ sym (append_assoc (logged_by p x) (logged p xs) (logged p ys))

abbrev IsSilent : ProblemValue → Line → Type 0
IsSilent p line = logged_by p line ≡ []

silent_log : (p : ProblemValue) (lines : List Line) → All (IsSilent p) lines → logged p lines ≡ []
silent_log p [] silent = refl
silent_log p (line ∷ lines) silent =
    ap (λ (vs : List (List ℤ)). vs ++ logged p lines) (All-head (IsSilent p) line lines silent)
    ∙ silent_log p lines (All-tail (IsSilent p) line lines silent)

pub none_logged : (p : ProblemValue) (old new more : List Line) → new ≡ old ++ more → All (IsSilent p) more →
    LogsNone p old new
none_logged p old new more is silent =
    ap (logged p) is ∙ logged_append p old more
    ∙ ap (λ (vs : List (List ℤ)). logged p old ++ vs) (silent_log p more silent) ∙ append-nil (logged p old)

search_silent : (p : ProblemValue) (before : List Line) (line : Line) → IsSearchLine p before line → IsSilent p line
search_silent p before (Learn goal hints) is = refl
search_silent p before (Reduce ids) is = refl
search_silent p before (Rup goal hints) is = refl
search_silent p before line is = absurd is

totalizer_silent : (p : ProblemValue) (line : Line) → IsConservative line → IsSilent p line
totalizer_silent p (Def var sum) is = refl
totalizer_silent p (Pol tokens) is = refl
totalizer_silent p (Rup goal hints) is = refl
totalizer_silent p (Red goal w proofs) is = refl
totalizer_silent p line is = absurd is

pub search_logs_none : (p : ProblemValue) (old new : List Line) → AddsSearchLines p old new → LogsNone p old new
search_logs_none p old new adds = none_logged p old new adds.more adds.is
    (from_places (IsSilent p) adds.more (λ first line after e. search_silent p (old ++ first) line
    (adds.kinds first line after e)))

pub totalizer_logs_none : (a b : Snapshot) → Continues a b → LogsNone a.problem a.lines b.lines
totalizer_logs_none a b on = none_logged a.problem a.lines b.lines on.more on.lines
    (from_places (IsSilent a.problem) on.more
    (λ first line after e. totalizer_silent a.problem line
    (at_place IsConservative on.more first after line e on.kinds)))
