-- The states that lines of a search, or of a relaxation, reach: nothing is earned before the first, and none ends the proof or logs a model.
use Rattle.std.proofs.Common.{◌≡◌, ◌≤◌, Bool, false, List, [], ◌∷◌, ◌++◌, length, take, refl, sym, ap, subst, ◌∙◌, arith, append_assoc}
use Rattle.std.specs.Prelude.{All}
use Rattle.std.proofs.lemmas.List.{take_all}
use Rattle.std.proofs.lemmas.List.Elements.{All-head, All-tail}
use Rattle.pb_lin.specs.Problem.{ProblemValue, IsProblemModel}
use Rattle.proof_laws.specs.State.{StateValue, start}
use Rattle.proof_laws.specs.Legal.{Makes}
use Rattle.proof_laws.specs.Replay.{Leads, IsReplay}
use Rattle.proof_laws.specs.declared.line.Line.{Line}
use Rattle.proof_laws.specs.declared.line.Line.TheVariants.{Pol, Rup, Learn, Def, Red, Dom, Sol, Del, Reduce, End}
use Rattle.proof_rules.specs.Recording.{Snapshot}
use Rattle.sum_outputs.specs.Adding.{Continues, IsReady}
use Rattle.recording.specs.Advice.{IsConservative}
use Rattle.oracle.specs.Solving.{AddsSearchLines, AreEarned, IsSearchLine, IsSolution, Reaches}
use Rattle.representative_search.specs.Seeking.{HasSearched, IsOpen}

-- ---- before any line

none_split : {X : Type 0} (before after : List X) (x : X) → [] ≡ before ++ (x ∷ after) → ⊥
none_split [] after x is = cc
none_split (b ∷ before) after x is = cc

pub none_earned : (p : ProblemValue) (lines : List Line) (s : StateValue) → lines ≡ [] → IsReplay p lines s → AreEarned p lines
none_earned p lines s none reached = subst (AreEarned p) (sym none) (
  0,
  record {
    replays = (s, subst (λ (ls : List Line). IsReplay p ls s) none reached);
    learned = refl;
    new = λ before goal hints after t splits _. absurd (none_split before after (Learn goal hints) splits);
    kept = λ before ids after splits. absurd (none_split before after (Del ids) splits);
    reductions = λ before ids after splits. absurd (none_split before after (Reduce ids) splits);
  },
)

-- ---- lines of a search

-- the variables, the logged vectors and whether the proof has ended
pub record IsAlike (s t : StateValue) : Type 0 where
  pub vars : t.vars ≡ s.vars
  pub sols : t.sols ≡ s.sols
  pub ended : t.ended ≡ s.ended

same_alike : (s t u : StateValue) → t ≡ u → IsAlike s u → IsAlike s t
same_alike s t u is alike = subst (λ (v : StateValue). IsAlike s v) (sym is) alike

alike_twice : (s t u : StateValue) → IsAlike s t → IsAlike t u → IsAlike s u
alike_twice s t u one two = record { vars = two.vars ∙ one.vars; sols = two.sols ∙ one.sols; ended = two.ended ∙ one.ended }

line_alike : (p : ProblemValue) (before : List Line) (line : Line) (s t : StateValue) → IsSearchLine p before line → Makes p s line t → IsAlike s t
line_alike p before (Learn goal hints) s t kind is = same_alike s t _ is (record { vars = refl; sols = refl; ended = refl })
line_alike p before (Rup goal hints) s t kind is = same_alike s t _ is (record { vars = refl; sols = refl; ended = refl })
line_alike p before (Reduce ids) s t kind is = same_alike s t _ is (record { vars = refl; sols = refl; ended = refl })
line_alike p before (Pol tokens) s t kind is = absurd kind
line_alike p before (Def var sum) s t kind is = absurd kind
line_alike p before (Red goal w proofs) s t kind is = absurd kind
line_alike p before (Dom goal w proofs) s t kind is = absurd kind
line_alike p before (Sol model cut ids) s t kind is = absurd kind
line_alike p before (Del ids) s t kind is = absurd kind
line_alike p before (End id) s t kind is = absurd kind

lines_alike : (p : ProblemValue) (old more : List Line) (s t : StateValue)
    → ((first : List Line) (line : Line) (after : List Line) → more ≡ first ++ (line ∷ after) → IsSearchLine p (old ++ first) line)
    → Leads p s more t → IsAlike s t
lines_alike p old [] s t kinds leads = same_alike s t s leads (record { vars = refl; sols = refl; ended = refl })
lines_alike p old (line ∷ more) s t kinds leads =
    let one = line_alike p (old ++ []) line s leads.0 (kinds [] line more refl) leads.1.makes in
    let rest = lines_alike p (old ++ line ∷ []) more leads.0 t
    (λ first next after is. subst (λ (ls : List Line). IsSearchLine p ls next) (sym (append_assoc old (line ∷ []) first)) (kinds (line ∷ first) next after (ap (λ (ls : List Line). line ∷ ls) is)))
    leads.2 in
    alike_twice s leads.0 t one rest

-- the state after lines of a search alone
pub searched_alike : (p : ProblemValue) (lines : List Line) (t : StateValue) → AddsSearchLines p [] lines → IsReplay p lines t → IsAlike (start p) t
searched_alike p lines t searched reached = lines_alike p [] searched.more (start p) t searched.kinds (subst (λ (ls : List Line). IsReplay p ls t) searched.is reached)

-- so a line that ends the proof may follow
pub searched_open : (a : Snapshot) → HasSearched a → IsOpen a
searched_open a searched = record {
  whole = searched.whole;
  state = λ s reached. let alike = searched_alike a.problem a.lines s searched.lines reached in (alike.ended, alike.sols);
}

-- ---- lines of a relaxation

-- whether the proof has ended, and the logged vectors, stay
abbrev StaysOpen : StateValue → StateValue → Type 0
StaysOpen s t = (t.ended ≡ s.ended) × (t.sols ≡ s.sols)

same_open : (s t u : StateValue) → t ≡ u → StaysOpen s u → StaysOpen s t
same_open s t u is stays = subst (StaysOpen s) (sym is) stays

totalizer_stays : (p : ProblemValue) (line : Line) (s t : StateValue) → IsConservative line → Makes p s line t → StaysOpen s t
totalizer_stays p (Def var sum) s t kind is = same_open s t _ is (refl, refl)
totalizer_stays p (Pol tokens) s t kind is = same_open s t _ is.2 (refl, refl)
totalizer_stays p (Rup goal hints) s t kind is = same_open s t _ is (refl, refl)
totalizer_stays p (Red goal w proofs) s t kind is = same_open s t _ is (refl, refl)
totalizer_stays p line s t kind is = absurd kind

totalizers_stay : (p : ProblemValue) (more : List Line) (s t : StateValue) → All IsConservative more → Leads p s more t → StaysOpen s t
totalizers_stay p [] s t kinds leads = same_open s t s leads (refl, refl)
totalizers_stay p (line ∷ more) s t kinds leads =
    let one = totalizer_stays p line s leads.0 (All-head IsConservative line more kinds) leads.1.makes in
    let rest = totalizers_stay p more leads.0 t (All-tail IsConservative line more kinds) leads.2 in
    (rest.0 ∙ one.0, rest.1 ∙ one.1)

-- so a line that ends the proof may follow these too
pub relaxed_open : (a b : Snapshot) → a.lines ≡ [] → Continues a b → b.broken ≡ false → IsOpen b
relaxed_open a b none on unbroken = record { whole = unbroken; state = λ s reached. totalizers_stay b.problem on.more (start b.problem) s on.kinds (subst (λ (ls : List Line). IsReplay b.problem ls s) lines reached) }
  where
    lines : b.lines ≡ on.more
    lines = on.lines ∙ ap (λ (ls : List Line). ls ++ on.more) none

-- no lines may be followed by any
pub none_ready : (a : Snapshot) (s : StateValue) → a.lines ≡ [] → a.broken ≡ false → IsReplay a.problem a.lines s → IsReady a
none_ready a s none unbroken reached = record {
  whole = unbroken;
  state = s;
  reached = reached;
  unended = ap (λ (t : StateValue). t.ended) (subst (λ (ls : List Line). IsReplay a.problem ls s) none reached);
}

-- ---- a model

pub whole_found : (p : ProblemValue) (a : List Bool) → IsProblemModel p a → (p.vars ≤ length a) × IsProblemModel p (take p.vars a)
whole_found p a is =
    let long : length a ≡ p.vars = is.variables in
    let whole : take p.vars a ≡ a = take_all p.vars a (omega arith) in
    (omega arith, subst (IsProblemModel p) (sym whole) is)

pub model_found : (p : ProblemValue) (lines : List Line) (t : StateValue) (a : List Bool) → AddsSearchLines p [] lines → IsReplay p lines t → Reaches p lines (IsSolution p [] a)
    → (p.vars ≤ length a) × IsProblemModel p (take p.vars a)
model_found p lines t a searched reached solution =
    let is = solution t reached in
    whole_found p a (record { variables = is.variables ∙ (searched_alike p lines t searched reached).vars; rows = is.rows })
