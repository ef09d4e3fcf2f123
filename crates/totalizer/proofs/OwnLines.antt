-- Lines that delete none but learned ones keep all others.
use Rattle.std.proofs.Common.{◌≡◌, List, [], ◌∷◌, ◌++◌, refl, ap, sym, subst, arith, append_assoc, append-nil}
use Rattle.pb_lin.specs.Problem.{ProblemValue}
use Rattle.proof_laws.specs.State.{StateValue, start}
use Rattle.proof_laws.specs.Legal.{IsNext}
use Rattle.proof_laws.specs.Replay.{IsReplay}
use Rattle.proof_laws.specs.declared.line.Line.{Line}
use Rattle.proof_laws.specs.declared.line.Line.TheVariants.{Pol, Rup, Learn, Def, Red, Dom, Sol, Del, Reduce, End}
use Rattle.proof_laws.proofs.Replays.{leads_split, replay_before, replay_once}
use Rattle.sum_outputs.specs.Adding.{IsLater}
use Rattle.sum_outputs.proofs.LaterStates.{later_twice, own_later, reduced_later}
use Rattle.totalizer.specs.Keeping.{DeletesLearned, OwnLinesStay}

-- ---- one line

module _ (p : ProblemValue) (lines : List Line) (s t : StateValue) (replay : IsReplay p lines s) where
  line_later : (line : Line) → IsNext p s line t → DeletesLearned p lines line →
      IsLater p lines s (lines ++ line ∷ []) t
  line_later (Pol tokens) next kind = own_later p lines (Pol tokens) s t replay next refl
  line_later (Rup goal hints) next kind = own_later p lines (Rup goal hints) s t replay next refl
  line_later (Learn goal hints) next kind = own_later p lines (Learn goal hints) s t replay next refl
  line_later (Def var sum) next kind = own_later p lines (Def var sum) s t replay next refl
  line_later (Red goal w proofs) next kind = own_later p lines (Red goal w proofs) s t replay next refl
  line_later (Dom goal w proofs) next kind = own_later p lines (Dom goal w proofs) s t replay next refl
  line_later (Sol model cut ids) next kind = own_later p lines (Sol model cut ids) s t replay next refl
  line_later (Del ids) next kind = absurd kind
  line_later (Reduce ids) next kind = reduced_later p lines ids s t replay next kind
  line_later (End id) next kind = own_later p lines (End id) s t replay next refl

-- ---- lines

-- each of these lines, after the old ones and those before it, deletes none but learned lines
abbrev AreKinds : ProblemValue → List Line → List Line → Type 0
AreKinds p old more = (first : List Line) (line : Line)
    (after : List Line) → more ≡ first ++ (line ∷ after) → DeletesLearned p (old ++ first) line

-- what is so of the kinds of these lines is so of those after the first
kinds_rest : (p : ProblemValue) (old rest : List Line) (line : Line) → AreKinds p old (line ∷ rest) →
    AreKinds p (old ++ line ∷ []) rest
kinds_rest p old rest line kinds first l after same =
    let whole : line ∷ rest ≡ (line ∷ first) ++ (l ∷ after) = ap (λ (ls : List Line). line ∷ ls) same in
    subst (λ (ls : List Line). DeletesLearned p ls l) (sym (append_assoc old (line ∷ []) first))
    (kinds (line ∷ first) l after whole)

more_later : (p : ProblemValue) (more old : List Line) (s t : StateValue) → AreKinds p old more →
    IsReplay p old s → IsReplay p (old ++ more) t → IsLater p old s (old ++ more) t
more_later p [] old s t kinds replay after =
    let again = subst (λ (ls : List Line). IsReplay p ls t) (append-nil old) after in
    let same : s ≡ t = replay_once p old s t replay again in
    subst (λ (u : StateValue). IsLater p old s (old ++ []) u) same
    (subst (λ (ls : List Line). IsLater p old s ls s) (sym (append-nil old))
    (record { own = λ id c own. own; vars = omega arith }))
more_later p (line ∷ rest) old s t kinds replay after =
    let now = old ++ line ∷ [] in
    let whole : now ++ rest ≡ old ++ (line ∷ rest) = append_assoc old (line ∷ []) rest in
    let last = subst (λ (ls : List Line). IsReplay p ls t) (sym whole) after in
    let parts = leads_split p now rest (start p) t last in
    let u = parts.0 in
    let kind = subst (λ (ls : List Line). DeletesLearned p ls line) (append-nil old) (kinds [] line rest refl) in
    let one = line_later p old s u replay line (replay_before p old line s u replay parts.1) kind in
    let all = more_later p rest now u t (kinds_rest p old rest line kinds) parts.1 last in
    subst (λ (ls : List Line). IsLater p old s ls t) whole (later_twice p old now (now ++ rest) s u t one all)

pub own_lines_stay_law : OwnLinesStay
own_lines_stay_law p old new s t keeps replay after = subst (λ (ls : List Line). IsLater p old s ls t) (sym keeps.is)
    (more_later p keeps.more old s t keeps.kinds replay (subst (λ (ls : List Line). IsReplay p ls t) keeps.is after))
