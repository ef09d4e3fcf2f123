-- Lines that are there before a search.
use Rattle.std.proofs.Common.{◌≡◌, ◌≤◌, false, List, [], ◌∷◌, ◌++◌, ap, refl, sym, subst, ◌∙◌, arith, ℤ}
use Rattle.std.specs.List.{All}
use Rattle.std.proofs.lemmas.List.Elements.{All-head, All-tail}
use Rattle.pb_lin.specs.Problem.{ProblemValue, IsProblem}
use Rattle.proof_laws.specs.State.{StateValue}
use Rattle.proof_laws.specs.Earned.{is_sol}
use Rattle.proof_laws.specs.WellFormed.{IsWellFormed}
use Rattle.proof_laws.specs.declared.line.Line.{Line}
use Rattle.proof_laws.specs.declared.line.Line.TheVariants.{Pol, Rup, Learn, Def, Red, Dom, Sol, Del, Reduce, End}
use Rattle.proof_laws.proofs.NextKept.{replay_law}
use Rattle.proof_rules.specs.Recording.{Snapshot}
use Rattle.sum_outputs.specs.Adding.{IsReached}
use Rattle.search_base.specs.Laws.{IsPrepared}
use Rattle.search_base.specs.Logged.{logged, logged_by}
use Rattle.harden.specs.Hardening.{MayBeSearched}

silent : (p : ProblemValue) (line : Line) → is_sol line ≡ false → logged_by p line ≡ []
silent p (Pol tokens) none = refl
silent p (Rup goal hints) none = refl
silent p (Learn goal hints) none = refl
silent p (Def var sum) none = refl
silent p (Red goal w proofs) none = refl
silent p (Dom goal w proofs) none = refl
silent p (Sol model cut rows) none = cc
silent p (Del ids) none = refl
silent p (Reduce ids) none = refl
silent p (End id) none = refl

logs_nothing : (p : ProblemValue) (lines : List Line) → All (λ line. is_sol line ≡ false) lines → logged p lines ≡ []
logs_nothing p [] none = refl
logs_nothing p (line ∷ lines) none =
    ap (λ (vs : List (List ℤ)). vs ++ logged p lines) (silent p line (All-head (λ l. is_sol l ≡ false) line lines none))
    ∙ logs_nothing p lines (All-tail (λ l. is_sol l ≡ false) line lines none)

-- lines that may be followed by those of a search are prepared
pub prepared_by : (a : Snapshot) → MayBeSearched a → IsPrepared a
prepared_by a may = record { ready = may.ready; none = logs_nothing a.problem a.lines may.no_solutions; earned = may.earned; within = may.within }

-- over any lines there are the problem's variables
pub has_variables : (a : Snapshot) (p : ProblemValue) → a.problem ≡ p → IsProblem p → All IsWellFormed a.lines → (s : StateValue) → IsReached a s → p.vars ≤ s.vars
has_variables a p same problem formed s reached =
    let sound = replay_law a.problem a.lines s (subst IsProblem (sym same) problem) formed reached in
    let vars = sound.fits.vars in
    let is = ap (λ (q : ProblemValue). q.vars) same in
    omega arith
