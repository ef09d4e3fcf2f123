-- What a solver is given to learn a clause, in either of its views.
use Rattle.std.proofs.Common.{◌≡◌, ℕ, ◌++◌, ◌∷◌, [], List, sym, ◌∙◌, subst}
use Rattle.scut_base.specs.Literal.{Literal}
use Rattle.proof_laws.specs.declared.line.Line.{Line}
use Rattle.proof_rules.specs.Recording.{KeepsRecorder, Snapshot}
use Rattle.cdcl_laws.specs.SearchLines.{AddsLearned}
use Rattle.cdcl_core.specs.Work.{SolverValue, IsWorking, StepsFrom}
use Rattle.cdcl_core.specs.Learnable.{IsLearnable, MayLearn}
use Rattle.cdcl_core.proofs.LearnedLine.{adds, still_within}

pub record IsGiven {R : Type 0} (seen : R → Snapshot) (s : SolverValue R) (level : ℕ) (l : Literal) (line : Line) : Type 0 where
  pub work : IsWorking seen s
  pub can : IsLearnable s.search level l line
  pub may : MayLearn s.limit (seen s.recorder).problem (seen s.recorder).lines

module _ {R : Type 0} (seen : R → Snapshot) (v w : SolverValue R) (level : ℕ) (l : Literal) (line : Line) where
  pub given_inside : v ≡ w → IsWorking seen w → IsLearnable w.search level l line → MayLearn w.limit (seen w.recorder).problem (seen w.recorder).lines → IsGiven seen v level l line
  given_inside same work can may = subst (λ (s : SolverValue R). IsGiven seen s level l line) (sym same) (record { work = work; can = can; may = may })

  pub learns_line : (new : List Line) → v ≡ w → IsGiven seen v level l line → new ≡ (seen v.recorder).lines ++ line ∷ [] → AddsLearned (seen w.recorder).problem (seen w.recorder).lines new
  learns_line new same given added =
      subst (λ (s : SolverValue R). AddsLearned (seen s.recorder).problem (seen s.recorder).lines new) same (adds seen v level l line given.work given.can new added)

  pub steps_line : (b : SolverValue R) → v ≡ w → IsGiven seen v level l line → KeepsRecorder (seen v.recorder) (seen b.recorder) → (seen b.recorder).lines ≡ (seen v.recorder).lines ++ line ∷ []
      → b.limit ≡ v.limit → b.broken ≡ v.broken → StepsFrom seen w b
  steps_line b same given kept added limit broken = subst (λ (s : SolverValue R). StepsFrom seen s b) same (record {
    begun = broken ∙ given.work.begun;
    limit = limit;
    kept = kept;
    within = still_within seen v level l line given.work given.can (seen b.recorder).lines added given.may;
    adds = (adds seen v level l line given.work given.can (seen b.recorder).lines added).adds;
  })
