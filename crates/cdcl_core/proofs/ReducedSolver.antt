-- What a solver is given to make a reduction, in either of its views.
use Rattle.std.proofs.Common.{◌≡◌, ℕ, List, [], ◌∷◌, ◌++◌, All, sym, ◌∙◌, subst}
use Rattle.std.specs.Prelude.{IsSome}
use Rattle.std.specs.FinMap.{get}
use Rattle.proof_laws.specs.declared.line.Line.{Line}
use Rattle.proof_laws.specs.declared.line.Line.TheVariants.{Reduce}
use Rattle.proof_rules.specs.Recording.{KeepsRecorder, Snapshot}
use Rattle.oracle.specs.Solving.{Reaches}
use Rattle.cdcl_laws.specs.SearchLines.{AddsLearned}
use Rattle.cdcl_core.specs.Ledgers.{EndsLearned, IsDue, IsPart}
use Rattle.cdcl_core.specs.Work.{SolverValue, IsWorking, NamesLearned, StepsFrom}
use Rattle.cdcl_core.proofs.ReducedLine.{adds, still_within}

pub record IsReducible {R : Type 0} (seen : R → Snapshot) (s : SolverValue R) : Type 0 where
  pub work : IsWorking seen s
  pub last : EndsLearned (seen s.recorder).lines
  pub due : Reaches (seen s.recorder).problem (seen s.recorder).lines (λ t. IsDue s.ledger.reductions t.learned)

pub names_inside : {R : Type 0} (line : Line) (v w : SolverValue R) → v ≡ w → NamesLearned w line → NamesLearned v line
names_inside line v w same names = subst (λ (s : SolverValue _). NamesLearned s line) (sym same) names

pub part_inside : {R : Type 0} (ids : List ℕ) (v w : SolverValue R) → v ≡ w → IsPart ids w.ledger.ids → IsPart ids v.ledger.ids
part_inside ids v w same part = subst (λ (s : SolverValue _). IsPart ids s.ledger.ids) (sym same) part

module _ {R : Type 0} (seen : R → Snapshot) (v w : SolverValue R) where
  pub reducible_inside : v ≡ w → IsWorking seen w → EndsLearned (seen w.recorder).lines → Reaches (seen w.recorder).problem (seen w.recorder).lines (λ t. IsDue w.ledger.reductions t.learned) → IsReducible seen v
  reducible_inside same work last due = subst (IsReducible seen) (sym same) (record { work = work; last = last; due = due })

  pub learns_reduced : (named : List ℕ) (new : List Line) → v ≡ w → IsReducible seen v → IsPart named v.ledger.ids → All (λ id. IsSome (get v.search.store id)) named
      → new ≡ (seen v.recorder).lines ++ Reduce named ∷ [] → AddsLearned (seen w.recorder).problem (seen w.recorder).lines new
  learns_reduced named new same can part live added =
      subst (λ (s : SolverValue R). AddsLearned (seen s.recorder).problem (seen s.recorder).lines new) same (adds seen v named can.work part live new added)

  pub steps_reduced : (named : List ℕ) (b : SolverValue R) → v ≡ w → IsReducible seen v → IsPart named v.ledger.ids → All (λ id. IsSome (get v.search.store id)) named
      → KeepsRecorder (seen v.recorder) (seen b.recorder) → (seen b.recorder).lines ≡ (seen v.recorder).lines ++ Reduce named ∷ [] → b.limit ≡ v.limit → b.broken ≡ v.broken → StepsFrom seen w b
  steps_reduced named b same can part live kept added limit broken = subst (λ (s : SolverValue R). StepsFrom seen s b) same (record {
    begun = broken ∙ can.work.begun;
    limit = limit;
    kept = kept;
    within = still_within seen v named can.work part live (seen b.recorder).lines added;
    adds = (adds seen v named can.work part live (seen b.recorder).lines added).adds;
  })
