-- What a solver at work keeps from step to step.
use Rattle.std.proofs.Common.{◌≡◌, ℕ, ◌≤◌, Option, Some, None, Bool, true, false, List, ◌∷◌, ◌++◌, Result, Ok, Err, refl, arith, sym, ap, ◌∙◌, subst}
use Rattle.scut_base.specs.Faults.{Faults}
use Rattle.pb_lin.specs.Constraint.{ConstraintValue}
use Rattle.pb_lin.specs.Problem.{ProblemValue}
use Rattle.hint_rup.specs.declared.hint.Hint.{Hint}
use Rattle.proof_laws.specs.declared.line.Line.{Line}
use Rattle.proof_laws.specs.declared.line.Line.TheVariants.{Rup}
use Rattle.proof_rules.specs.Recording.{CountsLater, KeepsRecorder, Snapshot}
use Rattle.oracle.specs.Solving.{AddsSearchLines, IsWithin}
use Rattle.oracle.specs.declared.fault.OracleFault.{OracleFault}
use Rattle.oracle.specs.declared.fault.OracleFault.TheVariants.{Spent, Failed, Full, NoMemory}
use Rattle.cdcl_laws.specs.SearchLines.{AddsLearned}
use Rattle.cdcl_laws.specs.StoredLines.{IsStored}
use Rattle.cdcl_laws.proofs.SearchLines.{none_law, then_law}
use Rattle.cdcl_state.specs.Searching.{SearchValue}
use Rattle.cdcl_core.specs.Ledgers.{LedgerValue, IsLedger}
use Rattle.cdcl_core.specs.Work.{SolverValue, IsDone, IsHeld, IsRecordCause, IsWorking, LearnsAlone, StepsFrom, Stops}
use Rattle.cdcl_core.proofs.ImpliedLines.{none_implied}

-- ---- what a recorder keeps

counts_later : (a b c : Option Faults) → CountsLater a b → CountsLater b c → CountsLater a c
counts_later None b c first second = let none : b ≡ None = first in subst (λ (o : Option Faults). CountsLater o c) none second
counts_later (Some f) None c first second = absurd first
counts_later (Some f) (Some g) None first second = absurd second
counts_later (Some f) (Some g) (Some h) first second = λ call name. let one = first call name in let two = second call name in omega arith

-- what two calls keep
pub kept_twice : (a b c : Snapshot) → KeepsRecorder a b → KeepsRecorder b c → KeepsRecorder a c
kept_twice a b c first second = record {
  problem = second.problem ∙ first.problem;
  limit = second.limit ∙ first.limit;
  around = record {
    shelf = second.around.shelf ∙ first.around.shelf;
    name = second.around.name ∙ first.around.name;
    version = second.around.version ∙ first.around.version;
    others = second.around.others ∙ first.around.others;
    said = second.around.said ∙ first.around.said;
    warned = second.around.warned ∙ first.around.warned;
    counts = counts_later a.around.counts b.around.counts c.around.counts first.around.counts second.around.counts;
  };
  later = let one = first.later in let two = second.later in omega (arith, one, two);
}

counts_same : (a : Option Faults) → CountsLater a a
counts_same None = refl
counts_same (Some f) = λ call name. omega arith

-- what no call keeps
pub kept_none : (a : Snapshot) → KeepsRecorder a a
kept_none a = record {
  problem = refl;
  limit = refl;
  around = record { shelf = refl; name = refl; version = refl; others = refl; said = refl; warned = refl; counts = counts_same a.around.counts };
  later = omega arith;
}

-- why a line wasn't recorded is why the work stops
pub record_stops : (limit : Option ℕ) (before now : Snapshot) (D : Type 0) (f : OracleFault) → IsRecordCause before now f → Stops limit before.faults now D f
record_stops limit before now D (Spent learned) cause = absurd cause
record_stops limit before now D Failed cause = cause
record_stops limit before now D Full cause = cause
record_stops limit before now D NoMemory cause = cause

module _ {R : Type 0} (seen : R → Snapshot) where
  -- ---- another search

  -- the same solver with another search
  abbrev pub with_search : SolverValue R → SearchValue → SolverValue R
  with_search s now = record { recorder = s.recorder; limit = s.limit; broken = s.broken; search = now; next = s.next; rows = s.rows; ledger = s.ledger }

  -- the same solver with another ledger
  abbrev pub with_ledger : SolverValue R → LedgerValue → SolverValue R
  with_ledger s now = record { recorder = s.recorder; limit = s.limit; broken = s.broken; search = s.search; next = s.next; rows = s.rows; ledger = now }

  abbrev held_with : (s : SolverValue R) (now : SearchValue) → now.store ≡ s.search.store → now.trail.vars ≡ s.search.trail.vars → IsHeld seen s → IsHeld seen (with_search s now)
  held_with s now store vars held = record {
    state = held.state;
    replay = held.replay;
    fits = held.fits;
    is = held.is;
    row_count = held.row_count;
    positive = held.positive;
    stored = subst (IsStored (seen s.recorder).problem held.state s.next) (sym store) held.stored;
    vars = subst (λ (n : ℕ). n ≤ held.state.vars) (sym vars) held.vars;
    listed = held.listed;
  }

  working_with : (s : SolverValue R) (now : SearchValue) → now.store ≡ s.search.store → now.trail.vars ≡ s.search.trail.vars → IsWorking seen s → IsWorking seen (with_search s now)
  working_with s now store vars working = record {
    begun = working.begun;
    whole = working.whole;
    taken = record {
      held = held_with s now store vars working.taken.held;
      all = working.taken.all;
      vars = vars ∙ working.taken.vars;
      unended = working.taken.unended;
    };
    earned = working.earned;
    within = working.within;
  }

  -- another search over the same lines and as many variables, of a solver that is seen in two ways
  pub working_searched : (v w b : SolverValue R) → v ≡ w → b ≡ with_search v b.search → b.search.store ≡ v.search.store → b.search.trail.vars ≡ v.search.trail.vars → IsWorking seen w → IsWorking seen b
  working_searched v w b same is store vars working = subst (IsWorking seen) (sym is) (working_with v b.search store vars (subst (IsWorking seen) (sym same) working))

  -- another ledger of the same lines
  pub working_listed : (s : SolverValue R) (now : LedgerValue) → IsLedger (seen s.recorder).problem (seen s.recorder).lines s.next now → IsWorking seen s → IsWorking seen (with_ledger s now)
  working_listed s now listed working =
      let held = working.taken.held in
      record {
        begun = working.begun;
        whole = working.whole;
        taken = record {
          held = record {
            state = held.state;
            replay = held.replay;
            fits = held.fits;
            is = held.is;
            row_count = held.row_count;
            positive = held.positive;
            stored = held.stored;
            vars = held.vars;
            listed = listed;
          };
          all = working.taken.all;
          vars = working.taken.vars;
          unended = working.taken.unended;
        };
        earned = working.earned;
        within = working.within;
      }

  -- work that stops here is done in good order
  pub done_working : (s : SolverValue R) → IsWorking seen s → IsDone seen s
  done_working s working = record { whole = working.whole; earned = working.earned; held = working.taken.held }

  -- ---- steps

  -- no line was added
  pub steps_unchanged : (v w b : SolverValue R) → v ≡ w → b.limit ≡ v.limit → b.broken ≡ v.broken → KeepsRecorder (seen v.recorder) (seen b.recorder) → (seen b.recorder).lines ≡ (seen v.recorder).lines
      → IsWorking seen w → StepsFrom seen w b
  steps_unchanged v w b same limit broken kept lines working =
      let here : IsWorking seen v = subst (IsWorking seen) (sym same) working in
      subst (λ (s : SolverValue R). StepsFrom seen s b) same (record {
        begun = broken ∙ here.begun;
        limit = limit;
        kept = kept;
        within = subst (λ (ls : List Line). IsWithin v.limit (seen v.recorder).problem ls) (sym lines) here.within;
        adds = subst (λ (ls : List Line). AddsSearchLines (seen v.recorder).problem (seen v.recorder).lines ls) (sym lines) (none_law (seen v.recorder).problem (seen v.recorder).lines).adds;
      })

  -- the recorder wasn't called
  pub steps_none : (v w b : SolverValue R) → v ≡ w → b.recorder ≡ v.recorder → b.limit ≡ v.limit → b.broken ≡ v.broken → IsWorking seen w → StepsFrom seen w b
  steps_none v w b same recorder limit broken working =
      steps_unchanged v w b same limit broken (subst (λ (r : R). KeepsRecorder (seen v.recorder) (seen r)) (sym recorder) (kept_none (seen v.recorder)))
      (ap (λ (r : R). (seen r).lines) recorder) working

  -- no clause was learned either
  pub learns_unchanged : (v w : SolverValue R) (new : List Line) → v ≡ w → new ≡ (seen v.recorder).lines → AddsLearned (seen w.recorder).problem (seen w.recorder).lines new
  learns_unchanged v w new same lines = subst (λ (s : SolverValue R). AddsLearned (seen s.recorder).problem (seen s.recorder).lines new) same
      (subst (λ (ls : List Line). AddsLearned (seen v.recorder).problem (seen v.recorder).lines ls) (sym lines) (none_law (seen v.recorder).problem (seen v.recorder).lines))

  -- steps after steps that imply nothing
  pub steps_twice : (a b c : SolverValue R) → LearnsAlone seen a b → b.limit ≡ a.limit → KeepsRecorder (seen a.recorder) (seen b.recorder) → StepsFrom seen b c → StepsFrom seen a c
  steps_twice a b c learns limit kept steps = record {
    begun = steps.begun;
    limit = steps.limit ∙ limit;
    kept = kept_twice (seen a.recorder) (seen b.recorder) (seen c.recorder) kept steps.kept;
    within = subst (λ (p : ProblemValue). IsWithin a.limit p (seen c.recorder).lines) kept.problem
        (subst (λ (l : Option ℕ). IsWithin l (seen b.recorder).problem (seen c.recorder).lines) limit steps.within);
    adds = then_law (seen a.recorder).problem (seen a.recorder).lines (seen b.recorder).lines (seen c.recorder).lines learns
        (subst (λ (p : ProblemValue). AddsSearchLines p (seen b.recorder).lines (seen c.recorder).lines) kept.problem steps.adds);
  }

  -- the same of a solver that is seen in two ways
  pub steps_after : (v w b c : SolverValue R) → v ≡ w → AddsLearned (seen v.recorder).problem (seen v.recorder).lines (seen b.recorder).lines → b.limit ≡ v.limit → KeepsRecorder (seen v.recorder) (seen b.recorder)
      → StepsFrom seen b c → StepsFrom seen w c
  steps_after v w b c same learns limit kept steps = subst (λ (s : SolverValue R). StepsFrom seen s c) same (steps_twice v b c learns limit kept steps)

  -- ---- implied clauses

  pub implies_unchanged : (v w : SolverValue R) (new : List Line) (P : ConstraintValue → Type 0) → v ≡ w → new ≡ (seen v.recorder).lines
      → (first after : List Line) (goal : ConstraintValue) (hints : List Hint) → new ≡ (seen w.recorder).lines ++ (first ++ (Rup goal hints ∷ after)) → P goal
  implies_unchanged v w new P same lines = none_implied (seen w.recorder).problem (seen w.recorder).lines new P (learns_unchanged v w new same lines)
