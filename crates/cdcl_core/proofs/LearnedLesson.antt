-- What a solver learns from a lesson, and why it learns no more.
use Rattle.std.proofs.Common.{◌≡◌, ◌≢◌, ℕ, ◌^◌, ◌<◌, ◌≤◌, false, Bool, Option, Some, List, Result, Ok, Err, OnOk, sym, ap, ◌∙◌, subst, ⊎_elim}
use Rattle.std.proofs.lemmas.Bool.{cases_lt}
use Rattle.scut_base.specs.Literal.{Literal}
use Rattle.pb_lin.specs.LineMap.{LineMap}
use Rattle.pb_lin.specs.Problem.{ProblemValue}
use Rattle.proof_laws.specs.State.{StateValue, IsState}
use Rattle.proof_laws.specs.Steps.{clause}
use Rattle.proof_laws.specs.Replay.{IsReplay}
use Rattle.proof_laws.specs.declared.line.Line.{Line}
use Rattle.proof_laws.specs.declared.line.Line.TheVariants.{Learn}
use Rattle.proof_laws.proofs.Replays.{replay_once}
use Rattle.oracle.specs.declared.fault.OracleFault.{OracleFault}
use Rattle.oracle.specs.declared.fault.OracleFault.TheVariants.{Spent, Failed, Full, NoMemory}
use Rattle.clause_prop.specs.Steps.{TrailValue}
use Rattle.cdcl_trail.specs.SearchTrail.{IsSearchTrail}
use Rattle.cdcl_trail.specs.Learning.{AreHints}
use Rattle.cdcl_state.specs.Analysis.{IsLesson}
use Rattle.cdcl_state.specs.declared.lesson.Lesson.{Lesson}
use Rattle.cdcl_state.specs.Searching.{SearchValue, IsBackTo}
use Rattle.cdcl_core.specs.Work.{SolverValue, IsDone, IsWorking, Stops}
use Rattle.proof_rules.specs.Recording.{Snapshot}
use Rattle.cdcl_core.specs.Learnable.{IsLearnable, MayLearn}
use Rattle.cdcl_core.proofs.LineCounts.{full_lines}
use Rattle.cdcl_core.proofs.LearnedLine.{has_more}
use Rattle.cdcl_core.proofs.Working.{done_working}

pub learnable : (old new : SearchValue) (lesson : Lesson) (line : Line) → IsSearchTrail old.store old.trail → IsLesson old.store old.trail lesson → new.store ≡ old.store
    → IsBackTo lesson.level old.trail new.trail → line ≡ Learn (clause lesson.lits) lesson.hints → IsLearnable new lesson.level lesson.lit line
learnable old new lesson line search is store back learns =
    let vars : new.trail.vars ≡ old.trail.vars = ap (λ (t : TrailValue). t.vars) back.is in
    record {
      before = old.trail;
      lits = lesson.lits;
      hints = lesson.hints;
      learns = learns;
      ready = record {
        vars = sym vars;
        search = subst (λ (m : LineMap). IsSearchTrail m old.trail) (sym store) search;
        asserting = is.asserting;
        back = back;
      };
      proved = subst (λ n. AreHints new.store n lesson.lits lesson.hints) (sym vars) (subst (λ (m : LineMap). AreHints m old.trail.vars lesson.lits lesson.hints) (sym store) is.hints);
    }

-- ---- where no more may be learned

pub spent_stops : {R : Type 0} (seen : R → Snapshot) (v : SolverValue R) (level : ℕ) (l : Literal) (line : Line) → IsWorking seen v → IsLearnable v.search level l line
    → (s : StateValue) (f : OracleFault) (learned faults : ℕ) → IsReplay (seen v.recorder).problem (seen v.recorder).lines s → (2 ^ 61 ≤ s.lines → f ≡ Full) → (s.lines < 2 ^ 61 → f ≡ Spent learned)
    → v.limit ≡ Some learned → learned ≡ s.learned → Stops v.limit faults (seen v.recorder) (IsDone seen v) f
spent_stops seen v level l line work can s f learned faults replay full spent reached count =
    let p = (seen v.recorder).problem in
    let lines = (seen v.recorder).lines in
    let same : work.taken.held.state ≡ s = replay_once p lines work.taken.held.state s work.taken.held.replay replay in
    ⊎_elim
    (λ (room : s.lines < 2 ^ 61). subst (Stops v.limit faults (seen v.recorder) (IsDone seen v)) (sym (spent room)) (
      record {
        limit = reached;
        reached = λ t other. ap (λ (u : StateValue). u.learned) (replay_once p lines t s other replay) ∙ sym count;
        more = has_more seen v level l line work can s replay room;
      },
      done_working seen v work,
    ))
    (λ (none : 2 ^ 61 ≤ s.lines). subst (Stops v.limit faults (seen v.recorder) (IsDone seen v)) (sym (full none))
    (full_lines p lines s replay (subst IsState same work.taken.held.is) none))
    (cases_lt s.lines (2 ^ 61))

pub may_learn : (p : ProblemValue) (limit : Option ℕ) (lines : List Line) (s : StateValue) (learned : ℕ) → IsReplay p lines s → learned ≡ s.learned → limit ≢ Some learned → MayLearn limit p lines
may_learn p limit lines s learned replay count other t reached same =
    other (same ∙ ap (λ (u : StateValue). Some u.learned) (replay_once p lines t s reached replay) ∙ ap Some (sym count))

-- ---- results

pub ok_then : {X E : Type 0} (P Q : Type 0) (r : Result X E) → (P → Q) → OnOk r P → OnOk r Q
ok_then P Q (Ok x) then is = then is
ok_then P Q (Err e) then is = tt
