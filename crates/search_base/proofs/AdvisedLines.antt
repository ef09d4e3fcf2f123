-- Lines that are taken of whoever hands them in leave lines prepared.
use Rattle.std.proofs.Common.{◌≡◌, ℕ, Option, None, Some, List, [], ap, refl, sym, subst, ◌∙◌, arith}
use Rattle.std.proofs.lemmas.List.Elements.{All-weaker}
use Rattle.pb_lin.specs.Problem.{ProblemValue}
use Rattle.proof_laws.specs.State.{StateValue}
use Rattle.proof_laws.specs.declared.line.Line.{Line}
use Rattle.proof_laws.specs.declared.line.Line.TheVariants.{Pol, Rup, Def, Red}
use Rattle.proof_laws.proofs.Replays.{replay_once}
use Rattle.proof_rules.specs.Recording.{Snapshot}
use Rattle.oracle.specs.Solving.{IsWithin}
use Rattle.recording.specs.Advice.{IsAdvice}
use Rattle.recording.proofs.Advised.{advised_stays_earned_law}
use Rattle.sum_outputs.specs.Adding.{IsReached}
use Rattle.search_base.specs.Logged.{logged, logged_by}
use Rattle.search_base.specs.Laws.{AdvisedStaysPrepared}
use Rattle.search_base.proofs.LoggedVectors.{none_logged}

pub silent : (p : ProblemValue) (line : Line) → IsAdvice line → logged_by p line ≡ []
silent p (Pol tokens) is = refl
silent p (Rup goal hints) is = refl
silent p (Def var sum) is = refl
silent p (Red goal w proofs) is = refl
silent p line is = absurd is

-- no more is learned
pub as_many : (a b : Snapshot) (s t : StateValue) (limit : Option ℕ) → IsReached a s → IsReached b t → t.learned ≡ s.learned →
    IsWithin limit a.problem a.lines → IsWithin limit b.problem b.lines
as_many a b s t None reached is same within = tt
as_many a b s t (Some most) reached is same within = λ u other.
    let again : u.learned ≡ t.learned =
    ap (λ (v : StateValue). v.learned) (replay_once b.problem b.lines u t other is) in
    let fewer = within s reached in
    omega arith

pub advised_law : AdvisedStaysPrepared
advised_law a b prepared adds whole =
    let ready = prepared.ready in
    let has = adds.states ready.state ready.reached in
    let earned = prepared.earned in
    let on = advised_stays_earned_law a b ready.state has.state earned.0 adds ready.reached has.reached earned.1 in
    record {
      ready = record {
        whole = whole;
        state = has.state;
        reached = has.reached;
        unended = has.unended ready.unended;
      };
      none = ap (λ (p : ProblemValue). logged p b.lines) adds.problem
          ∙ none_logged a.problem a.lines b.lines adds.more adds.lines
          (All-weaker IsAdvice (λ (l : Line). logged_by a.problem l ≡ []) (silent a.problem) adds.more adds.kinds)
          ∙ prepared.none;
      earned = (earned.0, on.0);
      within = subst (λ (limit : Option ℕ). IsWithin limit b.problem b.lines) (sym adds.limit)
          (as_many a b ready.state has.state a.limit ready.reached has.reached on.1 prepared.within);
    }
