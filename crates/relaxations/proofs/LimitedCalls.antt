-- What a call with a limit of its own leaves, and literals that may still be assumed after other lines.
use Rattle.std.proofs.Common.{◌≡◌, ℕ, arith, true, false, Option, None, Some, Result, Ok, Err, List, refl, subst}
use Rattle.std.proofs.lemmas.List.Elements.{All-weaker}
use Rattle.scut_base.specs.Literal.{Literal}
use Rattle.pb_lin.specs.Constraint.{IsVariable}
use Rattle.pb_lin.specs.Problem.{ProblemValue}
use Rattle.proof_laws.specs.State.{StateValue}
use Rattle.proof_laws.specs.Replay.{IsReplay}
use Rattle.proof_rules.specs.Recording.{Snapshot}
use Rattle.oracle.specs.Solving.{AnswersWithin, AreAssumptions, Reaches, lesser}
use Rattle.oracle.specs.declared.answer.Answer.{Answer}
use Rattle.oracle.specs.declared.fault.OracleFault.{OracleFault}
use Rattle.oracle.specs.declared.fault.OracleFault.TheVariants.{Spent, Failed, Full, NoMemory}
use Rattle.scut_base.specs.Faults.{Rose}
use Rattle.totalizer.specs.Keeping.{OwnLinesStay}
use Rattle.search_base.specs.Good.{GoesOn}
use Rattle.search_base.specs.Laws.{AskingStaysGood, TurnLinesJoin, TurnLinesKeepOwn}
use Rattle.search_base.specs.declared.objective_bound.ObjectiveBound.{ObjectiveBound}
use Rattle.relaxations.specs.Spending.{has_spent}
use Rattle.relaxations.specs.Telling.{SeeksOn}
use Rattle.relaxations.proofs.Calls.{seeks_answered, seeks_asked}
use Rattle.relaxations.proofs.Limited.{own_fault, within_own}

-- which answer says that so many clauses were learned
spent_is : (most : ℕ) (r : Result Answer OracleFault) → has_spent most r ≡ true → (learned : ℕ) × (r ≡ Err (Spent learned))
spent_is most (Ok x) is = cc
spent_is most (Err (Spent learned)) is = (learned, refl)
spent_is most (Err Failed) is = cc
spent_is most (Err Full) is = cc
spent_is most (Err NoMemory) is = cc

module _ (law : AskingStaysGood) (join : TurnLinesJoin) (a b : Snapshot) (asked : List ObjectiveBound) (most : ℕ) (lits : List Literal) where
  -- such a call has answered
  abbrev Answered : Result Answer OracleFault → Type 0
  Answered r = AnswersWithin a b (lesser a.limit most) lits r

  -- as many clauses were learned as may be
  pub spent_seeks : (r : Result Answer OracleFault) → Answered r → has_spent most r ≡ true → SeeksOn {T = Option Answer} a b asked asked (Ok None)
  spent_seeks r call is =
      let spent = spent_is most r is in
      let here : Answered (Err (Spent spent.0)) = subst Answered spent.1 call in
      seeks_answered law join a b asked here.keeps here.lines (within_own a.limit most a.problem b.lines here.within) here.fault.1
      (here.earned tt) (Ok None) tt

  -- there is an answer
  pub answer_seeks : (r : Result Answer OracleFault) → Answered r → (x : Answer) → r ≡ Ok x → SeeksOn {T = Option Answer} a b asked asked (Ok (Some x))
  answer_seeks r call x is =
      let here : Answered (Ok x) = subst Answered is call in
      seeks_answered law join a b asked here.keeps here.lines (within_own a.limit most a.problem b.lines here.within) here.whole
      (here.earned tt) (Ok (Some x)) tt

  -- there is none, for another reason
  pub fault_seeks : (r : Result Answer OracleFault) → Answered r → (f : OracleFault) → r ≡ Err f → has_spent most r ≡ false
      → SeeksOn {T = Option Answer} a b asked asked (Err f)
  fault_seeks r call f is less =
      let here : Answered (Err f) = subst Answered is call in
      let plain : SeeksOn {T = Answer} a b asked asked (Err f) =
      seeks_asked law join a b asked here.keeps here.lines (within_own a.limit most a.problem b.lines here.within) (Err f) tt here.earned
      (own_fault a.limit most a.problem b.lines (Rose a.faults b.faults) b.broken f
      (subst (λ (q : Result Answer OracleFault). has_spent most q ≡ false) is less) here.fault) in
      record { good = plain.good; fault = plain.fault; goes_on = plain.goes_on }

-- literals that may be assumed still may after more lines
pub assumed_later : OwnLinesStay → TurnLinesKeepOwn → (a b : Snapshot) (s : StateValue) (lits : List Literal) → IsReplay a.problem a.lines s
    → GoesOn a b → Reaches a.problem a.lines (λ u. AreAssumptions u.vars lits) → Reaches b.problem b.lines (λ u. AreAssumptions u.vars lits)
assumed_later own keep a b s lits reached on assumed t other =
    let later = own a.problem a.lines b.lines s t (keep a.problem a.lines b.lines on.lines) reached
    (subst (λ (p : ProblemValue). IsReplay p b.lines t) on.problem other) in
    let were = assumed s reached in
    record {
      variables = All-weaker (λ (l : Literal). IsVariable s.vars l.var) (λ (l : Literal). IsVariable t.vars l.var)
          (λ l is. let more = later.vars in let most = is.1 in (is.0, omega arith)) lits were.variables;
      apart = were.apart;
    }
