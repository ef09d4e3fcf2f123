-- A clause whose literals' opposites are assumed.
use Rattle.std.proofs.Common.{◌≡◌, ℕ, Some, List, map, All, sym, subst}
use Rattle.std.specs.Prelude.{Contains, Option, Result, Ok, IfOk, IfSome}
use Rattle.scut_base.specs.declared.memory.NoMemory.{NoMemory}
use Rattle.oracle.specs.declared.answer.Core.{Core}
use Rattle.recording.specs.declared.advice.ClauseLine.{ClauseLine}
use Rattle.scut_base.specs.Literal.{Literal}
use Rattle.pb_lin.specs.Constraint.{ConstraintValue, literals, opposite}
use Rattle.proof_rules.specs.Recording.{Snapshot}
use Rattle.oracle.specs.Solving.{IsCore, Reaches}
use Rattle.oracle.proofs.ClauseCores.{clause_core}
use Rattle.recording.specs.Recorded.{IsClauseNow}

-- such a clause leaves the assumptions a core
pub core_now : (b : Snapshot) (assumed core : List Literal) (id n : ℕ) (c : ConstraintValue)
    → core ≡ map opposite (literals c.terms) → n ≡ id → All (Contains assumed) core → IsClauseNow b id c
    → Reaches b.problem b.lines (IsCore assumed core n)
core_now b assumed core id n c lits named among live s reached =
    let kept = live s reached in
    subst (λ (m : ℕ). IsCore assumed core m s) (sym named) (clause_core s assumed core id c kept.0 kept.1 lits among)

-- the same of what was answered
pub closed_now : (b : Snapshot) (assumed : List Literal) (o : Option ClauseLine) (l : ClauseLine) → o ≡ Some l
    → IfSome o (λ m. IsClauseNow b m.id m.clause) → (r : Result (Option Core) NoMemory) (k : Core) → r ≡ Ok (Some k)
    → IfOk r (λ q. IfSome q (λ m. m.id ≡ l.id))
    → IfOk r (λ q. IfSome q (λ m. m.lits ≡ map opposite (literals l.clause.terms)))
    → IfOk r (λ q. IfSome q (λ m. All (Contains assumed) m.lits))
    → Reaches b.problem b.lines (IsCore assumed k.lits k.id)
closed_now b assumed o l one live r k is id opposites among =
    core_now b assumed k.lits l.id k.id l.clause
    (subst (λ (q : Result (Option Core) NoMemory). IfOk q (λ p. IfSome p (λ m. m.lits ≡ map opposite (literals l.clause.terms)))) is opposites)
    (subst (λ (q : Result (Option Core) NoMemory). IfOk q (λ p. IfSome p (λ m. m.id ≡ l.id))) is id)
    (subst (λ (q : Result (Option Core) NoMemory). IfOk q (λ p. IfSome p (λ m. All (Contains assumed) m.lits))) is among)
    (subst (λ (q : Option ClauseLine). IfSome q (λ m. IsClauseNow b m.id m.clause)) one live)
