-- A live clause whose literals' opposites are assumed, in the state that a recorder has reached.
use Rattle.std.proofs.Common.{◌≡◌, ℕ, Some, None, Ok, Err, true, List, map, ap, sym, subst, ◌∙◌}
use Rattle.std.specs.Prelude.{Option, Result, IfOk, IfSome}
use Rattle.std.specs.List.{All, Contains}
use Rattle.std.specs.FinMap.{get}
use Rattle.scut_base.specs.Literal.{Literal}
use Rattle.scut_base.specs.declared.memory.NoMemory.{NoMemory}
use Rattle.pb_lin.specs.Constraint.{ConstraintValue, literals, opposite}
use Rattle.proof_laws.specs.State.{StateValue}
use Rattle.proof_laws.specs.Refusal.{is_clause}
use Rattle.proof_laws.specs.Replay.{IsReplay}
use Rattle.proof_laws.proofs.Replays.{replay_once}
use Rattle.proof_rules.specs.Recording.{Snapshot}
use Rattle.oracle.specs.Solving.{IsCore, Reaches}
use Rattle.oracle.specs.declared.answer.Core.{Core}
use Rattle.oracle.proofs.ClauseCores.{clause_core}

-- it leaves the assumptions a core
pub core_here : (a : Snapshot) (s : StateValue) (assumed lits : List Literal) (id n : ℕ) (c : ConstraintValue)
    → IsReplay a.problem a.lines s → get s.live id ≡ Some c → is_clause c ≡ true → n ≡ id
    → lits ≡ map opposite (literals c.terms) → All (Contains assumed) lits → Reaches a.problem a.lines (IsCore assumed lits n)
core_here a s assumed lits id n c reached live clause named are among t other =
    subst (IsCore assumed lits n) (replay_once a.problem a.lines s t reached other)
    (subst (λ (m : ℕ). IsCore assumed lits m s) (sym named) (clause_core s assumed lits id c live clause are among))

-- the same of what is told of the clause
pub core_told : (a : Snapshot) (s : StateValue) (assumed ls : List Literal) (id : ℕ) (c : ConstraintValue)
    → IsReplay a.problem a.lines s → get s.live id ≡ Some c → is_clause c ≡ true → ls ≡ literals c.terms
    → (r : Result (Option Core) NoMemory) → IfOk r (λ q. IfSome q (λ k. k.id ≡ id))
    → IfOk r (λ q. IfSome q (λ k. k.lits ≡ map opposite ls)) → IfOk r (λ q. IfSome q (λ k. All (Contains assumed) k.lits))
    → IfOk r (λ q. IfSome q (λ k. Reaches a.problem a.lines (IsCore assumed k.lits k.id)))
core_told a s assumed ls id c reached live clause same (Ok (Some k)) named are among =
    core_here a s assumed k.lits id k.id c reached live clause named (are ∙ ap (map opposite) same) among
core_told a s assumed ls id c reached live clause same (Ok None) named are among = tt
core_told a s assumed ls id c reached live clause same (Err e) named are among = tt
