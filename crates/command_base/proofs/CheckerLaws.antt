-- The answers of a checker, as those of what takes a log.
use Rattle.std.proofs.Common.{◌≡◌, ℕ, List, ap₂, subst, sym, ℤ}
use Rattle.std.specs.Prelude.{Result, Ok, Err, OnOk}
use Rattle.pb_lin.specs.Problem.{ProblemValue}
use Rattle.proof_laws.specs.declared.why.Why.{Why}
use Rattle.log_checker.specs.Checking.{CheckerValue}
use Rattle.log_checker.specs.declared.fault.CheckFault.{CheckFault}
use Rattle.log_checker.specs.declared.fault.CheckFault.TheVariants.{Refused as LineRefused, ListRefused, NoMemory as CheckNoMemory}
use Rattle.command_base.specs.Judging.{JudgedBy, judged_by, line_answer}
use Rattle.command_base.specs.declared.log_file.LineFault.{LineFault}
use Rattle.command_base.specs.declared.log_file.LineFault.TheVariants.{Refused}

-- a checker that judges by the same
pub judges_alike : (c d : CheckerValue) → d.problem ≡ c.problem → d.vectors ≡ c.vectors → judged_by d ≡ judged_by c
judges_alike c d problem vectors = ap₂ (λ (p : ProblemValue) (vs : List (List ℤ)). let r : JudgedBy = record { problem = p; vectors = vs } in r) problem vectors

-- a refusal is the checker's
pub refusal_is : (answer : Result (Unit {0}) CheckFault) (k : ℕ) (why : Why) → line_answer answer ≡ Err (Refused k why) → answer ≡ Err (LineRefused k why)
refusal_is (Ok done) k why is = absurd cc
refusal_is (Err (LineRefused j other)) k why is = cc
refusal_is (Err (ListRefused j other)) k why is = absurd cc
refusal_is (Err CheckNoMemory) k why is = absurd cc

-- what is so where the checker takes a piece is so where the piece is taken
pub taken_where : (P : Type 0) (answer : Result (Unit {0}) CheckFault) (taken : Result (Unit {0}) LineFault) → taken ≡ line_answer answer → OnOk answer P → OnOk taken P
taken_where P (Ok done) taken is holds = subst (λ (r : Result (Unit {0}) LineFault). OnOk r P) (sym is) holds
taken_where P (Err (LineRefused j other)) taken is holds = subst (λ (r : Result (Unit {0}) LineFault). OnOk r P) (sym is) tt
taken_where P (Err (ListRefused j other)) taken is holds = subst (λ (r : Result (Unit {0}) LineFault). OnOk r P) (sym is) tt
taken_where P (Err CheckNoMemory) taken is holds = subst (λ (r : Result (Unit {0}) LineFault). OnOk r P) (sym is) tt
